-- Refusal 20 is the rule's; otherwise the reading, and whether it passes the gate.
use Rattle.rules.specs.Certificate.{judged}
use Rattle.certificate.proofs.contents.judge.Goals as goal

pub returns-then-refuses_contents : goal.returns-then-refuses_contents
unfolding judged
returns-then-refuses_contents c = simp (← c.refuses_contents.ensures, c.if-refuses_contents.true)

pub returns : goal.returns
unfolding judged
returns c =
    simp (
      ← c.refuses_contents.ensures,
      c.if-refuses_contents.false,
      c.passes-pass.ensures,
      c.gate_of.ensures,
      c.reading_of-reading.ensures,
    )
