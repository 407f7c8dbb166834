-- Each cause is the rule's, in its order.
use Rattle.rules.specs.Certificate.{refuses_contents}
use Rattle.certificate.proofs.contents.refuses_contents.Goals as goal

pub returns : goal.returns
unfolding refuses_contents
returns c =
    simp (
      c.unknown_kind.ensures,
      c.counts_exceed.ensures,
      c.not_finite.ensures,
      c.float.ensures,
      c.not_finite-2.ensures,
      c.float-2.ensures,
      c.not_finite-3.ensures,
      c.float-3.ensures,
      c.not_finite-4.ensures,
      c.float-4.ensures,
      c.not_finite-5.ensures,
      c.reading_of.ensures,
      c.not_above_zero.ensures,
      c.float-5.ensures,
      c.unused_not_zero.ensures,
      c.low_exceeds_high.ensures,
    )
