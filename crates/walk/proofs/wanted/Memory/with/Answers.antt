-- The tests are those of the rule: an entry of another kind, one behind the found one, the wanted one, and one before it.
use Rattle.std.proofs.Common.{eq-eqb, ne_eqb}
use Rattle.walk.proofs.wanted.Memory.with.Goals as goal

pub returns-then-not-wants : goal.returns-then-not-wants
returns-then-not-wants c = simp (← c.wants.ensures, c.if-not-wants.true)

pub returns-in_default : goal.returns-in_default
returns-in_default c =
    simp (← c.wants.ensures, c.if-not-wants.false, c.in_default.is)

pub returns-then-self-eq0 : goal.returns-then-self-eq0
returns-then-self-eq0 c =
    simp (← c.wants.ensures, c.if-not-wants.false, c.in-None.is, eq-eqb _ _ c.if-self-eq0.true)

pub returns : goal.returns
returns c =
    simp (← c.wants.ensures, c.if-not-wants.false, c.in-None.is, ne_eqb _ _ c.if-self-eq0.false)
