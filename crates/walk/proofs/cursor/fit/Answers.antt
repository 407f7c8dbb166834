-- The tests are the rule's; an entry that fits ends before what is left does.
use Rattle.std.proofs.Common.{lt-ltb, le-ltb}
use Rattle.walk.proofs.cursor.fit.Goals as goal

pub returns-then-left-n : goal.returns-then-left-n
returns-then-left-n c = simp (lt-ltb _ _ c.if-left-n.true)

pub returns-then-e : goal.returns-then-e
returns-then-e c = simp (le-ltb _ _ c.if-left-n.false, c.if-e.true)

pub returns : goal.returns
returns c = simp (le-ltb _ _ c.if-left-n.false, c.if-e.false)
