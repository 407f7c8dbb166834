-- Behind the end a store changes nothing.
use mathlib.Core.Path.{sym}
use lib.Seq.{set_out}
use Rattle.steps.proofs.advance.put.Goals as goal

pub returns-else-at-a : goal.returns-else-at-a
returns-else-at-a c = sym (set_out _ _ _ c.if-at-a.false)
