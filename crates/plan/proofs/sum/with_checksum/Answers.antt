-- By the test of has_checksum, as in the definition; the checksum byte is what patch ensures.
use Rattle.laws.proofs.Patch.{patched}
use Rattle.plan.specs.Plan.{with_checksum}
use Rattle.plan.proofs.sum.with_checksum.Goals as goal

pub returns-then-has_checksum : goal.returns-then-has_checksum
unfolding with_checksum patched
returns-then-has_checksum c =
    rw (c.patch.ensures, ← c.args.list.read, ← c.has_checksum.ensures, c.if-has_checksum.true)

pub returns : goal.returns
unfolding with_checksum patched
returns c = rw (← c.args.list.read, ← c.has_checksum.ensures, c.if-has_checksum.false)
