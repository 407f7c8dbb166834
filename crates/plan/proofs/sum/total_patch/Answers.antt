-- By the test of has_checksum, as in the definition; each number's exclusive or is what its call ensures.
use Rattle.plan.specs.Plan.{total_patch}
use Rattle.plan.proofs.sum.total_patch.Goals as goal

pub returns-then-has_checksum : goal.returns-then-has_checksum
unfolding total_patch
returns-then-has_checksum c =
    simp (← c.has_checksum.ensures, c.if-has_checksum.true, c.fold.ensures, c.fold-then-has_checksum.ensures)

pub returns : goal.returns
unfolding total_patch
returns c = simp (← c.has_checksum.ensures, c.if-has_checksum.false)
