-- Each edition's rule is the one that its function answers.
use Rattle.walk.proofs.check.summed.Goals as goal

pub returns-in-Current : goal.returns-in-Current
returns-in-Current c = simp (c.checksum_holds.ensures, c.in-Current.is)

pub returns-in-Edition09 : goal.returns-in-Edition09
returns-in-Edition09 c = simp (c.sum_holds.ensures, c.in-Edition09.is)
