-- With has_checksum the exclusive or of the used bytes is compared, without it the checksum byte.
use Rattle.rules.specs.Checksum.{checksum_holds}
use Rattle.walk.proofs.check.checksum_holds.Goals as goal

pub returns-then-has_checksum : goal.returns-then-has_checksum
unfolding checksum_holds
returns-then-has_checksum c =
    simp (← c.args.list.read, ← c.has_checksum.ensures, c.if-has_checksum.true, ← c.xor.ensures)

pub returns : goal.returns
unfolding checksum_holds
returns c = simp (← c.args.list.read, ← c.has_checksum.ensures, c.if-has_checksum.false)
