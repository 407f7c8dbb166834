-- The invariant: x is the sum of the bytes before the index, modulo 256. A turn takes one byte more.
use Rattle.std.proofs.Common.{arith, rules}
use Rattle.wire.specs.Bytes.{sum}
use Rattle.wire.proofs.SumLaws.{sum-next}
use Rattle.wire.proofs.sum.Goals as goal

pub loop-byte-init : goal.loop-byte-init
unfolding sum
loop-byte-init c = search rules

pub loop-byte-preserved : goal.loop-byte-preserved
loop-byte-preserved c = omega (arith, sum-next c.args.part.now c.loop-byte.byte-index (omega arith))
