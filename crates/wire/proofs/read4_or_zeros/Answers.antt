-- The number of the four bytes is the field.
use Rattle.std.proofs.Common.{arith}
use Rattle.wire.proofs.Field.{four-bytes}
use Rattle.wire.proofs.read4_or_zeros.Goals as goal

pub returns : goal.returns
returns c = omega (arith, c.from_le_bytes.ensures, four-bytes c.args.s.now c.args.at)
