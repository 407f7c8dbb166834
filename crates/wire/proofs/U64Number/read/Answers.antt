-- A field of eight bytes is one of four and, times 256 ^ 4, the next four.
use Rattle.std.proofs.Common.{arith}
use Rattle.wire.proofs.Field.{field_split}
use Rattle.wire.proofs.U64Number.read.Goals as goal

pub returns : goal.returns
returns c =
    let a = c.args in
    omega (arith, field_split a.s.now a.at 4 4)
