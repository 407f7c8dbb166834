-- A value is there where its two numbers are and the padding behind it.
use Rattle.std.proofs.Common.{arith}
use Rattle.devicetree.proofs.Deciding.{same_decides}
use Rattle.devicetree.proofs.PartLaws.{value-padding}
use Rattle.devicetree.proofs.parts.value.Goals as goal

pub returns : goal.returns
returns c = let e = c.in_ok-checked_sub.ensures in same_decides (value-padding (omega (arith, e.0, e.1)) c.cell-len.ensures) c.padding.ensures
