-- A property is there where its value is and the name that it points at.
use Rattle.devicetree.proofs.PartLaws.{property-named}
use Rattle.devicetree.proofs.blocks.Blocks.property.Goals as goal

pub returns : goal.returns
returns c = property-named c.value.ensures c.cell-name.ensures c.first_zero.ensures c.in_ok-n.was c.in_ok-first_zero.was
