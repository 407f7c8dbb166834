-- The padding ends at the next multiple of 4: it is too long, not zero, or there.
use mathlib.Core.Path.{refl}
use Rattle.devicetree.proofs.PartLaws.{padding_long, padding_tested}
use Rattle.devicetree.proofs.parts.padding.Goals as goal

pub returns-then-s-n : goal.returns-then-s-n
returns-then-s-n c = padding_long c.if-s-n.true

pub returns : goal.returns
returns c = padding_tested refl c.if-s-n.false c.zeros.ensures c.then_some.ensures
