-- The number of the four bytes is the field.
use Rattle.std.proofs.Common.{◌∙◌}
use Rattle.wire.proofs.Field.{four-bytes}
use Rattle.wire.proofs.U32Number.read.Goals as goal

pub returns : goal.returns
returns c = c.from_le_bytes.ensures ∙ four-bytes c.args.s.now c.args.at
