-- The bytes of a number made of eight bytes are those bytes.
use Rattle.wire.proofs.Field.{le_bytes-word}
use Rattle.wire.proofs.word.Goals as goal

pub returns : goal.returns
returns c = le_bytes-word c.args.bytes.now c.from_le_bytes.result c.told-bytes c.fits-bytes c.from_le_bytes.ensures
