-- The library's bytes of the number, written over a part of the slice.
use Rattle.std.proofs.Common.{◌∙◌, arith}
use Rattle.wire.proofs.Splice.{put_mid-splice}
use Rattle.wire.proofs.Field.{to_le_bytes-64, length-le_bytes}
use Rattle.wire.proofs.U64Number.write.Goals as goal

pub returns : goal.returns
returns c =
    put_mid-splice _ _ _ _ _ (c.copy_from_slice.ensures.after ∙ rw c.to_le_bytes-bytes.ensures (to_le_bytes-64 c.args.self))
    (omega (arith, length-le_bytes 8 c.args.self))
