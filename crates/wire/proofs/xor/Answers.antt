-- The bytes are those of the words and those left, one behind the other.
use Rattle.std.proofs.Common.{take-append-drop}
use Rattle.wire.proofs.XorLaws.{xor-append}
use Rattle.wire.proofs.Fold.{concat-chunks}
use Rattle.wire.proofs.xor.Goals as goal

pub returns : goal.returns
returns c =
    let chunks = c.as_chunks.ensures in
    rw (c.fold.ensures, c.xor_words.ensures, c.xor_bytes.ensures, chunks.front, chunks.back, concat-chunks, ← xor-append, take-append-drop)
