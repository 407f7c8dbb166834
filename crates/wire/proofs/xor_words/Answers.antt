-- The words are those of the quarters and those left, one behind the other.
use Rattle.wire.proofs.Fold.{fold-xor, xor-words}
use Rattle.wire.proofs.xor_words.Goals as goal

pub returns : goal.returns
returns c = rw (fold-xor, c.xor_quarters.ensures, c.xor_stream.ensures, ← xor-words, ← c.split_at.ensures.by_index.0)
