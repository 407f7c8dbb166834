-- The invariant: x folds to the exclusive or of the words before the index. A turn takes one word more.
use Rattle.std.proofs.Common.{◌≡◌}
use Rattle.wire.specs.Bytes.{le_bytes, xor}
use Rattle.wire.proofs.Fold.{first_words}
use Rattle.wire.proofs.xor_stream.Given as goal

abbrev pub invariant-loop-bytes : goal.invariant-loop-bytes
invariant-loop-bytes l = xor (le_bytes 8 l.x) ≡ first_words l.bytes-index l.words
