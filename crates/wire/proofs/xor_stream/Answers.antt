-- The invariant: x folds to the exclusive or of the words before the index. A turn takes one word more.
use Rattle.std.proofs.Common.{sym, arith, rules}
use Rattle.wire.specs.Bytes.{le_bytes, xor}
use Rattle.wire.proofs.Fold.{fold-xor, first_words-next}
use Rattle.wire.proofs.xor_stream.Goals as goal

pub loop-bytes-init : goal.loop-bytes-init
unfolding xor le_bytes
loop-bytes-init c = search rules

pub loop-bytes-preserved : goal.loop-bytes-preserved
loop-bytes-preserved c =
    let l = c.loop-bytes in
    rw (fold-xor, l.invariant, c.word-x.ensures) (sym (first_words-next l.bytes-index c.args.words.now (omega arith)))
