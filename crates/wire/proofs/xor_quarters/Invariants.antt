-- The invariant: x folds to the exclusive or of the first i words of all four quarters.
use Rattle.std.proofs.Common.{◌≡◌}
use Rattle.wire.specs.Bytes.{le_bytes, xor}
use Rattle.wire.proofs.Fold.{first_words, of_four}
use Rattle.wire.proofs.xor_quarters.Given as goal

abbrev pub invariant-loop-i : goal.invariant-loop-i
invariant-loop-i l = xor (le_bytes 8 l.x) ≡ of_four (first_words l.i) l.first l.second l.third l.fourth
