-- The exclusive or of the halves folds as the word does.
use Rattle.std.proofs.Common.{ℕ, sym, ◌∙◌, ap₂, arith}
use Rattle.wire.specs.Bytes.{le_bytes, xor}
use Rattle.wire.proofs.Fold.{both, both_is, fold_halves}
use Rattle.wire.proofs.U64Number.fold.Goals as goal

pub returns : goal.returns
returns c =
    rw (c.fold.ensures, both_is)
    (ap₂ (λ (x y : ℕ). xor (le_bytes 4 (both x y))) (omega arith) (omega arith) ∙ sym (fold_halves 4 c.args.self))
