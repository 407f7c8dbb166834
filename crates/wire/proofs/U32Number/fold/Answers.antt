-- The exclusive or of the halves, and then its two bytes one by one.
use Rattle.std.proofs.Common.{◌/◌, ◌%◌, sym, ◌∙◌, ap₂, arith}
use Rattle.wire.proofs.Fold.{both, both_is, fold_halves, fold_two}
use Rattle.wire.proofs.U32Number.fold.Goals as goal

pub returns : goal.returns
returns c =
    let n = c.args.self in
    rw (both_is (n % 65536) (n / 65536), both_is)
    (ap₂ both (omega arith) (omega arith) ∙ sym (fold_two (both (n % 65536) (n / 65536))) ∙ sym (fold_halves 2 n))
