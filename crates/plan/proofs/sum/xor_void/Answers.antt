-- Fewer than 8 bytes have no header; else the number is that of the header's eight bytes.
use mathlib.Core.Path.{sym, ap, ◌∙◌}
use Prim.Native.Nat.{ℕ, ◌-◌}
use native.Mathlib.Omega.{arith}
use Rattle.wire.specs.Bytes.{le_bytes, xor}
use Rattle.laws.proofs.EntryBytes.{entry_word_lem}
use Rattle.plan.proofs.Laws.{no_header, some-header}
use Rattle.plan.proofs.sum.xor_void.Goals as goal

pub returns-then-n-lt8 : goal.returns-then-n-lt8
unfolding xor
returns-then-n-lt8 c = sym (ap xor (no_header c.args.n (omega arith)))

pub returns : goal.returns
returns c =
    let n : ℕ = c.args.n in
    c.fold.ensures
    ∙ ap (λ (w : ℕ). xor (le_bytes 8 w)) c.entry_word.ensures
    ∙ ap xor (entry_word_lem 0 (n - 8) (omega arith) ∙ sym (some-header n (omega arith)))
