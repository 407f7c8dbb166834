-- Fewer than 8 bytes have no header; else write8 writes its eight bytes.
use mathlib.Core.Path.{sym, ap, ◌∙◌}
use Prim.Native.Nat.{ℕ, ◌-◌}
use native.Mathlib.Omega.{arith}
use Rattle.wire.specs.Bytes.{le_bytes, splice}
use Rattle.wire.proofs.Splice.{splice-nil}
use Rattle.laws.proofs.EntryBytes.{entry_word_lem}
use Rattle.plan.proofs.Laws.{no_header, some-header}
use Rattle.plan.proofs.write.write_void_header.Goals as goal

pub returns-then-n-lt8 : goal.returns-then-n-lt8
returns-then-n-lt8 c =
    let a = c.args in
    sym (ap (splice a.a.now a.at) (no_header a.n (omega arith)) ∙ splice-nil a.a.now a.at)

pub returns : goal.returns
returns c =
    let a = c.args in
    c.write.ensures
    ∙ ap (λ (w : ℕ). splice a.a.now a.at (le_bytes 8 w)) c.entry_word.ensures
    ∙ ap (splice a.a.now a.at) (entry_word_lem 0 (a.n - 8) (omega arith) ∙ sym (some-header a.n (omega arith)))
