-- The zeros continue the header; up to 8 bytes have none.
use mathlib.Core.Path.{◌≡◌, sym, ap, ◌∙◌}
use Prim.Native.Nat.{ℕ, ◌+◌, ◌-◌}
use native.Mathlib.Omega.{arith}
use mathlib.Core.List.{List, append-nil}
use lib.ListN.{length, replicate}
use Rattle.wire.specs.Bytes.{splice}
use Rattle.wire.proofs.Splice.{splice-append}
use Rattle.laws.proofs.EntryBytes.{length-entry_header}
use Rattle.plan.specs.Plan.{void_header}
use Rattle.plan.proofs.Laws.{some-header, whole-void}
use Rattle.plan.proofs.write.write_void.Goals as goal

pub returns-then-n-gt8 : goal.returns-then-n-gt8
returns-then-n-gt8 c =
    let a = c.args in
    let l : List ℕ = a.a.now in
    let header : List ℕ = void_header a.n in
    let zeros : List ℕ = replicate (a.n - 8) 0 in
    let k : length header ≡ 8 = ap length (some-header a.n (omega arith)) ∙ length-entry_header 0 (a.n - 8) in
    c.zero_part.ensures
    ∙ ap (λ (x : List ℕ). splice x (a.at + 8) zeros) c.write_void_header.ensures
    ∙ ap (λ (n : ℕ). splice (splice l a.at header) (a.at + n) zeros) (sym k)
    ∙ splice-append l a.at header zeros (omega arith)
    ∙ ap (splice l a.at) (sym (whole-void a.n))

pub returns-else-n-gt8 : goal.returns-else-n-gt8
returns-else-n-gt8 c =
    let a = c.args in
    let none : a.n - 8 ≡ 0 = omega arith in
    c.write_void_header.ensures
    ∙ ap (splice a.a.now a.at) (sym (whole-void a.n ∙ rw (none, append-nil)))
