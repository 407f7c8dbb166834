-- Each part is what its call ensures; of the bytes that the stretch covers the used ones are old.
use mathlib.Core.Path.{◌≡◌, sym, ap, ◌∙◌}
use Prim.Native.Nat.{ℕ, ◌-◌, min}
use native.Mathlib.Omega.{arith}
use native.Mathlib.Nat.{add-sub_cancel_left}
use mathlib.Core.List.{List}
use lib.ListN.{length, take, drop}
use Rattle.wire.specs.Bytes.{xor}
use Rattle.plan.specs.Plan.{stretch_of}
use Rattle.plan.proofs.Laws.{length-stretch_of, old-part}
use Rattle.plan.proofs.sum.patch.Goals as goal

pub returns : goal.returns
returns c =
    let p = c.args.p in
    let s : List ℕ = c.args.«data».now in
    let u : ℕ = c.args.list.header.used_size in
    let a : List ℕ = c.args.list.bytes.now in
    let new : List ℕ = stretch_of p s in
    let n = c.old_length-old.ensures ∙ ap (λ (k : ℕ). min k (u - p.at)) (sym (length-stretch_of p s c.requires.padding)) in
    let old : c.xor.result ≡ xor (take (length new) (drop p.at (take u a))) =
    c.xor.ensures
    ∙ ap (λ (k : ℕ). xor (take k (drop p.at a))) (add-sub_cancel_left p.at _ ∙ n)
    ∙ ap xor (sym (old-part a (length new) p.at u c.requires.old (omega arith))) in
    rw (← c.args.list.read, c.fold.ensures, c.fold-2.ensures, old, c.xor_stretch.ensures)
