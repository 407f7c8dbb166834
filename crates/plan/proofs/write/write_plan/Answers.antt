-- Each piece continues the one before it; the padding void takes exactly the padding.
use mathlib.Core.Path.{◌≡◌, sym, ap, ◌∙◌}
use Prim.Native.Nat.{ℕ, ◌+◌, ◌≤◌}
use native.Mathlib.Omega.{arith}
use mathlib.Core.List.{List, ◌++◌, append_assoc}
use lib.ListN.{length, replicate, length-append, length-replicate}
use Rattle.wire.specs.Bytes.{splice}
use Rattle.wire.proofs.Splice.{splice-append}
use Rattle.rules.specs.Entries.{entry_header}
use Rattle.laws.proofs.EntryBytes.{length-entry_header}
use Rattle.plan.specs.Plan.{whole_void, void_header, stretch_of, after}
use Rattle.plan.proofs.Laws.{length-whole_void}
use Rattle.plan.proofs.write.write_plan.Goals as goal

-- three pieces, one behind the other
pieces : (a : List ℕ) (at : ℕ) (v e b : List ℕ) (i j : ℕ) → at ≤ length a → i ≡ at + length v → j ≡ i + length e
    → splice (splice (splice a at v) i e) j b ≡ splice a at (v ++ (e ++ b))
pieces a at v e b i j h x y =
    let z : j ≡ at + length (v ++ e) = rw length-append (omega arith) in
    rw (x, z, splice-append a at v e h, splice-append a at (v ++ e) b h, append_assoc)

pub returns : goal.returns
unfolding after stretch_of
returns c =
    let p = c.args.p in
    let s : List ℕ = c.args.«data».now in
    let void : List ℕ = whole_void p.padding in
    let entry : List ℕ = entry_header p.tag_id p.data_size ++ (s ++ replicate p.zeros 0) in
    let end : ℕ = p.at + p.padding + 8 + length s + p.zeros in
    let lv : length void ≡ p.padding = length-whole_void p.padding ∙ sym c.requires.padding in
    let le : length entry ≡ 8 + (length s + p.zeros) = simp (length-append, length-entry_header, length-replicate) in
    let k : p.at ≤ length c.write_fields.new.a = omega (arith, c.write_fields.auto.a, c.requires) in
    c.write_void_header.ensures
    ∙ ap (λ (x : List ℕ). splice x end (void_header p.behind))
    (c.write_entry.ensures ∙ ap (λ (x : List ℕ). splice x (p.at + p.padding) entry) c.write_void.ensures)
    ∙ pieces c.write_fields.new.a p.at void entry (void_header p.behind) (p.at + p.padding) end k (omega arith) (omega arith)
    ∙ ap (λ (x : List ℕ). splice x p.at (void ++ (entry ++ void_header p.behind))) c.write_fields.ensures
    ∙ simp append_assoc
