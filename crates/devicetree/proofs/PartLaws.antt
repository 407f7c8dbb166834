-- Laws of names, padding and properties.
use mathlib.Core.Path.{◌≡◌, sym, subst, ◌∙◌}
use Prim.Native.Nat.{ℕ, ◌+◌, ◌*◌, ◌/◌, ◌≤◌, ◌<◌}
use native.Mathlib.Omega.{arith}
use mathlib.Core.Bool.{Bool}
use mathlib.Core.List.{List}
use lib.ListN.{length, get_or}
use Rattle.std.specs.Bool.{then_some}
use Rattle.std.proofs.Common.{Option, Some, None, MatchOption}
use Rattle.devicetree.specs.Header.{cell, Zeros}
use Rattle.devicetree.specs.Structure.{Ends, Padding, Name, Value, Property}
use Rattle.devicetree.specs.Decided.{Answers, yes, no, Decides}
use Rattle.devicetree.proofs.Deciding.{decided, refuted, holds, only, never, Same, none_yet}

-- no zero byte stands from a place up to another
abbrev pub Letters : List ℕ → ℕ → ℕ → Type 0
Letters s at p = (k : ℕ) → at ≤ k → k < p → get_or s k 0 ≡ 0 → ⊥

module _ {s : List ℕ} where
  -- ---- where a name ends

  pub ends-only : {at z y : ℕ} → Ends s at z → Ends s at y → y ≡ z
  ends-only {at} {z} {y} a b =
      let f : y < z → ⊥ = λ h. a.first y b.from h b.zero in
      let g : z < y → ⊥ = λ h. b.first z a.from h a.zero in
      omega arith

  pub ends-here : {at : ℕ} → at < length s → get_or s at 0 ≡ 0 → Ends s at at
  ends-here h e = record { from = omega arith; inside = h; zero = e; first = none_yet _ }

  -- ---- padding

  pub padding_long : {at : ℕ} → length s < (at + 3) / 4 * 4 → Decides (Padding s at) None
  padding_long h = refuted (λ m x. let i = x.inside in let e = x.next in omega arith)

  -- by whether its bytes are all zero
  pub padding_tested : {at n : ℕ} {b : Bool} {r : Option ℕ} → n ≡ (at + 3) / 4 * 4 → n ≤ length s → Answers (Zeros s at n) b → r ≡ then_some b n
      → Decides (Padding s at) r
  padding_tested e h (yes z) f = rw f (decided _ (record { next = e; inside = h; zeros = z }) (λ m x. x.next ∙ sym e))
  padding_tested {at} e h (no z) f = rw f (refuted (λ m x. z (subst (λ (i : ℕ). Zeros s at i) (x.next ∙ sym e) x.zeros)))

  -- ---- a node's name

  pub name-bounds : {at n : ℕ} → Name s at n → (at < n) × (n ≤ length s)
  name-bounds w = let a = w.ends.from in let e = w.padding.next in (omega arith, w.padding.inside)

  pub name-none : {at : ℕ} {r : Option ℕ} → Decides (Ends s at) r → r ≡ None → Decides (Name s at) None
  name-none d e = refuted (λ m x. never d e x.z x.ends)

  pub name-ended : {at z : ℕ} {r : Option ℕ} → Decides (Ends s at) r → r ≡ Some z → Same (Name s at) (Padding s (z + 1))
  name-ended {at} {z} d e =
      record {
        to = λ n x. subst (λ (i : ℕ). Padding s (i + 1) n) (only d e x.z x.ends) x.padding;
        from = λ n x. record { z = z; ends = holds d e; padding = x };
      }

-- by what the library finds
pub ends_found : {s : List ℕ} {at : ℕ} {r : Option ℕ} → MatchOption r ((k : ℕ) → at ≤ k → k < length s → get_or s k 0 ≡ 0 → ⊥)
    (λ z. (at ≤ z) × (z < length s) × (get_or s z 0 ≡ 0) × Letters s at z) → Decides (Ends s at) r
ends_found {r = None} f = refuted (λ m x. f m x.from x.inside x.zero)
ends_found {s} {at} {r = Some z} h =
    let y : Ends s at z = record { from = h.0; inside = h.1; zero = h.2; first = h.3 } in decided z y (λ m x. ends-only y x)

-- ---- a property

pub value-bounds : {s : List ℕ} {at n : ℕ} → Value s at n → (at + 8 ≤ n) × (n ≤ length s)
value-bounds w = let e = w.padding.next in (omega arith, w.padding.inside)

pub property-bounds : {s t : List ℕ} {at n : ℕ} → Property s t at n → (at < n) × (n ≤ length s)
property-bounds w = let b = value-bounds w.value in (omega arith, b.1)

pub value-padding : {s : List ℕ} {at len : ℕ} → at + 8 ≤ length s → len ≡ cell s at → Same (Value s at) (Padding s (at + 8 + len))
value-padding {s} {at} h e =
    record {
      to = λ n x. subst (λ (l : ℕ). Padding s (at + 8 + l) n) (sym e) x.padding;
      from = λ n x. record { inside = h; padding = subst (λ (l : ℕ). Padding s (at + 8 + l) n) e x };
    }

module _ {s t : List ℕ} {at : ℕ} {o : Option ℕ} (D : Decides (Value s at) o) where
  module _ {name : ℕ} {r : Option ℕ} (en : name ≡ cell s (at + 4)) (d : Decides (Ends t name) r) where
    pub property-named : {n z : ℕ} → o ≡ Some n → r ≡ Some z → Decides (Property s t at) (Some n)
    property-named {n} {z} q e =
        let named = subst (λ (i : ℕ). Ends t i z) en (holds d e) in
        decided n (record { value = holds D q; z = z; name = named }) (λ m x. only D q m x.value)
