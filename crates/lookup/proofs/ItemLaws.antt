-- Laws of items: the first one wanted of a row of rows, and what is wanted inside a node.
use mathlib.Core.Path.{◌≡◌, sym, subst, ◌∙◌}
use Prim.Native.Nat.{ℕ}
use native.Mathlib.Omega.{arith}
use mathlib.Core.List.{List, [], ◌∷◌, ◌++◌, map}
use Rattle.std.proofs.Common.{Option, Some, None}
use Rattle.lookup.specs.declared.seek.Hit.{Hit}
use Rattle.lookup.specs.declared.seek.Hit.TheVariants.{Found, After}
use Rattle.lookup.specs.Lookup.{Item, within, Wanted, First, here, later, Without, nothing, other}
use Rattle.lookup.specs.Search.{Looks, found, after}

module _ {P : Item → Type 0} where
  pub without-append : {xs : List Item} (ys : List Item) → Without P xs → Without P ys → Without P (xs ++ ys)
  without-append ys nothing w = w
  without-append ys (other f v) w = other f (without-append ys v w)

  pub first-append : {o z : ℕ} {xs : List Item} (ys : List Item) → First P o z xs → First P o z (xs ++ ys)
  first-append ys (here e f p) = here e f p
  first-append ys (later f l) = later f (first-append ys l)

  pub first-behind : {o z : ℕ} {xs : List Item} (ys : List Item) → Without P xs → First P o z ys → First P o z (xs ++ ys)
  first-behind ys nothing l = l
  first-behind ys (other f v) l = later f (first-behind ys v l)

  pub looks_append : {n m o z : ℕ} {xs : List Item} (ys : List Item) {r : Option Hit} → Looks P n xs r → r ≡ Some (Found o z)
      → Looks P m (xs ++ ys) (Some (Found o z))
  looks_append {m = m} {xs = xs} ys (found l) e = subst (Looks P m (xs ++ ys)) e (found (first-append ys l))
  looks_append ys (after w) e = absurd (let z : ◌≡◌ {A = ℕ} 0 1 = cc in omega arith)

  pub looks_behind : {n : ℕ} {xs : List Item} (ys : List Item) {r : Option Hit} → Without P xs → Looks P n ys r → Looks P n (xs ++ ys) r
  looks_behind ys w (found l) = found (first-behind ys w l)
  looks_behind ys w (after v) = after (without-append ys w v)

  -- ---- what a search's answer tells

  pub looks_broken : {n : ℕ} {xs : List Item} {r : Option Hit} → Looks P n xs r → r ≡ None → ⊥
  looks_broken (found l) e = let z : ◌≡◌ {A = ℕ} 0 1 = cc in omega arith
  looks_broken (after w) e = let z : ◌≡◌ {A = ℕ} 0 1 = cc in omega arith

  pub looks_after : {n k : ℕ} {xs : List Item} {r : Option Hit} → Looks P n xs r → r ≡ Some (After k) → (n ≡ k) × Without P xs
  looks_after (found l) e = absurd (let z : ◌≡◌ {A = ℕ} 0 1 = cc in omega arith)
  looks_after (after w) e = (cc, w)

  pub looks_found : {n o z : ℕ} {xs : List Item} {r : Option Hit} → Looks P n xs r → r ≡ Some (Found o z) → First P o z xs
  looks_found {o = o} {z = z} {xs = xs} (found {o = o'} {z = z'} l) e =
      let a : o' ≡ o = cc in
      let b : z' ≡ z = cc in
      subst (λ (i : ℕ). First P i z xs) a (subst (λ (i : ℕ). First P o' i xs) b l)
  looks_found (after w) e = absurd (let z : ◌≡◌ {A = ℕ} 0 1 = cc in omega arith)

  pub first-only : {o z o' z' : ℕ} {xs : List Item} → First P o z xs → First P o' z' xs → (o ≡ o') × (z ≡ z')
  first-only (here e f p) (here g h q) = (e ∙ sym g, f ∙ sym h)
  first-only (here e f p) (later g l) = absurd (g p)
  first-only (later f l) (here e g q) = absurd (f q)
  first-only (later f l) (later g k) = first-only l k

  pub first-without : {o z : ℕ} {xs : List Item} → First P o z xs → Without P xs → ⊥
  first-without (here e g p) (other f w) = f p
  first-without (later f l) (other g w) = first-without l w

-- ---- inside a node

pub without_all : {Q : Item → Type 0} (c : List ℕ) → ((i : Item) → Q (within c i) → ⊥) → (xs : List Item) → Without Q (map (within c) xs)
without_all c f [] = nothing
without_all c f (x ∷ xs) = other (f x) (without_all c f xs)

module _ {P Q : Item → Type 0} (c : List ℕ) where
  pub without-within : ((i : Item) → Q (within c i) → P i) → {xs : List Item} → Without P xs → Without Q (map (within c) xs)
  without-within f nothing = nothing
  without-within f (other {y = y} g w) = other (λ q. g (f y q)) (without-within f w)

  pub first-within : ((i : Item) → Q (within c i) → P i) → ((i : Item) → P i → Q (within c i)) → {o z : ℕ} {xs : List Item}
      → First P o z xs → First Q o z (map (within c) xs)
  first-within f g (here {y = y} a b p) = here a b (g y p)
  first-within f g (later {y = y} h l) = later (λ q. h (f y q)) (first-within f g l)

  -- a search's answer inside a node is that outside it
  pub looks_within : ((i : Item) → Q (within c i) → P i) → ((i : Item) → P i → Q (within c i)) → {n : ℕ} {xs : List Item} {r : Option Hit}
      → Looks P n xs r → Looks Q n (map (within c) xs) r
  looks_within f g (found l) = found (first-within f g l)
  looks_within f g (after w) = after (without-within f w)

-- what is wanted inside a node, and outside it
module _ {cs : List (List ℕ)} {name c c₀ : List ℕ} where
  pub wanted_in_lem : (i : Item) → Wanted (c₀ ∷ cs) name (within c i) → Wanted cs name i
  wanted_in_lem i w = let e : (c ∷ i.under) ≡ (c₀ ∷ cs) = w.stands in record { stands = cc; named = w.named }

  pub wanted_out : c ≡ c₀ → (i : Item) → Wanted cs name i → Wanted (c₀ ∷ cs) name (within c i)
  wanted_out e i w = let p = w.stands in record { stands = cc; named = w.named }

  pub wanted_name : (i : Item) → Wanted (c₀ ∷ cs) name (within c i) → c ≡ c₀
  wanted_name i w = let e : (c ∷ i.under) ≡ (c₀ ∷ cs) = w.stands in cc

pub wanted_none : {name c : List ℕ} (i : Item) → Wanted [] name (within c i) → ⊥
wanted_none {name} {c} i w = let e : (c ∷ i.under) ≡ [] = w.stands in let z : ◌≡◌ {A = ℕ} 0 1 = cc in omega arith
