-- Laws of the place behind members: what is left from where the loop is, whatever the strings block and the derivation.
use mathlib.Core.Path.{◌≡◌, sym, ap, subst}
use Prim.Native.Nat.{ℕ, suc, ◌≤◌}
use native.Mathlib.Omega.{arith}
use mathlib.Core.Bool.{Bool, true, false}
use mathlib.Core.List.{List}
use Rattle.std.proofs.Common.{Option, Some, None}
use Rattle.devicetree.specs.declared.tokens.Kind.{Kind}
use Rattle.devicetree.specs.declared.tokens.Kind.TheVariants.{BeginNode, EndNode}
use Rattle.devicetree.specs.Structure.{Name, Value, Node, Members}
use Rattle.devicetree.specs.Decided.{Decides, DecidesToken}
use Rattle.devicetree.proofs.Deciding.{holds, only, never}
use Rattle.devicetree.proofs.TokenLaws.{stands-bounds}
use Rattle.devicetree.proofs.PartLaws.{name-bounds}
use Rattle.devicetree.proofs.NodeLaws.{First, of_property, of_subnode, of_close, first_of, node-named}
use Rattle.lookup.specs.Search.{BehindNode, BehindMembers}

-- members from p on, to n
pub record Still (s t : List ℕ) (d p n : ℕ) : Type 0 where
  pub flag : Bool
  pub rest : Members s t flag d p n

-- members from a place on go on at p
abbrev pub Goes : (s : List ℕ) (d at p : ℕ) → Type 0
Goes s d at p = (t : List ℕ) (f : Bool) (n : ℕ) → Members s t f d at n → Still s t d p n

-- there are none from p on
abbrev pub Stops : (s : List ℕ) (d p : ℕ) → Type 0
Stops s d p = (t : List ℕ) (f : Bool) (n : ℕ) → Members s t f d p n → ⊥

pub goes_start : {s : List ℕ} {d at : ℕ} → Goes s d at at
goes_start t f n m = record { flag = f; rest = m }

-- ---- a node

pub skip-none : {s : List ℕ} {d at : ℕ} → ((t : List ℕ) (n : ℕ) → Node s t d at n → ⊥) → BehindNode s d at None
skip-none f =
    record {
      finds = λ t n x. absurd (f t n x);
      bounds = λ n e. absurd (let z : ◌≡◌ {A = ℕ} 0 1 = cc in omega arith);
    }

pub skip-named : {s : List ℕ} {d d' at a : ℕ} {o r : Option ℕ} → Decides (Name s at) o → o ≡ Some a → d ≡ suc d' → BehindMembers s d' a r
    → BehindNode s d at r
skip-named N h i B =
    let b = name-bounds (holds N h) in
    record {
      finds = λ t n x. B.finds t true n ((node-named N i h).to n x);
      bounds = λ n e. let c = B.bounds n e in (omega arith, c.1);
    }

-- where nothing is behind it there is none
pub nowhere_none : {s t : List ℕ} {d at n : ℕ} {r : Option ℕ} → BehindNode s d at r → r ≡ None → Node s t d at n → ⊥
nowhere_none {t = t} {n = n} B e x = let y = B.finds t n x in let z : ◌≡◌ {A = ℕ} 0 1 = cc in omega arith

-- ---- members

pub behind-none : {s : List ℕ} {d at p : ℕ} → Goes s d at p → Stops s d p → BehindMembers s d at None
behind-none g h =
    record {
      finds = λ t f n m. let x = g t f n m in absurd (h t x.flag n x.rest);
      bounds = λ n e. absurd (let z : ◌≡◌ {A = ℕ} 0 1 = cc in omega arith);
    }

module _ {s : List ℕ} {p : ℕ} {r : Option (Kind × ℕ)} (T : DecidesToken s p r) {k : Kind} {a : ℕ} (q : r ≡ Some (k, a)) {d : ℕ} where
  pub behind-close : {at : ℕ} → at ≤ p → Goes s d at p → k ≡ EndNode → BehindMembers s d at (Some a)
  behind-close {at} h g e =
      let b = stands-bounds T q in
      record {
        finds = λ t f n m. let x = g t f n m in go (first_of T q n x.rest);
        bounds = λ n i. let j : a ≡ n = cc in (omega arith, omega arith);
      }
    where
      go : {t : List ℕ} {f : Bool} {n : ℕ} → First s t f d k a n → Some a ≡ Some n
      go (of_property u v m x w) = absurd cc
      go (of_subnode u m x w) = absurd cc
      go (of_close u v) = ap Some (sym v)

  -- a subnode
  module _ (e : k ≡ BeginNode) {o : Option ℕ} (B : BehindNode s d a o) where
    pub stops-node : o ≡ None → Stops s d p
    stops-node j t f n m = go (first_of T q n m)
      where
        go : First s t f d k a n → ⊥
        go (of_property u v m x w) = cc
        go (of_subnode u m x w) = let y = B.finds t m x in let z : ◌≡◌ {A = ℕ} 0 1 = cc in omega arith
        go (of_close u v) = cc

    pub goes_node : {at m : ℕ} → Goes s d at p → o ≡ Some m → Goes s d at m
    goes_node {at} {m} g j t f n y = let x = g t f n y in go (first_of T q n x.rest)
      where
        go : {f' : Bool} → First s t f' d k a n → Still s t d m n
        go (of_property u v m' x w) = absurd cc
        go (of_subnode u m' x w) =
            let l = B.finds t m' x in
            let l' : m' ≡ m = cc in
            subst (λ (i : ℕ). Still s t d i n) l' (record { flag = false; rest = w })
        go (of_close u v) = absurd cc

  -- anything else is a property
  module _ (f₂ : k ≡ EndNode → ⊥) (f₁ : k ≡ BeginNode → ⊥) {o : Option ℕ} (D : Decides (Value s a) o) where
    pub stops-no-value : o ≡ None → Stops s d p
    stops-no-value h t f n m = go (first_of T q n m)
      where
        go : First s t f d k a n → ⊥
        go (of_property u v m x w) = never D h m x.value
        go (of_subnode u m x w) = f₁ u
        go (of_close u v) = f₂ u

    pub goes_value : {at m : ℕ} → Goes s d at p → o ≡ Some m → Goes s d at m
    goes_value {at} {m} g j t f n y = let x = g t f n y in go (first_of T q n x.rest)
      where
        go : {f' : Bool} → First s t f' d k a n → Still s t d m n
        go {f'} (of_property u v m' x w) =
            subst (λ (i : ℕ). Still s t d i n) (only D j m' x.value) (record { flag = f'; rest = w })
        go (of_subnode u m' x w) = absurd (f₁ u)
        go (of_close u v) = absurd (f₂ u)
