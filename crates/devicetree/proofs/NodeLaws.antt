-- Laws of nodes and members: what the next token makes of them.
use mathlib.Core.Path.{◌≡◌, sym, subst, ◌∙◌}
use Prim.Native.Nat.{ℕ, suc, ◌≤◌, ◌<◌}
use native.Mathlib.Omega.{arith}
use mathlib.Core.Bool.{Bool, true, false, false≢true}
use mathlib.Core.List.{List}
use lib.ListN.{length}
use Rattle.std.proofs.Common.{Option, Some, None}
use Rattle.devicetree.specs.declared.tokens.Kind.{Kind}
use Rattle.devicetree.specs.declared.tokens.Kind.TheVariants.{BeginNode, EndNode, Prop}
use Rattle.devicetree.specs.Structure.{Name, Property, Node, node, Members, property, subnode, close}
use Rattle.devicetree.specs.Decided.{Decides, DecidesToken}
use Rattle.devicetree.proofs.Deciding.{decided, holds, only, never, Same}
use Rattle.devicetree.proofs.TokenLaws.{token_bounds, token_only, token_never, token_is}
use Rattle.devicetree.proofs.PartLaws.{name-bounds, property-bounds}

module _ {s t : List ℕ} where
  mutual
    pub node-bounds : {h at n : ℕ} → Node s t h at n → (at < n) × (n ≤ length s)
    node-bounds (node e w m) = let x = name-bounds w in let y = members_bounds m in (omega arith, y.1)

    pub members_bounds : {p : Bool} {d at n : ℕ} → Members s t p d at n → (at < n) × (n ≤ length s)
    members_bounds (property e k v m) =
        let x = token_bounds k in let y = property-bounds v in let z = members_bounds m in (omega arith, z.1)
    members_bounds (subnode k v m) = let x = token_bounds k in let y = node-bounds v in let z = members_bounds m in (omega arith, z.1)
    members_bounds (close k) = let x = token_bounds k in (omega arith, x.1)

  -- ---- a node: its name, then its members

  -- of nesting 0 there is none
  pub node-none : {h at : ℕ} → h ≡ 0 → (m : ℕ) → Node s t h at m → ⊥
  node-none e m (node f w q) = omega arith

  module _ {at : ℕ} {r : Option ℕ} (N : Decides (Name s at) r) where
    pub node-unnamed : {h : ℕ} → r ≡ None → (m : ℕ) → Node s t h at m → ⊥
    node-unnamed q m (node {a = a} f w x) = never N q a w

    pub node-named : {h d a : ℕ} → h ≡ suc d → r ≡ Some a → Same (Node s t h at) (Members s t true d a)
    node-named {h} {d} {a} e q = record { to = λ n x. go n x; from = λ n x. node e (holds N q) x }
      where
        go : (n : ℕ) → Node s t h at n → Members s t true d a n
        go n (node {inner = d'} {a = a'} f w m) =
            let u : a' ≡ a = only N q a' w in
            let v : d' ≡ d = omega arith in
            subst (λ (x : ℕ). Members s t true x a n) v (subst (λ (x : ℕ). Members s t true d' x n) u m)

-- ---- members

-- what members up to n are whose first token is k, up to a
pub data First (s t : List ℕ) (p : Bool) (d : ℕ) (k : Kind) (a n : ℕ) : Type 0 where
  of_property : k ≡ Prop → p ≡ true → (m : ℕ) → Property s t a m → Members s t p d m n → First s t p d k a n
  of_subnode : k ≡ BeginNode → (m : ℕ) → Node s t d a m → Members s t false d m n → First s t p d k a n
  of_close : k ≡ EndNode → n ≡ a → First s t p d k a n

module _ {s t : List ℕ} {at : ℕ} {r : Option (Kind × ℕ)} (T : DecidesToken s at r) {p : Bool} {d : ℕ} where
  pub members_none : r ≡ None → (n : ℕ) → Members s t p d at n → ⊥
  members_none q n (property e k v w) = token_never T q k (λ g. omega arith)
  members_none q n (subnode k v w) = token_never T q k (λ g. omega arith)
  members_none q n (close k) = token_never T q k (λ g. omega arith)

  module _ {k : Kind} {a : ℕ} (q : r ≡ Some (k, a)) where
    -- the first token is the one that was read
    pub first_of : (n : ℕ) → Members s t p d at n → First s t p d k a n
    first_of n (property {m = m} e x v w) =
        let y = token_only T q x (λ g. omega arith) in of_property (sym y.0) e m (subst (λ (i : ℕ). Property s t i m) y.1 v) w
    first_of n (subnode {m = m} x v w) =
        let y = token_only T q x (λ g. omega arith) in of_subnode (sym y.0) m (subst (λ (i : ℕ). Node s t d i m) y.1 v) w
    first_of n (close x) = let y = token_only T q x (λ g. omega arith) in of_close (sym y.0) y.1

    pub members_close : k ≡ EndNode → Decides (Members s t p d at) (Some a)
    members_close e = decided a (close (token_is T q e)) (λ m x. go (first_of m x))
      where
        go : {m : ℕ} → First s t p d k a m → m ≡ a
        go (of_property f l m v w) = absurd cc
        go (of_subnode f m v w) = absurd cc
        go (of_close f l) = l

    -- no members start with another token
    pub members_other : (k ≡ EndNode → ⊥) → (k ≡ BeginNode → ⊥) → (k ≡ Prop → ⊥) → (n : ℕ) → Members s t p d at n → ⊥
    members_other f g h n x = go (first_of n x)
      where
        go : First s t p d k a n → ⊥
        go (of_property e l m v w) = h e
        go (of_subnode e m v w) = g e
        go (of_close e l) = f e

    -- nor with a property behind a subnode
    pub members_late : k ≡ Prop → p ≡ false → (n : ℕ) → Members s t p d at n → ⊥
    members_late e f n x = go (first_of n x)
      where
        go : First s t p d k a n → ⊥
        go (of_property g l m v w) = false≢true (sym f ∙ l)
        go (of_subnode g m v w) = cc
        go (of_close g l) = cc

    -- a subnode, and what is left behind it
    module _ (e : k ≡ BeginNode) {o : Option ℕ} (N : Decides (Node s t d a) o) where
      pub members_no-node : o ≡ None → (n : ℕ) → Members s t p d at n → ⊥
      members_no-node h n x = go (first_of n x)
        where
          go : First s t p d k a n → ⊥
          go (of_property f l m v w) = cc
          go (of_subnode f m v w) = never N h m v
          go (of_close f l) = cc

      pub members_node : {m : ℕ} → o ≡ Some m → Same (Members s t p d at) (Members s t false d m)
      members_node {m} h = record { to = λ n x. go (first_of n x); from = λ n x. subnode (token_is T q e) (holds N h) x }
        where
          go : {n : ℕ} → First s t p d k a n → Members s t false d m n
          go (of_property f l m' v w) = absurd cc
          go {n} (of_subnode f m' v w) = subst (λ (i : ℕ). Members s t false d i n) (only N h m' v) w
          go (of_close f l) = absurd cc

    -- a property, and what is left behind it
    module _ (e : k ≡ Prop) {o : Option ℕ} (U : Decides (Property s t a) o) where
      pub members_no-property : o ≡ None → (n : ℕ) → Members s t p d at n → ⊥
      members_no-property h n x = go (first_of n x)
        where
          go : First s t p d k a n → ⊥
          go (of_property f l m v w) = never U h m v
          go (of_subnode f m v w) = cc
          go (of_close f l) = cc

      pub members_property : {m : ℕ} → p ≡ true → o ≡ Some m → Same (Members s t p d at) (Members s t p d m)
      members_property {m} l h = record { to = λ n x. go (first_of n x); from = λ n x. property l (token_is T q e) (holds U h) x }
        where
          go : {n : ℕ} → First s t p d k a n → Members s t p d m n
          go {n} (of_property f l m' v w) = subst (λ (i : ℕ). Members s t p d i n) (only U h m' v) w
          go (of_subnode f m' v w) = absurd cc
          go (of_close f l) = absurd cc
