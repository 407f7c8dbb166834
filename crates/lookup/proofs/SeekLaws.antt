-- Laws of the search: what the members from where the loop is on still answer for, whatever the names of the path and the derivation.
use mathlib.Core.Path.{◌≡◌, refl, sym, ap, subst, ◌∙◌}
use Prim.Native.Nat.{ℕ, suc, ◌+◌, ◌-◌, ◌≤◌, ◌<◌}
use native.Mathlib.Omega.{arith}
use mathlib.Core.Bool.{Bool, true, false}
use mathlib.Core.List.{List, [], ◌∷◌, ◌++◌}
use lib.ListN.{length, drop}
use Rattle.std.proofs.Common.{Option, Some, None}
use Rattle.devicetree.specs.declared.tokens.Kind.{Kind}
use Rattle.devicetree.specs.declared.tokens.Kind.TheVariants.{BeginNode, EndNode, Prop}
use Rattle.devicetree.specs.Header.{cell}
use Rattle.devicetree.specs.Structure.{Token, Ends, Name, Value, Property, Node, node, Members, property, subnode, close, begin_node}
use Rattle.devicetree.specs.Decided.{Answers, Decides, DecidesToken}
use Rattle.devicetree.proofs.Deciding.{holds, only, never, answers_same}
use Rattle.devicetree.proofs.TokenLaws.{token_only}
use Rattle.devicetree.proofs.PartLaws.{ends-only, name-bounds}
use Rattle.devicetree.proofs.NodeLaws.{node-unnamed}
use Rattle.devicetree.specs.Tree.{Root, deepest}
use Rattle.lookup.specs.declared.seek.Hit.{Hit}
use Rattle.lookup.specs.declared.seek.Hit.TheVariants.{Found, After}
use Rattle.lookup.specs.Lookup.{
  part,
  Names,
  ended,
  next,
  Item,
  item_at,
  node_items,
  member_items,
  root_items,
  Wanted,
  here,
  Without,
  nothing,
  other,
}
use Rattle.lookup.specs.Search.{Named, Enters, BehindNode, Looks, found, after, HasNames, SeeksNode, SeeksMembers, SeeksRoot}
use Rattle.lookup.proofs.PathLaws.{first-name, names-none, no_names, names-cut, cut-names}
use Rattle.lookup.proofs.ItemLaws.{
  looks_append,
  looks_behind,
  looks_within,
  looks_broken,
  looks_after,
  without_all,
  wanted_in_lem,
  wanted_out,
  wanted_name,
  wanted_none,
}

-- ---- items by the first token

-- what members up to n are whose first token is k, up to a, with their items
pub data FirstItems (s t : List ℕ) (p : Bool) (d : ℕ) (k : Kind) (a n : ℕ) (items : List Item) : Type 0 where
  a-property : k ≡ Prop → (m : ℕ) (v : Property s t a m) (w : Members s t p d m n) → items ≡ item_at s t a m v ∷ member_items w
      → FirstItems s t p d k a n items
  a-subnode : k ≡ BeginNode → (m : ℕ) (v : Node s t d a m) (w : Members s t false d m n) → items ≡ node_items v ++ member_items w
      → FirstItems s t p d k a n items
  a-close : k ≡ EndNode → n ≡ a → items ≡ [] → FirstItems s t p d k a n items

pub first_items : {s t : List ℕ} {at : ℕ} {r : Option (Kind × ℕ)} → DecidesToken s at r → {k : Kind} {a : ℕ} → r ≡ Some (k, a) → {p : Bool} {d n : ℕ}
    (x : Members s t p d at n) → FirstItems s t p d k a n (member_items x)
unfolding member_items
first_items {s} {t} T {k} q {p} {d} {n} (property {m = m} e x v w) =
    let y = token_only T q x (λ g. omega arith) in
    subst (λ (i : ℕ). FirstItems s t p d k i n (item_at s t _ m v ∷ member_items w)) y.1 (a-property (sym y.0) m v w refl)
first_items {s} {t} T {k} q {p} {d} {n} (subnode {m = m} x v w) =
    let y = token_only T q x (λ g. omega arith) in
    subst (λ (i : ℕ). FirstItems s t p d k i n (node_items v ++ member_items w)) y.1 (a-subnode (sym y.0) m v w refl)
first_items T q (close x) = let y = token_only T q x (λ g. omega arith) in a-close (sym y.0) y.1 refl

-- ---- what is left

-- members from p on, to n, whose items answer for all the items
pub record Left (s t : List ℕ) (d p n : ℕ) (W : Item → Type 0) (items : List Item) : Type 0 where
  pub flag : Bool
  pub rest : Members s t flag d p n
  pub answers : (r : Option Hit) → Looks W n (member_items rest) r → Looks W n items r

-- whatever the names and the derivation, what is left from p on answers for what was there from a place on
abbrev pub Goes : (s t : List ℕ) (d at p : ℕ) (path name : List ℕ) → Type 0
Goes s t d at p path name =
    (names : List (List ℕ)) → Names path names → (n : ℕ) (m : Members s t true d at n) → Left s t d p n (Wanted names name) (member_items m)

pub goes_start : {s t : List ℕ} {d at : ℕ} {path name : List ℕ} → Goes s t d at at path name
goes_start names R n m = record { flag = true; rest = m; answers = λ r l. l }

-- what a step makes of what is left: m behind it, the items before it not wanted
abbrev pub Steps : (s t : List ℕ) (d p m : ℕ) (path name : List ℕ) → Type 0
Steps s t d p m path name =
    (names : List (List ℕ)) → Names path names → (f : Bool) (n : ℕ) (x : Members s t f d p n) → Left s t d m n (Wanted names name) (member_items x)

pub goes_on : {s t : List ℕ} {d at p m : ℕ} {path name : List ℕ} → Goes s t d at p path name → Steps s t d p m path name
    → Goes s t d at m path name
goes_on g step names R n x =
    let l = g names R n x in
    let y = step names R l.flag n l.rest in
    record { flag = y.flag; rest = y.rest; answers = λ r u. l.answers r (y.answers r u) }

-- what an end makes of it: the answer
abbrev pub Answered : (s t : List ℕ) (d p : ℕ) (path name : List ℕ) (r : Option Hit) → Type 0
Answered s t d p path name r =
    (names : List (List ℕ)) → Names path names → (f : Bool) (n : ℕ) (x : Members s t f d p n) → Looks (Wanted names name) n (member_items x) r

module _ {s t : List ℕ} {d at p : ℕ} {path name : List ℕ} (g : Goes s t d at p path name) where
  answered : {r : Option Hit} → Answered s t d p path name r → (names : List (List ℕ)) → Names path names → (n : ℕ) (m : Members s t true d at n)
      → Looks (Wanted names name) n (member_items m) r
  answered {r} h names R n m = let l = g names R n m in l.answers r (h names R l.flag n l.rest)

  pub seeks_broken : Answered s t d p path name None → SeeksMembers s t d at path name None
  seeks_broken h =
      record {
        finds = answered h;
        named = λ o z e. absurd (let z : ◌≡◌ {A = ℕ} 0 1 = cc in omega arith);
        behind = λ m e. absurd (let z : ◌≡◌ {A = ℕ} 0 1 = cc in omega arith);
      }

  pub seeks_found : {o z : ℕ} → HasNames path → Answered s t d p path name (Some (Found o z)) → SeeksMembers s t d at path name (Some (Found o z))
  seeks_found N h =
      record {
        finds = answered h;
        named = λ o z e. N;
        behind = λ m e. absurd (let z : ◌≡◌ {A = ℕ} 0 1 = cc in omega arith);
      }

  pub seeks_after : {a : ℕ} → at < a → a ≤ length s → Answered s t d p path name (Some (After a)) → SeeksMembers s t d at path name (Some (After a))
  seeks_after {a} b c h =
      record {
        finds = answered h;
        named = λ o z e. absurd (let z : ◌≡◌ {A = ℕ} 0 1 = cc in omega arith);
        behind = λ m e. let u : a ≡ m = cc in (omega arith, omega arith);
      }

-- where there are no members from p on, anything answers
pub stops-answered : {s t : List ℕ} {d p : ℕ} {path name : List ℕ} {r : Option Hit} → ((t : List ℕ) (f : Bool) (n : ℕ) → Members s t f d p n → ⊥)
    → Answered s t d p path name r
stops-answered {t = t} h names R f n x = absurd (h t f n x)

-- ---- the steps

module _ {s t : List ℕ} {p : ℕ} {r : Option (Kind × ℕ)} (T : DecidesToken s p r) {k : Kind} {a : ℕ} (q : r ≡ Some (k, a)) {d : ℕ} {path name : List ℕ} where
  pub answered-close : k ≡ EndNode → Answered s t d p path name (Some (After a))
  answered-close e names R f n x = go (first_items T q x)
    where
      go : {items : List Item} → FirstItems s t f d k a n items → Looks (Wanted names name) n items (Some (After a))
      go (a-property u m v w i) = absurd cc
      go (a-subnode u m v w i) = absurd cc
      go {items} (a-close u v i) =
          subst (λ (j : ℕ). Looks (Wanted names name) n items (Some (After j))) v (after (subst (Without (Wanted names name)) (sym i) nothing))

  -- ---- a property

  module _ (f₂ : k ≡ EndNode → ⊥) (f₁ : k ≡ BeginNode → ⊥) where
    module _ {o : Option ℕ} (D : Decides (Value s a) o) {m : ℕ} (h : o ≡ Some m) where
      pub steps_property : ((names : List (List ℕ)) → Names path names → (m : ℕ) (v : Property s t a m) → Wanted names name (item_at s t a m v) → ⊥)
          → Steps s t d p m path name
      steps_property F names R f n x = go (first_items T q x)
        where
          go : {items : List Item} → FirstItems s t f d k a n items → Left s t d m n (Wanted names name) items
          go {items} (a-property u m' v w i) =
              subst (λ (j : ℕ). Left s t d j n (Wanted names name) items) (only D h m' v.value)
              (record {
                flag = f;
                rest = w;
                answers = λ r l.
                    subst (λ (z : List Item). Looks (Wanted names name) n z r) (sym i)
                    (looks_behind (member_items w) (other (F names R m' v) nothing) l);
              })
          go (a-subnode u m' v w i) = absurd (f₁ u)
          go (a-close u v i) = absurd (f₂ u)

    pub answered-property : {z : ℕ} → z ≡ cell s a
        → ((names : List (List ℕ)) → Names path names → (m : ℕ) (v : Property s t a m) → Wanted names name (item_at s t a m v))
        → Answered s t d p path name (Some (Found (a + 8) z))
    unfolding item_at
    answered-property {z} e F names R f n x = go (first_items T q x)
      where
        go : {items : List Item} → FirstItems s t f d k a n items → Looks (Wanted names name) n items (Some (Found (a + 8) z))
        go (a-property u m v w i) =
            subst (λ (y : List Item). Looks (Wanted names name) n y (Some (Found (a + 8) z))) (sym i) (found (here refl e (F names R m v)))
        go (a-subnode u m v w i) = absurd (f₁ u)
        go (a-close u v i) = absurd (f₂ u)

  -- ---- a subnode

  module _ (e : k ≡ BeginNode) {h : Option Hit} (N : SeeksNode s t d a path name h) where
    pub steps_node : {m : ℕ} → h ≡ Some (After m) → Steps s t d p m path name
    steps_node {m} H names R f n x = go (first_items T q x)
      where
        go : {items : List Item} → FirstItems s t f d k a n items → Left s t d m n (Wanted names name) items
        go (a-property u m' v w i) = absurd cc
        go {items} (a-subnode u m' v w i) =
            let y = looks_after (N.finds names R m' v) H in
            subst (λ (j : ℕ). Left s t d j n (Wanted names name) items) y.0
            (record {
              flag = false;
              rest = w;
              answers = λ r l. subst (λ (z : List Item). Looks (Wanted names name) n z r) (sym i) (looks_behind (member_items w) y.1 l);
            })
        go (a-close u v i) = absurd cc

    pub answered-node : {o z : ℕ} → h ≡ Some (Found o z) → Answered s t d p path name (Some (Found o z))
    answered-node {o} {z} H names R f n x = go (first_items T q x)
      where
        go : {items : List Item} → FirstItems s t f d k a n items → Looks (Wanted names name) n items (Some (Found o z))
        go (a-property u m v w i) = absurd cc
        go (a-subnode u m v w i) =
            let l = looks_append (member_items w) (N.finds names R m v) H in
            subst (λ (y : List Item). Looks (Wanted names name) n y (Some (Found o z))) (sym i) l
        go (a-close u v i) = absurd cc

    pub broken-node : h ≡ None → Answered s t d p path name None
    broken-node H names R f n x = go (first_items T q x)
      where
        go : {items : List Item} → FirstItems s t f d k a n items → Looks (Wanted names name) n items None
        go (a-property u m v w i) = absurd cc
        go (a-subnode u m v w i) = absurd (looks_broken (N.finds names R m v) H)
        go (a-close u v i) = absurd cc

-- ---- a node that the path passes by, and one that it enters

pub passes : {s t : List ℕ} {a d : ℕ} {path name : List ℕ} {names : List (List ℕ)} → Names path names → ((e : ℕ) → Enters s a path e → ⊥)
    → {m : ℕ} (v : Node s t d a m) → Without (Wanted names name) (node_items v)
unfolding member_items
passes {s} {a = a} ended f (node x w y) = without_all (part s a (w.z - a)) wanted_none (member_items y)
passes {s} {a = a} {path = path} (next u p r) f (node x w y) =
    let g = first-name u p r in
    without_all (part s a (w.z - a))
    (λ i h.
    let n : Named s a (part path 1 (g.e - 1)) = record { z = w.z; ends = w.ends; is = wanted_name i h ∙ sym g.is } in
    f g.e (record { starts = g.starts; to = g.to; some = g.some; named = n }))
    (member_items y)

-- the path of what was found inside a node has names
pub entered_names : {s : List ℕ} {a e : ℕ} {path : List ℕ} → Enters s a path e → HasNames (drop e path) → HasNames path
entered_names E n = record { names = _; are = cut-names E.starts E.to E.some n.are }

module _ {s t : List ℕ} {a d : ℕ} {path name : List ℕ} where
  pub seeks_none : ((n : ℕ) → Node s t d a n → ⊥) → SeeksNode s t d a path name None
  seeks_none f =
      record {
        finds = λ names R n v. absurd (f n v);
        named = λ o z e. absurd (let z : ◌≡◌ {A = ℕ} 0 1 = cc in omega arith);
        behind = λ m e. absurd (let z : ◌≡◌ {A = ℕ} 0 1 = cc in omega arith);
      }

  pub seeks_passed : {o : Option ℕ} {m : ℕ} → Decides (Enters s a path) o → o ≡ None → {b : Option ℕ} → BehindNode s d a b → b ≡ Some m
      → SeeksNode s t d a path name (Some (After m))
  seeks_passed {m = m} E e B h =
      let c = B.bounds m h in
      record {
        finds = λ names R n v.
            let l = B.finds t n v in
            let l' : n ≡ m = cc in
            subst (λ (j : ℕ). Looks (Wanted names name) n (node_items v) (Some (After j))) l' (after (passes R (never E e) v));
        named = λ o z e. absurd (let z : ◌≡◌ {A = ℕ} 0 1 = cc in omega arith);
        behind = λ n i. let j : m ≡ n = cc in (omega arith, omega arith);
      }

  module _ {o : Option ℕ} (N : Decides (Name s a) o) {b d' : ℕ} (h : o ≡ Some b) (i : d ≡ suc d')
      {e : ℕ} (E : Enters s a path e) {left : List ℕ} (l : left ≡ drop e path) {r : Option Hit} (S : SeeksMembers s t d' b left name r) where
    -- what the search inside the node answers, whatever the node's derivation
    inner : {d'' a'' m : ℕ} → d ≡ suc d'' → Name s a a'' → (y : Members s t true d'' a'' m) → {cs : List (List ℕ)} → Names (drop e path) cs
        → Looks (Wanted cs name) m (member_items y) r
    inner {d''} {a''} {m} x w y {cs} p =
        let u : b ≡ a'' = sym (only N h a'' w) in
        let v : d' ≡ d'' = omega arith in
        let S' = subst (λ (j : ℕ). SeeksMembers s t d' j left name r) u S in
        (subst (λ (j : ℕ). SeeksMembers s t j a'' left name r) v S').finds cs (subst (λ (i : List ℕ). Names i cs) (sym l) p) m y

    -- the node's name is the path's first
    own_name : {z : ℕ} → Ends s a z → part s a (z - a) ≡ part path 1 (e - 1)
    own_name x = ap (λ (j : ℕ). part s a (j - a)) (ends-only E.named.ends x) ∙ E.named.is

    entered : (names : List (List ℕ)) → Names path names → (n : ℕ) (v : Node s t d a n) → Looks (Wanted names name) n (node_items v) r
    unfolding member_items
    entered names p n (node x w y) =
        let c = names-cut E.to p in
        let l = looks_within (part s a (w.z - a)) wanted_in_lem (wanted_out (own_name w.ends)) (inner x w y c.left) in
        subst (λ (ns : List (List ℕ)). Looks (Wanted ns name) n (node_items (node x w y)) r) (sym c.are) l

    pub seeks_entered : SeeksNode s t d a path name r
    seeks_entered =
        let c = name-bounds (holds N h) in
        record {
          finds = entered;
          named = λ f z g. entered_names E (subst HasNames l (S.named f z g));
          behind = λ m e. let u = S.behind m e in (omega arith, u.1);
        }

-- ---- a property's name

-- a path without bytes has names: none
pub no_more : (path : List ℕ) → length path ≡ 0 → HasNames path
no_more [] e = record { names = []; are = ended }
no_more (x ∷ xs) e = absurd (omega arith)

-- the path ends here, and the property has the name
abbrev pub EndsHere : (s t : List ℕ) (a : ℕ) (path name : List ℕ) → Type 0
EndsHere s t a path name = (length path ≡ 0) × Named t (cell s (a + 4)) name

pub wanted_name-answers : (s : List ℕ) (a : ℕ) (path : List ℕ) {t : List ℕ} {off : ℕ} {name : List ℕ} {r : Bool} → length path ≡ 0 → off ≡ cell s (a + 4)
    → Answers (Named t off name) r → Answers (EndsHere s t a path name) r
wanted_name-answers s a path {t} {name = name} h e x =
    answers_same
    (λ n. (h, subst (λ (i : ℕ). Named t i name) e n))
    (λ n. subst (λ (i : ℕ). Named t i name) (sym e) n.1)
    x

module _ {s t : List ℕ} {a : ℕ} {path name : List ℕ} where
  pub wanted_here : EndsHere s t a path name → (names : List (List ℕ)) → Names path names → (m : ℕ) (v : Property s t a m)
      → Wanted names name (item_at s t a m v)
  unfolding item_at
  wanted_here x names p m v =
      record {
        stands = sym (names-none x.0 p);
        named = ap (λ (j : ℕ). part t (cell s (a + 4)) (j - cell s (a + 4))) (ends-only x.1.ends v.name) ∙ x.1.is;
      }

  pub unwanted : (EndsHere s t a path name → ⊥) → (names : List (List ℕ)) → Names path names → (m : ℕ) (v : Property s t a m)
      → Wanted names name (item_at s t a m v) → ⊥
  unfolding item_at
  unwanted f names p m v w = f (no_names w.stands p, record { z = v.z; ends = v.name; is = w.named })

-- ---- the root

pub root-unnamed : {s t : List ℕ} {at : ℕ} {r : Option (Kind × ℕ)} {k : Kind} {a : ℕ} → DecidesToken s at r → r ≡ Some (k, a)
    → {o : Option ℕ} → Decides (Name s a) o
    → o ≡ None → (n : ℕ) → Root s t at n → ⊥
root-unnamed {s} {t} T q N e n x =
    let y = token_only T q x.begins (λ g. omega arith) in
    node-unnamed N e n (subst (λ (i : ℕ). Node s t deepest i n) y.1 x.node)

module _ {s t : List ℕ} {at : ℕ} {path name : List ℕ} where
  pub root-broken : ((n : ℕ) → Root s t at n → ⊥) → SeeksRoot s t at path name None
  root-broken f =
      record { finds = λ names R n x. absurd (f n x); named = λ o z e. absurd (let z : ◌≡◌ {A = ℕ} 0 1 = cc in omega arith) }

  pub root_seeks : {r : Option (Kind × ℕ)} {k : Kind} {a b : ℕ} → DecidesToken s at r → r ≡ Some (k, a)
      → {o : Option ℕ} → Decides (Name s a) o → o ≡ Some b → {h : Option Hit}
      → SeeksMembers s t (deepest - 1) b path name h → SeeksRoot s t at path name h
  unfolding root_items
  root_seeks {k = k} {a = a} {b = b} T q N e {h} S = record { finds = λ names R n x. go names R x.begins x.node; named = S.named }
    where
      go : (names : List (List ℕ)) → Names path names → {a' n : ℕ} → Token s begin_node at a' → (v : Node s t deepest a' n)
          → Looks (Wanted names name) n (root_items v) h
      go names R {n = n} x (node {inner = d''} {a = a''} f w y) =
          let z = token_only T q x (λ g. omega arith) in
          let u : b ≡ a'' = sym (only N e a'' (subst (λ (i : ℕ). Name s i a'') z.1 w)) in
          let v : deepest - 1 ≡ d'' = omega arith in
          let S' = subst (λ (j : ℕ). SeeksMembers s t (deepest - 1) j path name h) u S in
          (subst (λ (j : ℕ). SeeksMembers s t j a'' path name h) v S').finds names R n y
