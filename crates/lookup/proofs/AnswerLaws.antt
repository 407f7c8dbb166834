-- Laws of the answer: what the search from the root on comes to, that a value lies in the data, and that the rule settles the answer.
use mathlib.Core.Path.{◌≡◌, refl, sym, ap, subst, ◌∙◌}
use Prim.Native.Nat.{ℕ, ◌+◌, ◌-◌, ◌≤◌, ◌<◌}
use native.Mathlib.Omega.{arith}
use mathlib.Core.Bool.{Bool, true}
use mathlib.Core.List.{List, [], ◌∷◌, ◌++◌, map}
use lib.ListN.{length, get_or, drop}
use Rattle.rules.specs.declared.FindAnswer.{FindAnswer}
use Rattle.devicetree.specs.declared.header.Header.{Header}
use Rattle.devicetree.specs.Header.{cell, header_of, headed}
use Rattle.devicetree.specs.Structure.{Property, Node, node, Members, property, subnode, close}
use Rattle.devicetree.specs.Tree.{structure_of, strings_of, Tree}
use Rattle.devicetree.proofs.TreeLaws.{order, structure-length}
use Rattle.std.proofs.Common.{Option, Some, None}
use Rattle.lookup.specs.declared.seek.Hit.{Hit}
use Rattle.lookup.specs.declared.seek.Hit.TheVariants.{Found, After}
use Rattle.lookup.specs.Lookup.{
  part,
  slash,
  Names,
  ended,
  next,
  Path,
  root,
  below,
  Item,
  item_at,
  within,
  node_items,
  member_items,
  root_items,
  properties,
  Wanted,
  First,
  here,
  later,
  found_at,
  refused_with,
  Lookup,
  broken,
  none,
  there,
  LookupPart,
}
use Rattle.lookup.specs.Search.{Looks, SameNames, SeeksRoot}
use Rattle.lookup.proofs.PathLaws.{FirstName, first-name, part-end-only}
use Rattle.lookup.proofs.ItemLaws.{looks_broken, looks_after, looks_found, first-only, first-without}

-- ---- a path's names below the root

one_byte : (path : List ℕ) → length path ≡ 1 → get_or path 0 0 ≡ slash → path ≡ slash ∷ []
one_byte [] h e = absurd (omega arith)
one_byte (x ∷ []) h e = ap (λ (y : ℕ). y ∷ []) e
one_byte (x ∷ y ∷ l) h e = absurd (omega arith)

one_slash : {path : List ℕ} → path ≡ slash ∷ [] → (length path ≡ 1) × (get_or path 0 0 ≡ slash)
one_slash e = (ap length e, ap (λ (l : List ℕ). get_or l 0 0) e)

-- `/` has no name below it
root_below : {path : List ℕ} {c : List ℕ} {cs : List (List ℕ)} → path ≡ slash ∷ [] → Names path (c ∷ cs) → ⊥
root_below e (next u p r) = let f = first-name u p r in let s = f.some in let i = f.to.inside in let l = ap length e in omega arith

names-root : {path : List ℕ} → length path ≡ 1 → get_or path 0 0 ≡ slash → SameNames path []
names-root {path} h e = record { to = λ names p. go p; from = λ names n. back n }
  where
    go : {names : List (List ℕ)} → Path path names → Names [] names
    go (root u) = ended
    go (below n) = absurd (root_below (one_byte path h e) n)

    back : {names : List (List ℕ)} → Names [] names → Path path names
    back ended = root (one_byte path h e)
    back (next u p r) = absurd (let l = ap length u in omega arith)

-- what is left of it
nothing_left : (path : List ℕ) → length path ≡ 1 → part path 1 (length path - 1) ≡ []
nothing_left [] h = refl
nothing_left (x ∷ []) h = refl
nothing_left (x ∷ y ∷ l) h = absurd (omega arith)

names-below : (path : List ℕ) → 0 < length path → ((length path ≡ 1) × (get_or path 0 0 ≡ slash) → ⊥) → SameNames path path
names-below path h f = record { to = λ names p. go p; from = λ names n. back refl n }
  where
    go : {names : List (List ℕ)} → Path path names → Names path names
    go (root u) = absurd (f (one_slash u))
    go (below n) = n

    back : {l : List ℕ} {names : List (List ℕ)} → l ≡ path → Names l names → Path path names
    back e ended = absurd (let i = ap length e in omega arith)
    back e (next u p r) = below (next (sym e ∙ u) p r)

names-long : {path : List ℕ} {c : List ℕ} {cs : List (List ℕ)} → Names path (c ∷ cs) → 0 < length path
names-long (next u p r) = let l = ap length u in omega arith

-- by whether the path is one slash
pub names_tested : (path : List ℕ) → path ≡ slash ∷ [] → SameNames path (part path 1 (length path - 1))
names_tested path e =
    let t = one_slash e in
    subst (SameNames path) (sym (nothing_left path t.0)) (names-root t.0 t.1)

pub names_tested_other : (path : List ℕ) → 0 < length path → (path ≡ slash ∷ [] → ⊥) → SameNames path path
names_tested_other path h f = names-below path h (λ x. f (one_byte path x.0 x.1))

pub no_path : {path : List ℕ} {names : List (List ℕ)} → length path ≡ 0 → Path path names → ⊥
no_path h (root u) = let l = ap length u in omega arith
no_path h (below n) = let l = names-long n in omega arith

-- ---- the answer

-- the header of a tree
pub tree_headed : {d : List ℕ} {h : Header} → Tree d → h ≡ header_of d → headed h (length d) ≡ true
tree_headed {d} x e = subst (λ (i : Header). headed i (length d) ≡ true) (sym e) x.blocks.header

module _ {d path name rest : List ℕ} (X : Tree d) {h : Header} (e : h ≡ header_of d) {s t : List ℕ} (es : s ≡ structure_of d h) (et : t ≡ strings_of d h)
    (N : SameNames path rest) {r : Option Hit} (S : SeeksRoot s t h.off_dt_struct rest name r) where
  searched : SeeksRoot (structure_of d (header_of d)) (strings_of d (header_of d)) (header_of d).off_dt_struct rest name r
  searched =
      let a = subst (λ (i : List ℕ). SeeksRoot i t h.off_dt_struct rest name r) es S in
      let b = subst (λ (i : List ℕ). SeeksRoot (structure_of d h) i h.off_dt_struct rest name r) et a in
      subst (λ (i : Header). SeeksRoot (structure_of d i) (strings_of d i) i.off_dt_struct rest name r) e b

  -- what it answers of any derivation
  every : (names : List (List ℕ)) → Path path names → (x : Tree d) → Looks (Wanted names name) x.blocks.structure.n (properties x) r
  every names p x = searched.finds names (N.to names p) x.blocks.structure.n x.blocks.structure.root

  pub lookup_after : {k : ℕ} → r ≡ Some (After k) → Lookup d path name (refused_with 13)
  lookup_after R = none X (λ names p x. (looks_after (every names p x) R).1)

  pub lookup_broken : r ≡ None → Lookup d path name (refused_with 13)
  lookup_broken R = none X (λ names p x. absurd (looks_broken (every names p x) R))

  pub lookup_there : {o z : ℕ} → r ≡ Some (Found o z) → Lookup d path name (found_at o z)
  lookup_there {o} {z} R =
      let n = S.named o z R in
      let p = N.from n.names n.are in
      there X p (λ x. looks_found (every n.names p x) R)

pub lookup_none : {d path name : List ℕ} → Tree d → length path ≡ 0 → Lookup d path name (refused_with 13)
lookup_none X h = none X (λ names p x. absurd (no_path h p))

-- ---- a value lies in the structure block

data Inside (e : ℕ) : List Item → Type 0 where
  nothing : Inside e []
  more : {x : Item} {xs : List Item} → x.offset + x.size ≤ e → Inside e xs → Inside e (x ∷ xs)

inside-append : {e : ℕ} {xs : List Item} (ys : List Item) → Inside e xs → Inside e ys → Inside e (xs ++ ys)
inside-append ys nothing j = j
inside-append ys (more h i) j = more h (inside-append ys i j)

inside-within : {e : ℕ} {xs : List Item} (c : List ℕ) → Inside e xs → Inside e (map (within c) xs)
inside-within c nothing = nothing
inside-within c (more h i) = more h (inside-within c i)

inside-first : {P : Item → Type 0} {e o z : ℕ} {xs : List Item} → Inside e xs → First P o z xs → o + z ≤ e
inside-first nothing l = elim l [ ]
inside-first (more h i) (here a b p) = omega arith
inside-first (more h i) (later f l) = inside-first i l

item_inside : {s t : List ℕ} {a n : ℕ} (v : Property s t a n) → (item_at s t a n v).offset + (item_at s t a n v).size ≤ length s
unfolding item_at
item_inside v = let x = v.value.padding.next in let y = v.value.padding.inside in omega arith

module _ {s t : List ℕ} where
  mutual
    unfolding member_items

    node-inside : {h at n : ℕ} (v : Node s t h at n) → Inside (length s) (node_items v)
    node-inside (node {at = at} e w m) = inside-within (part s at (w.z - at)) (member_inside m)

    member_inside : {p : Bool} {d at n : ℕ} (m : Members s t p d at n) → Inside (length s) (member_items m)
    member_inside (property e k v m) = more (item_inside v) (member_inside m)
    member_inside (subnode k v m) = inside-append (member_items m) (node-inside v) (member_inside m)
    member_inside (close k) = nothing

  root-inside : {h at n : ℕ} (v : Node s t h at n) → Inside (length s) (root_items v)
  unfolding root_items
  root-inside (node e w m) = member_inside m

cell-small : (d : List ℕ) (at : ℕ) → ((i : ℕ) → get_or d i 0 < 256) → cell d at < 4294967296
unfolding cell
cell-small d at f = omega (arith, f at, f (at + 1), f (at + 2), f (at + 3))

-- where the first one wanted of a tree has its value
pub first-inside : {d : List ℕ} (x : Tree d) {P : Item → Type 0} {o z : ℕ} → First P o z (properties x)
    → (o + z ≤ (header_of d).off_dt_strings) × (o + z ≤ length d)
first-inside {d} x l =
    let i = inside-first (root-inside x.blocks.structure.root.node) l in
    let n = structure-length d (header_of d) x.blocks.header in
    let o = order (header_of d) (length d) x.blocks.header in
    let a = o.structure in
    let b = o.strings in
    let c = o.within in
    (omega arith, omega arith)

pub lookup_small : {d path name : List ℕ} {r : FindAnswer} → ((i : ℕ) → get_or d i 0 < 256) → Lookup d path name r
    → (r.offset < 4294967296) × (r.size < 4294967296)
unfolding header_of
lookup_small f (broken g) = (omega arith, omega arith)
lookup_small f (none x g) = (omega arith, omega arith)
lookup_small {d} f (there x p g) = let i = first-inside x (g x) in let s = cell-small d 12 f in (omega arith, omega arith)

pub lookup_within : {d path name : List ℕ} {r : FindAnswer} → Lookup d path name r → r.offset + r.size ≤ length d
lookup_within (broken f) = omega arith
lookup_within (none x f) = omega arith
lookup_within (there x p f) = (first-inside x (f x)).1

-- ---- the rule settles the answer

names-only : {path path' : List ℕ} {a b : List (List ℕ)} → path ≡ path' → Names path a → Names path' b → a ≡ b
names-only e ended ended = refl
names-only e ended (next u p r) = absurd (let l = ap length (e ∙ u) in omega arith)
names-only e (next u p r) ended = absurd (let l = ap length (sym e ∙ u) in omega arith)
names-only {path} {path'} e (next {rest = l} {c = c} {cs = cs} u p r) (next {rest = l'} {c = c'} {cs = cs'} u' p' r') =
    let f = first-name u p r in
    let g = subst (λ (i : List ℕ). FirstName i c' l') (sym e) (first-name u' p' r') in
    let q : g.e ≡ f.e = part-end-only f.to g.to in
    let a : c ≡ c' = sym f.is ∙ ap (λ (i : ℕ). part path 1 (i - 1)) (sym q) ∙ g.is in
    let m : l ≡ l' = sym f.left ∙ ap (λ (i : ℕ). drop i path) (sym q) ∙ g.left in
    let b : cs ≡ cs' = names-only m r r' in
    cc

pub path_only : {path : List ℕ} {a b : List (List ℕ)} → Path path a → Path path b → a ≡ b
path_only (root u) (root v) = refl
path_only (root u) (below n) = absurd (root_below u n)
path_only (below n) (root u) = absurd (root_below u n)
path_only (below n) (below m) = names-only refl n m

pub lookup_only : {d path name : List ℕ} {r q : FindAnswer} → Lookup d path name r → Lookup d path name q → r ≡ q
lookup_only (broken f) (broken g) = refl
lookup_only (broken f) (none x g) = absurd (f x)
lookup_only (broken f) (there x p g) = absurd (f x)
lookup_only (none x f) (broken g) = absurd (g x)
lookup_only (none x f) (none y g) = refl
lookup_only (none x f) (there {names = ns} y p g) = absurd (first-without (g x) (f ns p x))
lookup_only (there x p f) (broken g) = absurd (g x)
lookup_only (there {names = ns} x p f) (none y g) = absurd (first-without (f x) (g ns p x))
lookup_only {name = name} (there {names = ns} {offset = o} {size = z} x p f) (there {names = ms} {offset = o'} {size = z'} y q g) =
    let e = subst (λ (l : List (List ℕ)). First (Wanted l name) o' z' (properties x)) (path_only q p) (g x) in
    let s = first-only (f x) e in
    let a : o ≡ o' = s.0 in
    let b : z ≡ z' = s.1 in
    cc

pub part-only : {d path name : List ℕ} {start address address' : ℕ} {bytes bytes' : List ℕ} → LookupPart d path name start bytes address
    → LookupPart d path name start bytes' address' → (bytes ≡ bytes') × (address ≡ address')
part-only {d} {start = start} x y =
    let e = lookup_only x.is y.is in (
      x.contents ∙ ap (λ (r : FindAnswer). part d r.offset r.size) e ∙ sym y.contents,
      x.place ∙ ap (λ (r : FindAnswer). start + r.offset) e ∙ sym y.place,
    )
