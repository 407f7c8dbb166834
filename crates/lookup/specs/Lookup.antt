-- Document 02, request 6, from "Then a lookup by path" on. It is said over the derivation of the data by the grammar and not by a search: the
-- derivation's properties in block order, and the first of them that is wanted.
use Rattle.std.specs.Prelude.{◌≡◌, ℕ, ◌+◌, ◌-◌, ◌<◌, Bool, List, [], ◌∷◌, ◌++◌, map, length, get_or, take, drop}
use Rattle.rules.specs.declared.FindAnswer.{FindAnswer}
use Rattle.devicetree.specs.Header.{cell}
use Rattle.devicetree.specs.Structure.{Property, Node, node, Members, property, subnode, close}
use Rattle.devicetree.specs.Tree.{Tree}

-- len bytes from a place on
abbrev pub part : List ℕ → ℕ → ℕ → List ℕ
part s at len = take len (drop at s)

-- ---- a path

-- `/`
abbrev pub slash : ℕ
slash = 47

-- a name of a path: "none empty; it is cut at every `/`"
pub record PathName (c : List ℕ) : Type 0 where
  pub nonempty : c ≡ [] → ⊥
  pub uncut : (k : ℕ) → k < length c → get_or c k 0 ≡ slash → ⊥

-- "`/` before each full name"
pub data Names : List ℕ → List (List ℕ) → Type 0 where
  ended : Names [] []
  next : {path rest c : List ℕ} {cs : List (List ℕ)} → path ≡ slash ∷ (c ++ rest) → PathName c → Names rest cs → Names path (c ∷ cs)

-- "`/` is the root, else `/` before each full name": a path, and the node names that it has
pub data Path (path : List ℕ) : List (List ℕ) → Type 0 where
  root : path ≡ slash ∷ [] → Path path []
  below : {c : List ℕ} {cs : List (List ℕ)} → Names path (c ∷ cs) → Path path (c ∷ cs)

-- ---- the properties

-- a property: the names of the nodes that it stands under, the root's left out, its own name, and where its value stands in the data
pub record Item : Type 0 where
  pub under : List (List ℕ)
  pub name : List ℕ
  pub offset : ℕ
  pub size : ℕ

-- the property whose token ends at a place, in the node that holds it
unfoldable pub item_at : (s t : List ℕ) (at n : ℕ) → Property s t at n → Item
item_at s t at n v =
    record {
      under = [];
      name = part t (cell s (at + 4)) (v.z - cell s (at + 4));
      offset = at + 8;
      size = cell s at;
    }

-- the same, seen from outside a node of that name
abbrev pub within : List ℕ → Item → Item
within c i = record { under = c ∷ i.under; name = i.name; offset = i.offset; size = i.size }

-- "in block order": the properties of a node, seen from outside and from inside it, and those of members
module _ {s t : List ℕ} where
  unfoldable mutual
    pub node_items : {h at n : ℕ} → Node s t h at n → List Item
    node_items (node {at = at} e w m) = map (within (part s at (w.z - at))) (member_items m)

    pub member_items : {p : Bool} {d at n : ℕ} → Members s t p d at n → List Item
    member_items (property {a = a} {m = m} e k v w) = item_at s t a m v ∷ member_items w
    member_items (subnode k v w) = node_items v ++ member_items w
    member_items (close k) = []

  unfoldable pub root_items : {h at n : ℕ} → Node s t h at n → List Item
  root_items (node e w m) = member_items m

-- those of a tree, seen from inside its root
abbrev pub properties : {d : List ℕ} → Tree d → List Item
properties x = root_items x.blocks.structure.root.node

-- ---- the lookup

-- "that has this name and stands under exactly these node names"
pub record Wanted (names : List (List ℕ)) (name : List ℕ) (i : Item) : Type 0 where
  pub stands : i.under ≡ names
  pub named : i.name ≡ name

-- "the first property in block order": of the items, the first of which P holds has its value at an offset, so many bytes long
pub data First (P : Item → Type 0) (offset size : ℕ) : List Item → Type 0 where
  here : {y : Item} {ys : List Item} → offset ≡ y.offset → size ≡ y.size → P y → First P offset size (y ∷ ys)
  later : {y : Item} {ys : List Item} → (P y → ⊥) → First P offset size ys → First P offset size (y ∷ ys)

-- and P holds of none of them
pub data Without (P : Item → Type 0) : List Item → Type 0 where
  nothing : Without P []
  other : {y : Item} {ys : List Item} → (P y → ⊥) → Without P ys → Without P (y ∷ ys)

-- find's answer: the value's offset from the data's start and its size; of a refusal the number, 13 for NONE. There is no list check here,
-- so the place that request 8 adds is 0
abbrev pub found_at : ℕ → ℕ → FindAnswer
found_at offset size = record { number = 0; offset = offset; size = size; at = 0 }

abbrev pub refused_with : ℕ → FindAnswer
refused_with number = record { number = number; offset = 0; size = 0; at = 0 }

-- "21 comes first, then NONE": none under any names that the path has; "any other path", which has none, so "finds nothing"
pub data Lookup (d path name : List ℕ) : FindAnswer → Type 0 where
  broken : (Tree d → ⊥) → Lookup d path name (refused_with 21)
  none : Tree d → ((names : List (List ℕ)) → Path path names → (x : Tree d) → Without (Wanted names name) (properties x))
      → Lookup d path name (refused_with 13)
  there : {names : List (List ℕ)} {offset size : ℕ} → Tree d → Path path names
      → ((x : Tree d) → First (Wanted names name) offset size (properties x)) → Lookup d path name (found_at offset size)

-- "in find's two forms": the second is the value itself: `bytes`, the part of the data that stands from `address` on, where the data starts
-- at `start`; where refused, so with offset and size 0, the empty part at that start
pub record LookupPart (d path name : List ℕ) (start : ℕ) (bytes : List ℕ) (address : ℕ) : Type 0 where
  pub answer : FindAnswer
  pub is : Lookup d path name answer
  pub contents : bytes ≡ part d answer.offset answer.size
  pub place : address ≡ start + answer.offset
