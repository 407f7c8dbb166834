-- What the functions of the search promise one another.
use Rattle.std.specs.Prelude.{◌≡◌, ℕ, ◌-◌, ◌≤◌, ◌<◌, Bool, true, List, length, get_or, Option, Some, Result, Ok, Err}
use Rattle.rules.specs.declared.Extent.{Extent}
use Rattle.rules.specs.declared.FindAnswer.{FindAnswer}
use Rattle.devicetree.specs.Structure.{Ends, Node, Members}
use Rattle.devicetree.specs.Tree.{Root}
use Rattle.lookup.specs.declared.seek.Hit.{Hit}
use Rattle.lookup.specs.declared.seek.Hit.TheVariants.{Found, After}
use Rattle.lookup.specs.declared.find.Refusal.{Refusal}
use Rattle.lookup.specs.declared.find.Refusal.TheVariants.{Fdt, Nothing}
use Rattle.lookup.specs.Lookup.{
  part,
  slash,
  Names,
  Path,
  Item,
  node_items,
  member_items,
  root_items,
  Wanted,
  First,
  Without,
  found_at,
  refused_with,
}

-- the name that starts at a place of its block is w
pub record Named (block : List ℕ) (at : ℕ) (w : List ℕ) : Type 0 where
  pub z : ℕ
  pub ends : Ends block at z
  pub is : part block at (z - at) ≡ w

-- the part behind a path's first byte ends at e: at the next slash, or where the path does
pub record PartEnd (path : List ℕ) (e : ℕ) : Type 0 where
  pub from : 1 ≤ e
  pub inside : e ≤ length path
  pub uncut : (k : ℕ) → 1 ≤ k → k < e → get_or path k 0 ≡ slash → ⊥
  pub stops : e < length path → get_or path e 0 ≡ slash

-- the path's first name ends at e, and is that of the node whose name starts at a place
pub record Enters (s : List ℕ) (at : ℕ) (path : List ℕ) (e : ℕ) : Type 0 where
  pub starts : get_or path 0 0 ≡ slash
  pub to : PartEnd path e
  pub some : 1 < e
  pub named : Named s at (part path 1 (e - 1))

-- r is the place behind a node, where there is one, and behind members, where there are any
pub record BehindNode (s : List ℕ) (d at : ℕ) (r : Option ℕ) : Type 0 where
  pub finds : (t : List ℕ) (n : ℕ) → Node s t d at n → r ≡ Some n
  pub bounds : (n : ℕ) → r ≡ Some n → (at < n) × (n ≤ length s)

pub record BehindMembers (s : List ℕ) (d at : ℕ) (r : Option ℕ) : Type 0 where
  pub finds : (t : List ℕ) (p : Bool) (n : ℕ) → Members s t p d at n → r ≡ Some n
  pub bounds : (n : ℕ) → r ≡ Some n → (at < n) × (n ≤ length s)

-- what a search of items that end at n answers: the value of the first one wanted, or the place behind them
pub data Looks (P : Item → Type 0) (n : ℕ) (items : List Item) : Option Hit → Type 0 where
  found : {o z : ℕ} → First P o z items → Looks P n items (Some (Found o z))
  after : Without P items → Looks P n items (Some (After n))

-- the path has names
pub record HasNames (path : List ℕ) : Type 0 where
  pub names : List (List ℕ)
  pub are : Names path names

-- rest has the names that the path has
pub record SameNames (path rest : List ℕ) : Type 0 where
  pub to : (names : List (List ℕ)) → Path path names → Names rest names
  pub from : (names : List (List ℕ)) → Names rest names → Path path names

-- r is what a search answers of a node, with what is left of the path, whatever the path's names and the node's derivation
pub record SeeksNode (s t : List ℕ) (d at : ℕ) (path name : List ℕ) (r : Option Hit) : Type 0 where
  pub finds : (names : List (List ℕ)) → Names path names → (n : ℕ) (v : Node s t d at n) → Looks (Wanted names name) n (node_items v) r
  pub named : (o z : ℕ) → r ≡ Some (Found o z) → HasNames path
  pub behind : (m : ℕ) → r ≡ Some (After m) → (at < m) × (m ≤ length s)

-- of members
pub record SeeksMembers (s t : List ℕ) (d at : ℕ) (path name : List ℕ) (r : Option Hit) : Type 0 where
  pub finds : (names : List (List ℕ)) → Names path names → (n : ℕ) (m : Members s t true d at n) → Looks (Wanted names name) n (member_items m) r
  pub named : (o z : ℕ) → r ≡ Some (Found o z) → HasNames path
  pub behind : (m : ℕ) → r ≡ Some (After m) → (at < m) × (m ≤ length s)

-- and of a root
pub record SeeksRoot (s t : List ℕ) (at : ℕ) (path name : List ℕ) (r : Option Hit) : Type 0 where
  pub finds : (names : List (List ℕ)) → Names path names → (n : ℕ) (x : Root s t at n) → Looks (Wanted names name) n (root_items x.node) r
  pub named : (o z : ℕ) → r ≡ Some (Found o z) → HasNames path

-- the refusals' numbers: "21 comes first, then NONE"
abbrev pub number_of : Refusal → ℕ
number_of Fdt = 21
number_of Nothing = 13

-- find's answer
abbrev pub answer_of : Result Extent Refusal → FindAnswer
answer_of (Ok v) = found_at v.offset v.size
answer_of (Err r) = refused_with (number_of r)
