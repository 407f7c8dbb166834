-- Document 02, request 6: the root and END, the whole of the data, the nesting, and refusal 21.
use Rattle.std.specs.Prelude.{◌≡◌, ℕ, ◌+◌, ◌≤◌, true, List, length, take, drop}
use Rattle.devicetree.specs.declared.header.Header.{Header}
use Rattle.devicetree.specs.Header.{header_of, header_size, headed, Reservation}
use Rattle.devicetree.specs.Structure.{Token, begin_node, end, Ends, Node}

-- "Nesting up to 16 nodes, the root counted"
abbrev pub deepest : ℕ
deepest = 16

-- "one root, its name empty": from a place up to n. The name's zero byte is its first
pub record Root (s t : List ℕ) (at n : ℕ) : Type 0 where
  pub a : ℕ
  pub begins : Token s begin_node at a
  pub unnamed : Ends s a a
  pub node : Node s t deepest a n

-- "is followed by END, which fills the structure's size exactly": from a place to the end of s
pub record Structure (s t : List ℕ) (at : ℕ) : Type 0 where
  pub n : ℕ
  pub root : Root s t at n
  pub ends : Token s end n (length s)

-- the data up to the structure block's end, so that places stay the data's own
abbrev pub structure_of : List ℕ → Header → List ℕ
structure_of d h = take (h.off_dt_struct + h.size_dt_struct) d

-- the strings block
abbrev pub strings_of : List ℕ → Header → List ℕ
strings_of d h = take h.size_dt_strings (drop h.off_dt_strings d)

-- what the header h of d has to keep, and the blocks that it places
pub record Blocks (d : List ℕ) (h : Header) : Type 0 where
  pub header : headed h (length d) ≡ true
  pub reservation : Reservation d h.off_dt_struct h.off_mem_rsvmap
  pub structure : Structure (structure_of d h) (strings_of d h) h.off_dt_struct

-- the grammar: what the data has to be
pub record Tree (d : List ℕ) : Type 0 where
  pub long : header_size ≤ length d
  pub blocks : Blocks d (header_of d)

-- "Refusal 21 exactly when this grammar is broken or the nesting is deeper"
pub data Checked (d : List ℕ) : ℕ → Type 0 where
  accepted : Tree d → Checked d 0
  refused : (Tree d → ⊥) → Checked d 21
