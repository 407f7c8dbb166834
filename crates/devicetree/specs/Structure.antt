-- Document 02, request 6, from "In the structure" to "isn't judged", but for the root and END, which Tree has: what stands in s, the data up
-- to the structure block's end, beside t, the strings block.
use Rattle.std.specs.Prelude.{◌≡◌, ℕ, suc, ◌+◌, ◌*◌, ◌/◌, ◌≤◌, ◌<◌, Bool, true, false, List, length, get_or}
use Rattle.devicetree.specs.Header.{cell, Zeros}

-- the numbers of the Devicetree Specification's tokens
abbrev pub begin_node : ℕ
begin_node = 1

abbrev pub end_node : ℕ
end_node = 2

abbrev pub prop : ℕ
prop = 3

abbrev pub nop : ℕ
nop = 4

abbrev pub end : ℕ
end = 9

-- the number k stands from a place up to n
pub record Cell (s : List ℕ) (k at n : ℕ) : Type 0 where
  pub is : cell s at ≡ k
  pub next : n ≡ at + 4
  pub inside : n ≤ length s

-- "NOP tokens may stand before any token": the number k as a token, from a place up to n
pub data Token (s : List ℕ) (k : ℕ) : ℕ → ℕ → Type 0 where
  here : {at n : ℕ} → Cell s k at n → Token s k at n
  skip : {at m n : ℕ} → Cell s nop at m → Token s k m n → Token s k at n

-- "Names end in a zero byte inside their block": the first one from a place on is at z
pub record Ends (block : List ℕ) (at z : ℕ) : Type 0 where
  pub from : at ≤ z
  pub inside : z < length block
  pub zero : get_or block z 0 ≡ 0
  pub first : (k : ℕ) → at ≤ k → k < z → get_or block k 0 ≡ 0 → ⊥

-- "padding to 4 is zero": from a place up to n. Counted from the data's start it is the same as from the block's, a multiple of 4
pub record Padding (s : List ℕ) (at n : ℕ) : Type 0 where
  pub next : n ≡ (at + 3) / 4 * 4
  pub inside : n ≤ length s
  pub zeros : Zeros s at n

-- a node's name from a place up to n: its letters, the zero byte z, the padding. "which letters a name has, and how many, isn't judged":
-- nothing more is said of them
pub record Name (s : List ℕ) (at n : ℕ) : Type 0 where
  pub z : ℕ
  pub ends : Ends s at z
  pub padding : Padding s (z + 1) n

-- what follows a property's token, up to n: the value's length, the name's offset in the strings block, the value, the padding
pub record Value (s : List ℕ) (at n : ℕ) : Type 0 where
  pub inside : at + 8 ≤ length s
  pub padding : Padding s (at + 8 + cell s at) n

-- and its name, up to the zero byte z
pub record Property (s t : List ℕ) (at n : ℕ) : Type 0 where
  pub value : Value s at n
  pub z : ℕ
  pub name : Ends t (cell s (at + 4)) z

-- "a node holds members, and a member may be a node; properties come before subnodes": what follows a node's token, up to n, with at most
-- `depth` nodes inside each other, itself counted; and a node's members up to its END_NODE, with at most `depth` inside each other among
-- them, where p says that properties may still come
mutual
  pub data Node (s t : List ℕ) : ℕ → ℕ → ℕ → Type 0 where
    node : {depth inner at a n : ℕ} → depth ≡ suc inner → Name s at a → Members s t true inner a n → Node s t depth at n

  pub data Members (s t : List ℕ) : Bool → ℕ → ℕ → ℕ → Type 0 where
    property : {p : Bool} {depth at a m n : ℕ} → p ≡ true → Token s prop at a → Property s t a m → Members s t p depth m n
        → Members s t p depth at n
    subnode : {p : Bool} {depth at a m n : ℕ} → Token s begin_node at a → Node s t depth a m → Members s t false depth m n
        → Members s t p depth at n
    close : {p : Bool} {depth at n : ℕ} → Token s end_node at n → Members s t p depth at n
