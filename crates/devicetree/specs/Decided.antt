-- What it means that a function decides a rule: it answers yes exactly when the rule holds, or the one place of which it holds.
use Rattle.std.specs.Prelude.{◌≡◌, ℕ, Bool, true, false, List, Option, Some, if◌then◌else◌, ◌==◌}
use Rattle.devicetree.specs.declared.tokens.Kind.{Kind}
use Rattle.devicetree.specs.declared.tokens.Kind.TheVariants.{BeginNode, EndNode, Prop, Nop, End, Other}
use Rattle.devicetree.specs.Structure.{Token, begin_node, end_node, prop, nop, end}

-- true where P holds, and false where it does not
pub data Answers (P : Type 0) : Bool → Type 0 where
  yes : P → Answers P true
  no : (P → ⊥) → Answers P false

-- r is the one place of which P holds, or None where there is none
pub record Decides (P : ℕ → Type 0) (r : Option ℕ) : Type 0 where
  pub sound : (n : ℕ) → r ≡ Some n → P n
  pub complete : (n : ℕ) → P n → r ≡ Some n

-- what a token is, by its number
abbrev pub kind_of : ℕ → Kind
kind_of k =
    if k == begin_node then BeginNode
    else (if k == end_node then EndNode
    else (if k == prop then Prop
    else (if k == nop then Nop
    else (if k == end then End
    else Other k))))

-- and the number that it has
abbrev pub number : Kind → ℕ
number BeginNode = begin_node
number EndNode = end_node
number Prop = prop
number Nop = nop
number End = end
number (Other k) = k

-- r is the one number other than NOP that stands as a token from a place on, as its kind, and the place behind it, or None where there is none
pub record DecidesToken (s : List ℕ) (at : ℕ) (r : Option (Kind × ℕ)) : Type 0 where
  pub sound : (k : Kind) (n : ℕ) → r ≡ Some (k, n) → Token s (number k) at n × (number k ≡ nop → ⊥)
  pub complete : (k n : ℕ) → Token s k at n → (k ≡ nop → ⊥) → r ≡ Some (kind_of k, n)
