-- Document 02, request 3: what holds of a list that was tidied, besides demand 3.
use Rattle.std.specs.Prelude.{◌≡◌, ℕ, Bool, true, not, ◌&&◌, List, [], ◌∷◌}
use Rattle.rules.specs.declared.Entry.{Entry}
use Rattle.rules.specs.Entries.{is_void, entries_of}
use Rattle.rules.specs.Outcome.{done}
use Rattle.rules.specs.Edit.{to_tidy, run}

-- no two voids are neighbours, and the last entry, if any, is live
unfoldable pub is_tidy : List Entry → Bool
is_tidy [] = true
is_tidy (e ∷ []) = not (is_void e)
is_tidy (e ∷ f ∷ es) = not (is_void e && is_void f) && is_tidy (f ∷ es)

-- "tidying twice is the same as once", area and answer; and the entries of the result are tidy
pub record TidyOnce (base value : ℕ) (bytes : List ℕ) : Type 0 where
  pub twice : run to_tidy bytes base ≡ done value bytes
  pub tidy : is_tidy (entries_of bytes) ≡ true

-- of every list, at every base, whose tidying is not refused
abbrev pub TidyTwice : Type 0
TidyTwice = (a : List ℕ) (base value : ℕ) (bytes : List ℕ) → run to_tidy a base ≡ done value bytes → TidyOnce base value bytes
