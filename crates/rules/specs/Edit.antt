-- The edits as one: what demand 3 speaks of, and what each edit's statement cites.
use Rattle.std.specs.Prelude.{ℕ, ◌+◌, Bool, List, drop}
use Rattle.rules.specs.Check.{admit}
use Rattle.rules.specs.Outcome.{Outcome, after_admission}
use Rattle.rules.specs.Add.{add}
use Rattle.rules.specs.AddAligned.{add_aligned}
use Rattle.rules.specs.Void.{void}
use Rattle.rules.specs.Relocate.{relocate}
use Rattle.rules.specs.Tidy.{tidy}

-- an edit with what it is given besides the list: tag, data and whether voids may be used; tag, data and exponent; tag and
-- occurrence; the target's bytes and base; for request 3's tidy nothing
pub data Edit : Type 0 where
  to_add : ℕ → List ℕ → Bool → Edit
  to_add_aligned : ℕ → List ℕ → ℕ → Edit
  to_void : ℕ → ℕ → Edit
  to_relocate : List ℕ → ℕ → Edit
  to_tidy : Edit

-- what the edit of the list a at base comes to, once the list is admitted
abbrev pub act : Edit → List ℕ → ℕ → Outcome
act (to_add tag content use_voids) a base = add a tag content use_voids
act (to_add_aligned tag content exponent) a base = add_aligned a base tag content exponent
act (to_void tag n) a base = void a tag n
act (to_relocate target target_base) a base = relocate a base target target_base
act to_tidy a base = tidy a

-- "All other calls make 1 to 8 on the given list before their own"; of request 3's tidy: "Checks 1 to 8 apply, 5 included"
abbrev pub run : Edit → List ℕ → ℕ → Outcome
run e a base = after_admission (admit a base) (act e a base)

-- where the result stands: in the area itself, or in a target with its bytes and base
pub data Destination : Type 0 where
  in_place : Destination
  into : List ℕ → ℕ → Destination

-- where an edit puts its result
abbrev pub destination : Edit → Destination
destination (to_add tag content use_voids) = in_place
destination (to_add_aligned tag content exponent) = in_place
destination (to_void tag n) = in_place
destination (to_relocate target target_base) = into target target_base
destination to_tidy = in_place

-- the bytes lent for writing, as they were
abbrev pub lent : Destination → List ℕ → List ℕ
lent in_place a = a
lent (into target target_base) a = target

-- "The result of a relocation is the target from the new base to its end, with the new base; of any other edit it is the area
-- afterwards, with its own base." The value of an edit into a target is the shift.
abbrev pub result_area : Destination → ℕ → List ℕ → List ℕ
result_area in_place value bytes = bytes
result_area (into target target_base) value bytes = drop value bytes

abbrev pub result_base : Destination → ℕ → ℕ → ℕ
result_base in_place base value = base
result_base (into target target_base) base value = target_base + value
