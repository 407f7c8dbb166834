-- Document 01, "Demand 3's words": what holds of every edit that is not refused.
use Rattle.std.specs.Prelude.{
  None,
  Ok,
  Option,
  Some,
  ◌≡◌,
  ℕ,
  ◌+◌,
  ◌-◌,
  ◌%◌,
  ◌^◌,
  ◌<◌,
  Bool,
  false,
  not,
  ◌&&◌,
  ◌||◌,
  cond,
  List,
  [],
  ◌∷◌,
  ◌++◌,
  map,
  length,
  take,
  drop,
  get_or,
  leb,
  ltb,
  eqb,
}
use Rattle.rules.specs.declared.Entry.{Entry}
use Rattle.rules.specs.declared.Facts.{Facts}
use Rattle.rules.specs.declared.DoneAnswer.{DoneAnswer}
use Rattle.rules.specs.Header.{header_of, current_version, checksum_at, alignment_at, used_at, total_at}
use Rattle.rules.specs.Entries.{is_void, span, data_offset, entries_of, live_count, occurrence, live_ones}
use Rattle.rules.specs.Checksum.{fresh_checksum}
use Rattle.rules.specs.Check.{check}
use Rattle.rules.specs.Outcome.{done, answer, bytes_after, done_answer}
use Rattle.rules.specs.Add.{entry_span, taken_void, void_behind}
use Rattle.rules.specs.Edit.{
  Edit,
  to_add,
  to_add_aligned,
  to_void,
  to_relocate,
  to_tidy,
  run,
  Destination,
  in_place,
  into,
  destination,
  lent,
  result_area,
  result_base,
}

-- ---- the fresh reading

-- a live entry as it is read: tag and data, "the data being data_size bytes without padding"
pub record Live : Type 0 where
  pub tag : ℕ
  pub content : List ℕ

abbrev pub live_at : List ℕ → Entry → Live
live_at a e = record { tag = e.tag_id; content = take e.data_size (drop (data_offset e) a) }

-- the live ones of some entries, as they are read from a
unfoldable pub live_in : List ℕ → List Entry → List Live
live_in a [] = []
live_in a (e ∷ es) = cond (is_void e) (live_in a es) (live_at a e ∷ live_in a es)

-- "A fresh reading walks an area's bytes alone by the rules above and gives tag and data of each live entry in list order"
unfoldable pub reading : List ℕ → List Live
reading a = live_in a (entries_of a)

-- ---- how an edit changes the reading

-- an entry put in at a position
abbrev pub put_in : ℕ → Live → List Live → List Live
put_in k x xs = take k xs ++ (x ∷ drop k xs)

-- occurrence n of a tag taken out
unfoldable pub take_out : ℕ → ℕ → List Live → List Live
take_out tag n [] = []
take_out tag n (x ∷ xs) = cond (eqb x.tag tag) (cond (eqb n 0) xs (x ∷ take_out tag (n - 1) xs)) (x ∷ take_out tag n xs)

-- the number of live entries before a place
unfoldable pub live_before : ℕ → List Entry → ℕ
live_before p [] = 0
live_before p (e ∷ es) = cond (not (is_void e) && ltb e.at p) (1 + live_before p es) (live_before p es)

-- "the number of live entries before the void taken, or of all live entries where none is taken"
abbrev pub position : List ℕ → Option Entry → ℕ
position a (Some e) = live_before e.at (entries_of a)
position a None = live_count (entries_of a)

-- the reading of the given list, changed by the edit; one that names no entry leaves it as it was
abbrev pub changed : Edit → List ℕ → List Live → List Live
changed (to_add tag content use_voids) a xs =
    put_in (position a (taken_void use_voids (length content) a)) (record { tag = tag; content = content }) xs
changed (to_add_aligned tag content exponent) a xs = put_in (position a None) (record { tag = tag; content = content }) xs
changed (to_void tag n) a xs = take_out tag n xs
changed (to_relocate target target_base) a xs = xs
changed to_tidy a xs = xs

-- ---- the named bytes

-- the bytes from one place up to another, which is not among them
pub record Stretch : Type 0 where
  pub from : ℕ
  pub to : ℕ

-- n bytes from a place on
abbrev pub bytes_from : ℕ → ℕ → Stretch
bytes_from from n = record { from = from; to = from + n }

-- "at used_size, the bytes from the old used to the new"; how far used grows is settled by `run`
abbrev pub old_used_to_new : List ℕ → List ℕ → Stretch
old_used_to_new a after = record { from = (header_of a).used_size; to = (header_of after).used_size }

-- "of a void taken, its first align8(8 + n) bytes and the eight header bytes of the void written behind them, if any"
abbrev pub add_stretch : List ℕ → List ℕ → ℕ → Option Entry → Stretch
add_stretch a after n (Some e) = bytes_from e.at (entry_span n + length (void_behind e.data_size n))
add_stretch a after n None = old_used_to_new a after

-- "of a voided entry, align8(8 + old data_size) bytes from its start"
abbrev pub void_stretch : Option Entry → Stretch
void_stretch (Some e) = bytes_from e.at (entry_span e.data_size)
void_stretch None = bytes_from 0 0

-- request 3: "the voids' stretches"
unfoldable pub void_stretches : List Entry → List Stretch
void_stretches [] = []
void_stretches (e ∷ es) = cond (is_void e) (bytes_from e.at (span e) ∷ void_stretches es) (void_stretches es)

-- "4, 7 and 8 to 11 of the header"
abbrev pub header_stretches : List Stretch
header_stretches = bytes_from checksum_at 1 ∷ bytes_from alignment_at 1 ∷ bytes_from used_at 4 ∷ []

-- the named bytes of the edit of the list a that gives the list after; "in a relocation, of the used bytes only 4 and 12 to 15"; in a
-- tidy, as request 3 adds, "the voids' stretches, the checksum and used"
abbrev pub stretches : Edit → List ℕ → List ℕ → List Stretch
stretches (to_add tag content use_voids) a after =
    add_stretch a after (length content) (taken_void use_voids (length content) a) ∷ header_stretches
stretches (to_add_aligned tag content exponent) a after = old_used_to_new a after ∷ header_stretches
stretches (to_void tag n) a after = void_stretch (occurrence tag n (entries_of a)) ∷ header_stretches
stretches (to_relocate target target_base) a after = bytes_from checksum_at 1 ∷ bytes_from total_at 4 ∷ []
stretches to_tidy a after = bytes_from checksum_at 1 ∷ bytes_from used_at 4 ∷ void_stretches (entries_of a)

-- i is a place of a stretch
abbrev pub within : Stretch → ℕ → Bool
within s i = leb s.from i && ltb i s.to

-- i is a place of one of them
unfoldable pub named : List Stretch → ℕ → Bool
named [] i = false
named (s ∷ ss) i = within s i || named ss i

-- the bytes that are compared with the given list's: all of the area; of an edit into a target the used bytes
abbrev pub compared : Destination → List ℕ → ℕ
compared in_place a = length a
compared (into target target_base) a = (header_of a).used_size

-- ---- data addresses

-- "A data address is the base plus the data's offset"; of the first entry, the second and so on, modulo m
abbrev pub addresses_modulo : ℕ → ℕ → List ℕ → List ℕ
addresses_modulo m base a = map (λ (e : Entry). (base + data_offset e) % m) (entries_of a)

-- of the live entries alone, as they are
abbrev pub live_addresses : ℕ → List ℕ → List ℕ
live_addresses base a = map (λ (e : Entry). base + data_offset e) (live_ones (entries_of a))

-- after a relocation each equals the old one modulo 2^alignment; after a tidy, as request 3 adds, "Live entries stay at their offsets"
abbrev pub KeepsAddresses : Edit → List ℕ → ℕ → List ℕ → ℕ → Type 0
KeepsAddresses (to_add tag content use_voids) a base after new_base = Unit
KeepsAddresses (to_add_aligned tag content exponent) a base after new_base = Unit
KeepsAddresses (to_void tag n) a base after new_base = Unit
KeepsAddresses (to_relocate target target_base) a base after new_base =
    addresses_modulo (2 ^ (header_of a).alignment) new_base after ≡ addresses_modulo (2 ^ (header_of a).alignment) base a
KeepsAddresses to_tidy a base after new_base = live_addresses new_base after ≡ live_addresses base a

-- ---- the demand

-- the list a at base is accepted, and of version 1
pub record AcceptedV1 (a : List ℕ) (base : ℕ) : Type 0 where
  pub facts : Facts
  pub accepted : check a base ≡ Ok facts
  pub version : facts.version ≡ current_version

-- what holds, all at once, of the edit e of the list a at base that gives the list after at new_base
pub record Kept (e : Edit) (a : List ℕ) (base : ℕ) (after : List ℕ) (new_base : ℕ) : Type 0 where
  pub again : AcceptedV1 after new_base
  pub checksum : get_or after checksum_at 0 ≡ fresh_checksum after
  pub flags : (header_of after).flags ≡ (header_of a).flags
  pub live : reading after ≡ changed e a (reading a)
  pub others : (i : ℕ) → i < compared (destination e) a → named (stretches e a after) i ≡ false → get_or after i 0 ≡ get_or a i 0
  pub addresses : KeepsAddresses e a base after new_base

-- and of an edit that answers `value` and leaves `bytes`: as many bytes are lent afterwards as before
pub record Holds (e : Edit) (a : List ℕ) (base value : ℕ) (bytes : List ℕ) : Type 0 where
  pub result : Kept e a base (result_area (destination e) value bytes) (result_base (destination e) base value)
  pub size : length bytes ≡ length (lent (destination e) a)

-- Demand 3: of every edit of every accepted version 1 list, at every base, that is not refused
abbrev pub Demand3 : Type 0
Demand3 =
    (e : Edit) (a : List ℕ) (base value : ℕ) (bytes : List ℕ)
    → AcceptedV1 a base
    → run e a base ≡ done value bytes
    → Holds e a base value bytes

-- the same of a call's answer in numbers and of the lent bytes afterwards: where the number is 0, all of it holds
abbrev pub Keeps : Edit → List ℕ → ℕ → DoneAnswer → List ℕ → Type 0
Keeps e a base r bytes = r.number ≡ 0 → Holds e a base r.value bytes

-- ---- what a call is promised to do

-- the call that makes the edit e of the list a at base answers r and leaves the lent bytes as `bytes`: the answer is that of the
-- written rules, so is every lent byte, and where the number is 0 all of demand 3 holds
pub record Promised (e : Edit) (a : List ℕ) (base : ℕ) (r : DoneAnswer) (bytes : List ℕ) : Type 0 where
  pub answered : r ≡ done_answer (answer (run e a base))
  pub left : bytes ≡ bytes_after (lent (destination e) a) (run e a base)
  pub keeps : Keeps e a base r bytes
