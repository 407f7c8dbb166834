-- Document 02, request 1, "Benches still on edition 0.9": lists as source 000 has them, their check and find, and the conversion into a
-- current list with checksums on.
use Rattle.rules.specs.declared.Extent.{Extent}
use Rattle.rules.specs.declared.Facts.{Facts}
use Rattle.rules.specs.declared.Refusal.{Refusal}
use Rattle.std.specs.Prelude.{Result, ◌≡◌, ℕ, ◌+◌, ◌-◌, ◌%◌, ◌^◌, Bool, true, false, cond, List, ◌++◌, length, take, drop, get_or, ltb, eqb}
use Rattle.wire.specs.Bytes.{sum}
use Rattle.rules.specs.declared.Header.{Header}
use Rattle.rules.specs.declared.Refusal.TheVariants.{Target, Room}
use Rattle.rules.specs.declared.DoneAnswer.{DoneAnswer}
use Rattle.rules.specs.Area.{down8}
use Rattle.rules.specs.Header.{header_of, header_size, header_bytes, fresh_header, checksum_at}
use Rattle.rules.specs.Checksum.{without, fresh_checksum, seal}
use Rattle.rules.specs.Edition.{Edition}
use Rattle.rules.specs.Refusals.{refuses_target}
use Rattle.rules.specs.Check.{checks_of}
use Rattle.rules.specs.Find.{find_of, find_data_of}
use Rattle.rules.specs.Outcome.{Outcome, refused, done, answer, bytes_after, done_answer, after_admission}
use Rattle.rules.specs.Relocate.{new_base, in_target}
use Rattle.rules.specs.Demand3.{reading, addresses_modulo, AcceptedV1}

-- ---- the edition

-- "a checksum byte equal to the sum modulo 256 of the other bytes of `size` (its validation step decides over its field text)", which
-- would have the sum negated; there is no flag, so it is always judged
unfoldable pub sum_holds : List ℕ → Bool
sum_holds a = eqb (header_of a).checksum (sum (without checksum_at (take (header_of a).used_size a)) % 256)

-- "signature 0x006ed0ff, 16-byte header"; "Refusals 1 to 8 keep their numbers and order, with 16 for 24 and `size`, `max_size` for used
-- and total": its fields stand where the current ones of bytes 0 to 15 do. It has no flags and no reserved word: what `headerOf` reads
-- at 16 to 23 is not its header's, and no rule of this edition asks for it.
abbrev pub edition09 : Edition
edition09 = record { signature = 0x006ed0ff; header_size = 16; summed = sum_holds }

-- ---- "We need check and find for these"; "Entries are read as in a current list, with a tag of three bytes"

abbrev pub check09 : List ℕ → ℕ → Result Facts Refusal
check09 a base = checks_of edition09 false a base

abbrev pub find09 : List ℕ → ℕ → ℕ → ℕ → Result Extent Refusal
find09 a base tag n = find_of edition09 a base tag n

abbrev pub find_data09 : List ℕ → ℕ → ℕ → ℕ → List ℕ
find_data09 a base tag n = find_data_of edition09 a base tag n

-- ---- "a conversion into a current list with checksums on"

-- "Conversion gives 5 for a version over 1": the old list is admitted as to an edit
abbrev pub admit09 : List ℕ → ℕ → Result Facts Refusal
admit09 a base = checks_of edition09 true a base

-- a current header is 8 bytes longer
abbrev pub growth : ℕ
growth = header_size - edition09.header_size

-- "Entry bytes are copied as they stand": bytes 16 to `size` of the old list
unfoldable pub old_entries : List ℕ → List ℕ
old_entries a = take ((header_of a).used_size - edition09.header_size) (drop edition09.header_size a)

-- "the header is the one create writes, with the old alignment, used size + 8, and total as relocation sets it", its checksum still 0
unfoldable pub grown_header : Header → ℕ → Header
grown_header h room =
    let new = fresh_header (down8 room) true in
    record {
      signature = new.signature;
      checksum = new.checksum;
      version = new.version;
      hdr_size = new.hdr_size;
      alignment = h.alignment;
      used_size = h.used_size + growth;
      total_size = new.total_size;
      flags = new.flags;
      reserved = new.reserved;
    }

-- the current list, for a target with `room` bytes from the shift on
unfoldable pub converted : List ℕ → ℕ → List ℕ
converted a room = seal (header_bytes (grown_header (header_of a) room) ++ old_entries a)

-- "The new base is the lowest address from the target base on that equals old base minus 8 modulo 2^alignment": eight bytes further on
-- is the lowest address from target base + 8 on that equals the old base
unfoldable pub grown_base : ℕ → ℕ → ℕ → ℕ
grown_base m base target = new_base m base (target + growth) - growth

-- the shift is new base minus target base
unfoldable pub grown_shift : List ℕ → ℕ → ℕ → ℕ
grown_shift a base target_base = grown_base (2 ^ (header_of a).alignment) base target_base - target_base

-- "other target bytes are 0"
abbrev pub converted_bytes : List ℕ → ℕ → ℕ → List ℕ
converted_bytes a by len = in_target len by (converted a (len - by))

-- "TARGET and ROOM apply as in relocation, with used being size + 8"; "the answer is the shift"
unfoldable pub convert_to : List ℕ → ℕ → ℕ → Outcome
convert_to a by len = cond (ltb len (by + ((header_of a).used_size + growth))) (refused Room) (done by (converted_bytes a by len))

-- the conversion: 1 to 8, 12, then the list; the lent bytes are the target's
unfoldable pub convert : List ℕ → ℕ → List ℕ → ℕ → Outcome
convert a base target target_base =
    after_admission (admit09 a base)
    (cond (refuses_target target_base (length target)) (refused Target) (convert_to a (grown_shift a base target_base) (length target)))

-- ---- what holds of a conversion that is not refused

-- of the list after at after_base, converted from a at base: it is an accepted version 1 list with checksums on and a fresh checksum, its
-- fresh reading is the old list's, and "each data address keeps its value modulo the alignment"
pub record Converted (a : List ℕ) (base : ℕ) (after : List ℕ) (after_base : ℕ) : Type 0 where
  pub again : AcceptedV1 after after_base
  pub flags : (header_of after).flags ≡ 1
  pub checksum : get_or after checksum_at 0 ≡ fresh_checksum after
  pub live : reading after ≡ reading a
  pub addresses : addresses_modulo (2 ^ (header_of a).alignment) after_base after ≡ addresses_modulo (2 ^ (header_of a).alignment) base a

-- and of a conversion that answers `value` and leaves `bytes`: as many bytes are lent afterwards as before
pub record ConvertHolds (a : List ℕ) (base : ℕ) (target : List ℕ) (target_base value : ℕ) (bytes : List ℕ) : Type 0 where
  pub result : Converted a base (drop value bytes) (target_base + value)
  pub size : length bytes ≡ length target

-- the call that converts answers r and leaves the target as `bytes`: the answer is that of the written rules, so is every byte of the
-- target, and where the number is 0 all of the above holds
pub record ConvertPromised (a : List ℕ) (base : ℕ) (target : List ℕ) (target_base : ℕ) (r : DoneAnswer) (bytes : List ℕ) : Type 0 where
  pub answered : r ≡ done_answer (answer (convert a base target target_base))
  pub left : bytes ≡ bytes_after target (convert a base target target_base)
  pub keeps : r.number ≡ 0 → ConvertHolds a base target target_base r.value bytes
