-- Document 02, request 8, by examples of our own: the number and the place that a check answers, worked out by hand from the lists' bytes.
-- The lists stand at 0x1000. But for edition 0.9's they have no checksum; but for that of `pastUsed`, which has two, they have three entries,
-- of 16 bytes each.
use Rattle.std.specs.Prelude.{Result}
use Rattle.rules.specs.declared.Facts.{Facts}
use Rattle.rules.specs.declared.Refusal.{Refusal}
use mathlib.Core.Path.{◌≡◌, refl}
use Prim.Native.Nat.{ℕ}
use mathlib.Core.List.{List, [], ◌∷◌, ◌++◌, map}
use lib.ListN.{replicate}
use Rattle.wire.specs.Bytes.{field, xor, sum}
use Rattle.rules.specs.declared.CheckAnswer.{CheckAnswer}
use Rattle.rules.specs.Header.{header_of}
use Rattle.rules.specs.Entries.{entry_at, walk_in, walk_from, walk, live_count, void_count}
use Rattle.rules.specs.Checksum.{checksum_holds}
use Rattle.rules.specs.Check.{fields_refusal, header_refusal, checks_of, check, check_answer}
use Rattle.rules.specs.Edition09.{sum_holds, check09}

-- ---- the bytes

-- a header with a checksum byte, a version, and used_size, which is total_size too; no flag
abbrev header : ℕ → ℕ → ℕ → List ℕ
header checksum version used =
    0x0b ∷ 0xb1 ∷ 0x0f ∷ 0x4a ∷ checksum ∷ version ∷ 0x18 ∷ 0x03
    ∷ used ∷ 0x00 ∷ 0x00 ∷ 0x00 ∷ used ∷ 0x00 ∷ 0x00 ∷ 0x00
    ∷ replicate 8 0

-- edition 0.9's, with size 64
abbrev header09 : ℕ → List ℕ
header09 checksum =
    0xff ∷ 0xd0 ∷ 0x6e ∷ 0x00 ∷ checksum ∷ 0x01 ∷ 0x10 ∷ 0x03
    ∷ 0x40 ∷ 0x00 ∷ 0x00 ∷ 0x00 ∷ 0x40 ∷ 0x00 ∷ 0x00 ∷ 0x00
    ∷ []

-- an entry of 16 bytes with a tag, a header size and a data_size; its data are aa bb cc
abbrev entry : ℕ → ℕ → ℕ → List ℕ
entry tag hdr_size data_size =
    tag ∷ 0x00 ∷ 0x00 ∷ hdr_size ∷ data_size ∷ 0x00 ∷ 0x00 ∷ 0x00
    ∷ 0xaa ∷ 0xbb ∷ 0xcc ∷ 0x00 ∷ 0x00 ∷ 0x00 ∷ 0x00 ∷ 0x00
    ∷ []

-- one that keeps the rules; with a header of 9 bytes; with 49 bytes of data, 64 in all where at most 48 are left; a void of 3 bytes
abbrev good : List ℕ
good = entry 1 8 3

abbrev wide : List ℕ
wide = entry 1 9 3

abbrev long : List ℕ
long = entry 1 8 49

abbrev odd_void : List ℕ
odd_void = entry 0 8 3

-- a list of a version with three entries
abbrev three : ℕ → List ℕ → List ℕ → List ℕ → List ℕ
three version x y z = header 0 version 72 ++ (x ++ (y ++ z))

-- ---- the claim

-- the number of a check's answer, and the place
abbrev placed : Result Facts Refusal → List ℕ
placed x = let n : CheckAnswer = check_answer x in n.number ∷ n.at ∷ []

abbrev shown : List ℕ → List ℕ
shown a = placed (check a 0x1000)

-- of the lists with one entry as their first, middle and last, beside good ones
abbrev shown_each : List ℕ → List (List ℕ)
shown_each x = map shown (three 1 x good good ∷ three 1 good x good ∷ three 1 good good x ∷ [])

-- refusal 8 at the first entry, the middle one and the last
abbrev each_place : List (List ℕ)
each_place = (8 ∷ 24 ∷ []) ∷ (8 ∷ 40 ∷ []) ∷ (8 ∷ 56 ∷ []) ∷ []

-- each way to break a rule, first, in the middle and last; of two bad ones the first; by a later version's own rule, where a header of 9 bytes
-- is good, one of 7 is not, and one of 16 is not where 8 bytes are left; another refusal has no place; edition 0.9
pub record BadEntryExamples : Type 0 where
  pub header_size : shown_each wide ≡ each_place
  pub too_long : shown_each long ≡ each_place
  pub void : shown_each odd_void ≡ each_place
  pub two : map shown (three 1 good odd_void wide ∷ three 1 wide wide long ∷ []) ≡ (8 ∷ 40 ∷ []) ∷ (8 ∷ 24 ∷ []) ∷ []
  pub version2 : map shown (three 2 wide wide wide ∷ three 2 wide (entry 1 7 3) wide ∷ []) ≡ (0 ∷ 0 ∷ []) ∷ (8 ∷ 40 ∷ []) ∷ []
  pub past_used : shown (header 0 2 48 ++ (good ++ (0x01 ∷ 0x00 ∷ 0x00 ∷ 0x10 ∷ replicate 4 0))) ≡ 8 ∷ 40 ∷ []
  pub checksum : shown (header 1 1 72 ++ (good ++ (wide ++ good))) ≡ 7 ∷ 0 ∷ []
  pub edition09 : placed (check09 (header09 0x89 ++ (good ++ (wide ++ good))) 0x1000) ≡ 8 ∷ 32 ∷ []

pub bad_entry_examples : BadEntryExamples
unfolding field xor sum header_of entry_at walk_in walk_from walk live_count void_count checksum_holds sum_holds fields_refusal header_refusal checks_of
bad_entry_examples =
    record {
      header_size = refl;
      too_long = refl;
      void = refl;
      two = refl;
      version2 = refl;
      past_used = refl;
      checksum = refl;
      edition09 = refl;
    }
