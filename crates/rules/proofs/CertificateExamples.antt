-- Document 02, request 5, by its own example and by examples of ours: what the rules compute. The list stands at 0x1000, without checksum.
use Rattle.std.specs.Prelude.{Err, Ok}
use mathlib.Core.Path.{◌≡◌, refl}
use Prim.Native.Nat.{ℕ}
use mathlib.Core.Bool.{true, false}
use mathlib.Core.List.{List, [], ◌∷◌}
use lib.IntN.{pos, negsuc}
use lib.Ieee.{Float, fin, of_bits, of_int, add, mul, lt, eq, le}
use Rattle.wire.specs.Bytes.{field, le_bytes, splice}
use Rattle.rules.specs.declared.certificate.Uncertified.TheVariants as uncertified
use Rattle.rules.specs.Header.{header_of}
use Rattle.rules.specs.Entries.{entry_at, walk_in, walk_from, walk, entries_of, live_count, void_count}
use Rattle.rules.specs.Checksum.{checksum_holds}
use Rattle.rules.specs.Check.{fields_refusal, header_refusal, checks_of}
use Rattle.rules.specs.Certificate.{
  certificate_of,
  float,
  gauge_reading,
  gate_of,
  passes,
  not_finite,
  refuses_contents,
  judged,
  tagged,
  certify,
}

-- ---- the numbers

-- 0.25 is 1 * 2^-2, -100 is -(25 * 2^2), 900 is 225 * 2^2
abbrev quarter : Float
quarter = fin false 1 (negsuc 1)

abbrev minus_hundred : Float
minus_hundred = fin true 25 (pos 2)

abbrev nine_hundred : Float
nine_hundred = fin false 225 (pos 2)

-- ---- the bytes

-- serial 7, test 9, a band from 850 to 900, counts 4000, gain 0.25, offset -100
abbrev area_band : List ℕ
area_band =
    0x0b ∷ 0xb1 ∷ 0x0f ∷ 0x4a ∷ 0x00 ∷ 0x01 ∷ 0x18 ∷ 0x03
    ∷ 0x58 ∷ 0x00 ∷ 0x00 ∷ 0x00 ∷ 0x58 ∷ 0x00 ∷ 0x00 ∷ 0x00
    ∷ 0x00 ∷ 0x00 ∷ 0x00 ∷ 0x00 ∷ 0x00 ∷ 0x00 ∷ 0x00 ∷ 0x00
    ∷ 0x10 ∷ 0xf0 ∷ 0xff ∷ 0x08 ∷ 0x38 ∷ 0x00 ∷ 0x00 ∷ 0x00
    ∷ 0x07 ∷ 0x00 ∷ 0x00 ∷ 0x00 ∷ 0x00 ∷ 0x00 ∷ 0x00 ∷ 0x00
    ∷ 0x09 ∷ 0x00 ∷ 0x00 ∷ 0x00 ∷ 0x00 ∷ 0x00 ∷ 0x00 ∷ 0x00
    ∷ 0x01 ∷ 0x00 ∷ 0x00 ∷ 0x00 ∷ 0xa0 ∷ 0x0f ∷ 0x00 ∷ 0x00
    ∷ 0x00 ∷ 0x00 ∷ 0x00 ∷ 0x00 ∷ 0x00 ∷ 0x00 ∷ 0xd0 ∷ 0x3f
    ∷ 0x00 ∷ 0x00 ∷ 0x00 ∷ 0x00 ∷ 0x00 ∷ 0x00 ∷ 0x59 ∷ 0xc0
    ∷ 0x00 ∷ 0x00 ∷ 0x00 ∷ 0x00 ∷ 0x00 ∷ 0x90 ∷ 0x8a ∷ 0x40
    ∷ 0x00 ∷ 0x00 ∷ 0x00 ∷ 0x00 ∷ 0x00 ∷ 0x20 ∷ 0x8c ∷ 0x40
    ∷ []

-- with another tag
abbrev area_none : List ℕ
area_none = splice area_band 24 (0x11 ∷ [])

-- with high 899 instead of 900
abbrev area_below : List ℕ
area_below = splice area_band 80 (le_bytes 8 0x408c180000000000)

-- with a ceiling of 900, and the low that it does not use zero, or -0.0
abbrev area_ceiling : List ℕ
area_ceiling = splice (splice area_band 48 (le_bytes 4 2)) 72 (le_bytes 8 0)

abbrev area_negative_zero : List ℕ
area_negative_zero = splice area_ceiling 72 (le_bytes 8 0x8000000000000000)

-- with counts 2^24 + 1
abbrev area_counts : List ℕ
area_counts = splice area_band 52 (le_bytes 4 0x1000001)

-- ---- the claim

pub record CertificateExamples : Type 0 where
  -- "Gain 0.25, offset -100, counts 4000 reads exactly 900."
  pub exact : gauge_reading (record { gain = quarter; offset = minus_hundred }) 4000 ≡ nine_hundred
  -- and the patterns of these floats
  pub gain : float 0x3fd0000000000000 ≡ quarter
  pub offset : float 0xc059000000000000 ≡ minus_hundred
  pub reading : float 0x408c200000000000 ≡ nine_hundred
  -- limits included in the pass
  pub passed : certify area_band 0x1000 7 9 ≡ Ok (record { reading = nine_hundred; pass = true })
  pub ceiling : certify area_ceiling 0x1000 7 9 ≡ Ok (record { reading = nine_hundred; pass = true })
  pub failed : certify area_below 0x1000 7 9 ≡ Ok (record { reading = nine_hundred; pass = false })
  -- 18, 19, 20
  pub missing : certify area_none 0x1000 7 9 ≡ (Err uncertified.NotOne)
  pub serial : certify area_band 0x1000 8 9 ≡ (Err uncertified.Another)
  pub counts : certify area_counts 0x1000 7 9 ≡ (Err uncertified.Unsound)
  pub unused : certify area_negative_zero 0x1000 7 9 ≡ (Err uncertified.Unsound)
  -- 19 before 20: the counts are wrong too
  pub test : certify area_counts 0x1000 7 8 ≡ (Err uncertified.Another)

pub certificate_examples : CertificateExamples
unfolding field le_bytes splice header_of entry_at walk_in walk_from walk entries_of live_count void_count checksum_holds fields_refusal header_refusal
    checks_of certificate_of gauge_reading gate_of passes not_finite refuses_contents judged tagged certify of_bits of_int add mul lt eq le
certificate_examples =
    record {
      exact = refl;
      gain = refl;
      offset = refl;
      reading = refl;
      passed = refl;
      ceiling = refl;
      failed = refl;
      missing = refl;
      serial = refl;
      counts = refl;
      unused = refl;
      test = refl;
    }
