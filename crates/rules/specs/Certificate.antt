-- Document 02, request 5: the test certificate entry. Its fields, the reading, the gate, refusals 18, 19 and 20, and the answer.
-- The floats are those of the language's own account of IEEE 754 (lib.Ieee): a value keeps the sign of zero, each number that the format
-- holds is written in one way, and there is one value that is no number. So an equation between two numbers settles all 64 bits.
use Rattle.rules.specs.declared.Facts.{Facts}
use Rattle.rules.specs.declared.Refusal.{Refusal}
use Rattle.rules.specs.declared.certificate.Uncertified.{Uncertified}
use Rattle.rules.specs.declared.certificate.Verdict.{Verdict}
use Rattle.std.specs.Prelude.{Err, Ok, Result, ℕ, ◌^◌, Bool, true, false, not, ◌&&◌, ◌||◌, cond, List, [], ◌∷◌, ltb, eqb, pos, Float}
use Rattle.std.specs.Float.{nan, inf, fin, binary64}
use Rattle.std.specs.Float.Ieee.{of_bits, of_int, add, mul, lt, le}
use Rattle.wire.specs.Bytes.{field}
use Rattle.rules.specs.declared.Entry.{Entry}
use Rattle.rules.specs.declared.certificate.Certificate.{Certificate}
use Rattle.rules.specs.declared.certificate.Calibration.{Calibration}
use Rattle.rules.specs.declared.certificate.Gate.{Gate}
use Rattle.rules.specs.declared.certificate.Gate.TheVariants.{Band, Ceiling, Floor}
use Rattle.rules.specs.declared.certificate.Uncertified.TheVariants as uncertified
use Rattle.rules.specs.declared.certificate.CertifiedAnswer.{CertifiedAnswer}
use Rattle.rules.specs.Entries.{entries_of}
use Rattle.rules.specs.Refusals.{number_of, place_of}
use Rattle.rules.specs.Tags.{certificate_tag, certificate_size}
use Rattle.rules.specs.Check.{check}
use Rattle.rules.specs.Demand3.{live_at}

-- ---- the fields

-- "valve serial (8), test number (8), kind (4), counts (4), then gain, offset, low and high as f64": little-endian numbers of the 56
-- bytes, the floats as the patterns of their 64 bits
unfoldable pub certificate_of : List ℕ → Certificate
certificate_of d =
    record {
      serial = field d 0 8;
      test = field d 8 8;
      kind = field d 16 4;
      counts = field d 20 4;
      gain = field d 24 8;
      offset = field d 32 8;
      low = field d 40 8;
      high = field d 48 8;
    }

-- the f64 of a pattern; of each pattern of no number it is nan
abbrev pub float : ℕ → Float
float bits = of_bits binary64 bits

-- ---- the reading

-- "Reading = gain times counts, then plus offset, each rounded once": to the nearest float, of two as near to the even one. Counts, under
-- 2^32, are a float exactly.
unfoldable pub gauge_reading : Calibration → ℕ → Float
gauge_reading k counts = add binary64 (mul binary64 k.gain (of_int binary64 (pos counts))) k.offset

-- "The gauge's gain and offset travel together as one calibration."
abbrev pub calibration_of : Certificate → Calibration
calibration_of c = record { gain = float c.gain; offset = float c.offset }

-- the reading of a certificate
abbrev pub reading_of : Certificate → Float
reading_of c = gauge_reading (calibration_of c) c.counts

-- ---- the gate

-- "The gate is a band with low and high, a ceiling with high, or a floor with low (kinds 1, 2, 3)."
abbrev pub is_band : ℕ → Bool
is_band kind = eqb kind 1

abbrev pub is_ceiling : ℕ → Bool
is_ceiling kind = eqb kind 2

abbrev pub is_floor : ℕ → Bool
is_floor kind = eqb kind 3

-- the gate of a certificate whose kind is known; of an unknown one it is not asked
unfoldable pub gate_of : Certificate → Gate
gate_of c =
    cond (is_band c.kind) (Band (float c.low) (float c.high))
    (cond (is_ceiling c.kind) (Ceiling (float c.high)) (Floor (float c.low)))

-- ---- refusals 18 and 19

-- the entries that have a tag, in list order: 18 is by these (certified_in). A void has tag 0.
unfoldable pub tagged : ℕ → List Entry → List Entry
tagged tag [] = []
tagged tag (e ∷ es) = cond (eqb e.tag_id tag) (e ∷ tagged tag es) (tagged tag es)

-- 19: "unless serial and test equal the ones asked for"
abbrev pub refuses_identity : ℕ → ℕ → Certificate → Bool
refuses_identity serial test c = not (eqb c.serial serial && eqb c.test test)

-- ---- refusal 20

-- "the kind is unknown"
abbrev pub unknown_kind : ℕ → Bool
unknown_kind kind = not (is_band kind || is_ceiling kind || is_floor kind)

-- the most counts that do not "exceed 2^24"
abbrev pub max_counts : ℕ
max_counts = 2 ^ 24

-- "infinite or no number"
unfoldable pub not_finite : Float → Bool
not_finite nan = true
not_finite (inf s) = true
not_finite (fin s m e) = false

-- +0.0
abbrev pub plus_zero : Float
plus_zero = fin false 0 (pos 0)

-- "gain is not above zero"
abbrev pub not_above_zero : Float → Bool
not_above_zero x = not (lt plus_zero x)

-- "an unused limit is not eight zero bytes": a ceiling's low, a floor's high
abbrev pub unused_not_zero : Certificate → Bool
unused_not_zero c = is_ceiling c.kind && not (eqb c.low 0) || is_floor c.kind && not (eqb c.high 0)

-- "a band's low exceeds its high"
abbrev pub low_exceeds_high : Certificate → Bool
low_exceeds_high c = is_band c.kind && lt (float c.high) (float c.low)

-- 20: "if the kind is unknown, counts exceed 2^24, a float or the reading is infinite or no number, gain is not above zero, an unused limit
-- is not eight zero bytes, or a band's low exceeds its high"
unfoldable pub refuses_contents : Certificate → Bool
refuses_contents c =
    unknown_kind c.kind
    || ltb max_counts c.counts
    || not_finite (float c.gain)
    || not_finite (float c.offset)
    || not_finite (float c.low)
    || not_finite (float c.high)
    || not_finite (reading_of c)
    || not_above_zero (float c.gain)
    || unused_not_zero c
    || low_exceeds_high c

-- ---- the call

-- "pass or fail, limits included in the pass"
unfoldable pub passes : Gate → Float → Bool
passes (Band low high) x = le low x && le x high
passes (Ceiling high) x = le x high
passes (Floor low) x = le low x

-- 20. "Otherwise the reading, and pass or fail"
unfoldable pub judged : Certificate → Result Verdict Uncertified
judged c = cond (refuses_contents c) (Err uncertified.Unsound) (Ok (record { reading = reading_of c; pass = passes (gate_of c) (reading_of c) }))

-- 19, then 20
abbrev pub certified : ℕ → ℕ → Certificate → Result Verdict Uncertified
certified serial test c = cond (refuses_identity serial test c) (Err uncertified.Another) (judged c)

-- 18 "unless exactly one entry of the list has this tag and that one is 56 bytes long", then 19: by the entries of a that have the tag
abbrev pub certified_in : List ℕ → ℕ → ℕ → List Entry → Result Verdict Uncertified
certified_in a serial test [] = Err uncertified.NotOne
certified_in a serial test (e ∷ []) =
    cond (not (eqb e.data_size certificate_size)) (Err uncertified.NotOne) (certified serial test (certificate_of (live_at a e).content))
certified_in a serial test (e ∷ f ∷ es) = Err uncertified.NotOne

-- a refused check ends the call there
abbrev pub after_checks : Result Facts Refusal → Result Verdict Uncertified → Result Verdict Uncertified
after_checks (Ok f) x = x
after_checks (Err r) x = Err (uncertified.Refused r)

-- "Refusals after 1 to 8, in this order"
unfoldable pub certify : List ℕ → ℕ → ℕ → ℕ → Result Verdict Uncertified
certify a base serial test = after_checks (check a base) (certified_in a serial test (tagged certificate_tag (entries_of a)))

-- (document 01) "A refusal answers its number with every other number in the answer 0"; as amended by request 8, but for the place
abbrev pub refused_answer : ℕ → ℕ → CertifiedAnswer
refused_answer n at = record { number = n; pass = 0; reading = plus_zero; at = at }

-- the answer in numbers
abbrev pub certified_answer : Result Verdict Uncertified → CertifiedAnswer
certified_answer (Ok v) = record { number = 0; pass = cond v.pass 1 0; reading = v.reading; at = 0 }
certified_answer (Err (uncertified.Refused r)) = refused_answer (number_of r) (place_of r)
certified_answer (Err uncertified.NotOne) = refused_answer 18 0
certified_answer (Err uncertified.Another) = refused_answer 19 0
certified_answer (Err uncertified.Unsound) = refused_answer 20 0
