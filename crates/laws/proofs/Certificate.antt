-- The reading that a call answers is never -0.0, and it is settled in all its 64 bits.
-- The gain is above zero and the counts are not below it, so their product has no minus sign. Its sum with the offset has one only where it is
-- below zero, and there its size is a whole number of the format's smallest values, one at least, which no rounding takes to zero.
use Rattle.std.specs.Prelude.{Err, Ok, Result}
use Rattle.wire.proofs.Apart.{apart}
use Rattle.rules.specs.declared.Facts.{Facts}
use Rattle.rules.specs.declared.Refusal.{Refusal}
use mathlib.Core.Path.{◌≡◌, refl, sym, ap, subst, ◌∙◌}
use Prim.Native.Nat.{ℕ, zero, suc, ◌+◌, ◌-◌, ◌*◌, ◌^◌, ◌≤◌, ◌<◌}
use native.Mathlib.Omega.{arith}
use native.Mathlib.Nat.{lt_of_not-le, lt_of_mul-lt-mul_right, mul-lt-mul_of_pos_right, mul-le-mul_right, mul_assoc, mul-pos, mul-sub, mul-one}
use mathlib.Core.Bool.{Bool, true, false, not, cond, or-true, true≢false}
use mathlib.Core.List.{List, [], ◌∷◌}
use lib.IntN.{ℤ, pos, negsuc}
use lib.Dec.{T, ltb, eqb, leb→le, ltb→lt}
use lib.Pow.{pow-add, pow_pos, pow-lt}
use lib.Ieee.{
  Float,
  nan,
  inf,
  fin,
  Format,
  binary32,
  binary64,
  low,
  up,
  down,
  odd,
  units,
  round,
  sum,
  add,
  mul,
  of_int,
  lt,
  fits,
  to_bits,
  is_nan,
}
use lib.Ieee.Bits.{of_bits-fits, of_bits-to_bits, to_bits-of_bits}
use lib.Ieee.Fits.{and_l, and_r, down_pos, add-fits, mul-fits}
use lib.Ieee.Order.{round_mono}
use lib.Ieee.Positive.{positive, above_of_le}
use Rattle.rules.specs.declared.Entry.{Entry}
use Rattle.rules.specs.declared.certificate.Certificate.{Certificate}
use Rattle.rules.specs.declared.certificate.Verdict.{Verdict}
use Rattle.rules.specs.declared.certificate.Uncertified.{Uncertified}
use Rattle.rules.specs.declared.certificate.Uncertified.TheVariants as uncertified
use Rattle.rules.specs.Entries.{entries_of}
use Rattle.rules.specs.Tags.{certificate_tag, certificate_size}
use Rattle.rules.specs.Check.{check}
use Rattle.rules.specs.Demand3.{live_at}
use Rattle.rules.specs.Certificate.{
  certificate_of,
  float,
  gauge_reading,
  reading_of,
  tagged,
  refuses_identity,
  not_finite,
  refuses_contents,
  judged,
  certified,
  certified_in,
  after_checks,
  certify,
  plus_zero,
}
use Rattle.laws.proofs.Check.{past}

-- -0.0
abbrev pub minus_zero : Float
minus_zero = fin true 0 (pos 0)

-- a float with another sign
abbrev signed : Bool → Float → Float
signed s nan = nan
signed s (inf t) = inf s
signed s (fin t m e) = fin s m e

-- the sign goes into either answer of a test
signed_cond : (s b : Bool) (x y : Float) → signed s (cond b x y) ≡ cond b (signed s x) (signed s y)
signed_cond s true x y = refl
signed_cond s false x y = refl

-- a number written with an odd m has the sign that it was given
signed_odd : (s t : Bool) (d q k l : ℕ) → signed s (odd d t q k l) ≡ odd d s q k l
unfolding odd
signed_odd s t d zero k l = refl
signed_odd s t d (suc q) k l = refl

-- what is above zero has no minus sign
above_plain : (x : Float) → (lt plus_zero x ≡ false → ⊥) → x ≡ signed false x
unfolding lt
above_plain nan h = refl
above_plain (inf true) h = absurd (h refl)
above_plain (inf false) h = refl
above_plain (fin true m e) h = absurd (h refl)
above_plain (fin false m e) h = refl

-- the smallest value of a format is above zero
least_positive : (f : Format) → T (positive (round f false 1 (2 ^ low f)))
unfolding round
least_positive binary32 = tt
least_positive binary64 = tt

-- where a is less than b and both, times l, are multiples of c, their difference times l is c at least
gap : (a b c l x y : ℕ) → 0 < l → a < b → a * l ≡ x * c → b * l ≡ y * c → c ≤ (b - a) * l
gap a b c l x y L h p q = omega (arith, mul-sub l b a, mul-le-mul_right c (lt_of_mul-lt-mul_right c (rw (p, q) at (mul-lt-mul_of_pos_right h L))))

module _ (f : Format) where
  -- a rounded fraction has the sign that it was given
  signed_round : (s t : Bool) (a c : ℕ) → signed s (round f t a c) ≡ round f s a c
  unfolding round units
  signed_round s t a c = rw (signed_cond, signed_odd)

  -- a product of two floats with no minus sign has none
  signed_mul : (x y : Float) → mul f (signed false x) (signed false y) ≡ signed false (mul f x y)
  unfolding mul
  signed_mul nan y = refl
  signed_mul (inf s) nan = refl
  signed_mul (inf s) (inf t) = refl
  signed_mul (inf s) (fin t n d) = rw (signed_cond false (eqb n 0))
  signed_mul (fin s m e) nan = refl
  signed_mul (fin s m e) (inf t) = rw (signed_cond false (eqb m 0))
  signed_mul (fin s m e) (fin t n d) = sym (signed_round false _ _ _)

  -- a rounded fraction is not -0.0 if it has no minus sign or is the smallest value or more
  round_plain : (s : Bool) (a c : ℕ) → 0 < c → (T s → c ≤ a * 2 ^ low f) → round f s a c ≡ minus_zero → ⊥
  round_plain false a c C h k = let z : ◌≡◌ {A = ℕ} 0 1 = cc (signed_round false false a c) in omega arith
  round_plain true a c C h k =
      let m = round_mono f 1 (2 ^ low f) a c (pow_pos (low f)) C (omega (arith, h tt)) in
      rw (← signed_round false true a c, k) at (above_of_le (round f false 1 (2 ^ low f)) (round f false a c) (least_positive f) m)

  -- a value that the format holds is a whole number of its smallest values
  in_units : (s : Bool) (m : ℕ) (e : ℤ) → T (fits f (fin s m e)) → (n : ℕ) × (m * up e * 2 ^ low f ≡ n * down e)
  unfolding fits
  in_units s zero e h = (0, omega arith)
  in_units s (suc m) (pos k) h = (suc m * 2 ^ k * 2 ^ low f, omega arith)
  in_units s (suc m) (negsuc k) h =
      let d : 2 ^ suc k ≤ 2 ^ low f = leb→le (2 ^ suc k) (2 ^ low f) (search (and_l, and_r)) in
      let l : low f - suc k + suc k ≡ low f = omega (arith, lt_of_not-le (λ (g : low f < suc k). omega (arith, pow-lt g))) in
      (suc m * 2 ^ (low f - suc k), rw (mul-one, mul_assoc, ← pow-add 2 (low f - suc k) (suc k), l))

  -- a sum a / c + b / c of whole numbers of smallest values is not -0.0, whatever the sign t of b
  sum_plain : (t : Bool) (a b c x y : ℕ) → 0 < c → a * 2 ^ low f ≡ x * c → b * 2 ^ low f ≡ y * c → sum f false a t b c ≡ minus_zero → ⊥
  unfolding sum
  sum_plain false a b c x y C p q k = round_plain false (a + b) c C (λ t. absurd t) k
  sum_plain true a b c x y C p q k = go (ltb a b) (ltb→lt a b) k
    where
      go : (z : Bool) → (T z → a < b) → cond z (round f true (b - a) c) (round f false (a - b) c) ≡ minus_zero → ⊥
      go true h k = round_plain true (b - a) c C (λ t. gap a b c (2 ^ low f) x y (pow_pos (low f)) (h t) p q) k
      go false h k = round_plain false (a - b) c C (λ t. absurd t) k

  -- a sum whose first part has no minus sign is not -0.0
  add_plain : (x y : Float) → T (fits f x) → T (fits f y) → add f (signed false x) y ≡ minus_zero → ⊥
  unfolding add
  add_plain nan y u v k = let z : ◌≡◌ {A = ℕ} 0 1 = cc in omega arith
  add_plain (inf s) nan u v k = let z : ◌≡◌ {A = ℕ} 0 1 = cc in omega arith
  add_plain (inf s) (inf true) u v k = let z : ◌≡◌ {A = ℕ} 0 1 = cc in omega arith
  add_plain (inf s) (inf false) u v k = let z : ◌≡◌ {A = ℕ} 0 1 = cc in omega arith
  add_plain (inf s) (fin t n d) u v k = let z : ◌≡◌ {A = ℕ} 0 1 = cc in omega arith
  add_plain (fin s m e) nan u v k = let z : ◌≡◌ {A = ℕ} 0 1 = cc in omega arith
  add_plain (fin s m e) (inf t) u v k = let z : ◌≡◌ {A = ℕ} 0 1 = cc in omega arith
  add_plain (fin s m e) (fin t n d) u v k =
      let p = in_units s m e u in
      let q = in_units t n d v in
      sum_plain t _ _ (down e * down d) p.0 q.0 (mul-pos (down_pos e) (down_pos d))
      (omega (arith, ap (λ (z : ℕ). z * down d) p.1)) (omega (arith, ap (λ (z : ℕ). z * down e) q.1)) k

-- the reading of a certificate that 20 does not refuse is never -0.0
reading_plain : (c : Certificate) → refuses_contents c ≡ false → reading_of c ≡ minus_zero → ⊥
unfolding refuses_contents gauge_reading of_int
reading_plain c ok k =
    let gain = float c.gain in
    let counts = of_int binary64 (pos c.counts) in
    let g : gain ≡ signed false gain = above_plain gain (λ p. true≢false (rw (p, or-true) at ok)) in
    let n : counts ≡ signed false counts = sym (signed_round binary64 false false c.counts 1) in
    add_plain binary64 (mul binary64 gain counts) (float c.offset) (mul-fits binary64 gain counts) (of_bits-fits binary64 c.offset)
    (rw (g, n, signed_mul binary64 gain counts) at k)

-- ---- of the whole call

-- x is the reading of some certificate that 20 does not refuse
abbrev SoundReading : Float → Type 0
SoundReading x = (c : Certificate) × (refuses_contents c ≡ false) × (reading_of c ≡ x)

-- what a call reads is that
read_sound : (a : List ℕ) (base serial test : ℕ) (v : Verdict) → certify a base serial test ≡ Ok v → SoundReading v.reading
unfolding certify judged
read_sound a base serial test v h = go (check a base) h
  where
    never : {e : Uncertified} → ◌≡◌ {A = Result Verdict Uncertified} (Err e) (Ok v) → ⊥
    never r = apart cc

    one : (c : Certificate) → certified serial test c ≡ Ok v → SoundReading v.reading
    one c q =
        let i = past (refuses_identity serial test c) (Err uncertified.Another) _ (Ok v) never q in
        let j = past (refuses_contents c) (Err uncertified.Unsound) _ (Ok v) never i.1 in
        let e = j.1 in
        (c, j.0, cc)

    ones : (es : List Entry) → certified_in a serial test es ≡ Ok v → SoundReading v.reading
    ones [] q = apart cc
    ones (e ∷ []) q =
        one (certificate_of (live_at a e).content) (past (not (eqb e.data_size certificate_size)) (Err uncertified.NotOne) _ (Ok v) never q).1
    ones (e ∷ f ∷ es) q = apart cc

    go : (c : Result Facts Refusal) → after_checks c (certified_in a serial test (tagged certificate_tag (entries_of a))) ≡ Ok v → SoundReading v.reading
    go (Ok f) q = ones (tagged certificate_tag (entries_of a)) q
    go (Err r) q = apart cc

-- the reading that a call answers is never -0.0
pub never_negative_zero : (a : List ℕ) (base serial test : ℕ) (v : Verdict) → certify a base serial test ≡ Ok v
    → v.reading ≡ minus_zero → ⊥
never_negative_zero a base serial test v h k =
    let s = read_sound a base serial test v h in
    reading_plain s.0 s.1 (s.2 ∙ k)

-- what is neither infinite nor no number is a number
finite_number : (x : Float) → (not_finite x ≡ true → ⊥) → T (not (is_nan x))
unfolding not_finite is_nan
finite_number nan h = h refl
finite_number (inf s) h = tt
finite_number (fin s m e) h = tt

-- it has a pattern of 64 bits, and no other has its value: all its bits are settled
pub reading_bits : (a : List ℕ) (base serial test : ℕ) (v : Verdict) → certify a base serial test ≡ Ok v
    → (float (to_bits binary64 v.reading) ≡ v.reading) × ((n : ℕ) → n < 2 ^ 64 → float n ≡ v.reading → n ≡ to_bits binary64 v.reading)
unfolding refuses_contents gauge_reading
reading_bits a base serial test v h =
    let x = v.reading in
    let s = read_sound a base serial test v h in
    let fitting : T (fits binary64 x) = subst (λ (y : Float). T (fits binary64 y)) s.2 (add-fits binary64 _ (float s.0.offset)) in
    let number : T (not (is_nan x)) = finite_number x (λ q. true≢false (rw (s.2, q, or-true) at s.1)) in
    (of_bits-to_bits binary64 x fitting, λ n l q. sym (rw q at (to_bits-of_bits binary64 n l (rw q number))))
