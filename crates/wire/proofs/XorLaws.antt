-- Laws of the exclusive or of numbers, of lists of bytes, and of a list with a stretch replaced.
use Rattle.std.proofs.Common.{
  ◌≡◌,
  ℕ,
  zero,
  suc,
  ◌+◌,
  ◌*◌,
  ◌/◌,
  ◌%◌,
  ◌<◌,
  List,
  [],
  ◌∷◌,
  ◌++◌,
  length,
  get_or,
  take,
  drop,
  replicate,
  sym,
  refl,
  ap,
  ◌∙◌,
  ap₂,
  add-one,
  arith,
  take-suc,
}
use lib.Arith.{bin_ind}
use lib.Bits as bits
use lib.Bits.{bit_xor, differ, xor_step, xor_zero_l, xor_zero_r, xor_comm, xor_self}
use Rattle.wire.specs.Bytes.{xor, splice}
use Rattle.wire.proofs.Range.{Bytes}
use Rattle.wire.proofs.Splice.{in_three}

differ_lt : (x y : ℕ) → x < 2 → y < 2 → differ x y < 2
differ_lt zero y hx hy = hy
differ_lt (suc x) zero hx hy = hx
differ_lt (suc x) (suc y) hx hy = differ_lt x y (omega arith) (omega arith)

differ_assoc : (x y z : ℕ) → x < 2 → y < 2 → z < 2 → differ (differ x y) z ≡ differ x (differ y z)
differ_assoc zero y z hx hy hz = refl
differ_assoc (suc zero) zero z hx hy hz = refl
differ_assoc (suc zero) (suc zero) zero hx hy hz = refl
differ_assoc (suc zero) (suc zero) (suc zero) hx hy hz = refl
differ_assoc (suc zero) (suc zero) (suc (suc z)) hx hy hz = absurd (omega arith)
differ_assoc (suc zero) (suc (suc y)) z hx hy hz = absurd (omega arith)
differ_assoc (suc (suc x)) y z hx hy hz = absurd (omega arith)

digit_lt : (n : ℕ) → n % 2 < 2
digit_lt n = omega arith

half_of : (h d : ℕ) → d < 2 → (h * 2 + d) / 2 ≡ h
half_of h d l = omega arith

odd_of : (h d : ℕ) → d < 2 → (h * 2 + d) % 2 ≡ d
odd_of h d l = omega arith

module _ (a b : ℕ) where
  differ_digits_lt : differ (a % 2) (b % 2) < 2
  differ_digits_lt = differ_lt (a % 2) (b % 2) (digit_lt a) (digit_lt b)

  xor_half : bit_xor a b / 2 ≡ bit_xor (a / 2) (b / 2)
  xor_half = ap (λ (x : ℕ). x / 2) (xor_step a b) ∙ half_of (bit_xor (a / 2) (b / 2)) _ differ_digits_lt

  xor_odd : bit_xor a b % 2 ≡ differ (a % 2) (b % 2)
  xor_odd = ap (λ (x : ℕ). x % 2) (xor_step a b) ∙ odd_of (bit_xor (a / 2) (b / 2)) _ differ_digits_lt

-- exclusive or is associative: each binary digit is
pub xor_assoc : (a b c : ℕ) → bit_xor (bit_xor a b) c ≡ bit_xor a (bit_xor b c)
xor_assoc a =
    bin_ind (λ (n : ℕ). (b c : ℕ) → bit_xor (bit_xor n b) c ≡ bit_xor n (bit_xor b c)) (λ b c. refl)
    (λ n ih b c.
    xor_step (bit_xor n b) c
    ∙ ap₂ (λ (x y : ℕ). bit_xor x (c / 2) * 2 + differ y (c % 2)) (xor_half n b) (xor_odd n b)
    ∙ ap₂ (λ (x y : ℕ). x * 2 + y) (ih (b / 2) (c / 2)) (differ_assoc (n % 2) (b % 2) (c % 2) (digit_lt n) (digit_lt b) (digit_lt c))
    ∙ sym (xor_step n (bit_xor b c) ∙ ap₂ (λ (x y : ℕ). bit_xor (n / 2) x * 2 + differ (n % 2) y) (xor_half b c) (xor_odd b c))) a

-- the exclusive or of two lists one behind the other is that of theirs
pub xor-append : (s t : List ℕ) → xor (s ++ t) ≡ bit_xor (xor s) (xor t)
unfolding xor
xor-append [] t = sym (xor_zero_l (xor t))
xor-append (b ∷ s) t = ap (bit_xor b) (xor-append s t) ∙ sym (xor_assoc b (xor s) (xor t))

-- one byte more
pub xor-next : (a : List ℕ) (i : ℕ) → i < length a → xor (take (i + 1) a) ≡ bit_xor (xor (take i a)) (get_or a i 0)
unfolding xor
xor-next a i h = rw (add-one, take-suc a i 0, xor-append, xor_zero_r)

-- zeros have the exclusive or 0
pub xor-zeros : (n : ℕ) → xor (replicate n 0) ≡ 0
unfolding xor
xor-zeros zero = refl
xor-zeros (suc n) = xor-zeros n

-- the exclusive or of bytes is a byte
pub xor_lt : (l : List ℕ) → Bytes l → xor l < 256
unfolding xor
xor_lt [] h = omega arith
xor_lt (b ∷ l) h = bits.xor_lt 8 b (xor l) (h 0) (xor_lt l (λ i. h (suc i)))

-- o out and n in
xor_swap : (p o n q : ℕ) → bit_xor p (bit_xor n q) ≡ bit_xor (bit_xor p (bit_xor o q)) (bit_xor o n)
xor_swap p o n q =
    sym (xor_assoc p (bit_xor o q) (bit_xor o n)
    ∙ ap (bit_xor p)
    (ap (λ (x : ℕ). bit_xor x (bit_xor o n)) (xor_comm o q)
    ∙ xor_assoc q o (bit_xor o n)
    ∙ ap (bit_xor q) (sym (xor_assoc o o n) ∙ ap (λ (x : ℕ). bit_xor x n) (xor_self o))
    ∙ xor_comm q n))

-- a splice changes the exclusive or by that of the bytes it covers and that of the new bytes
pub xor-splice : (a : List ℕ) (at : ℕ) (new : List ℕ) → xor (splice a at new) ≡ bit_xor (xor a) (bit_xor (xor (take (length new) (drop at a))) (xor new))
unfolding splice
xor-splice a at new =
    let p : List ℕ = take at a in
    let o : List ℕ = take (length new) (drop at a) in
    let q : List ℕ = drop (at + length new) a in
    xor_three p new q
    ∙ xor_swap (xor p) (xor o) (xor new) (xor q)
    ∙ ap (λ (x : ℕ). bit_xor x (bit_xor (xor o) (xor new))) (sym (xor_three p o q) ∙ ap xor (in_three a at (length new)))
  where
    xor_three : (p o q : List ℕ) → xor (p ++ (o ++ q)) ≡ bit_xor (xor p) (bit_xor (xor o) (xor q))
    xor_three p o q = rw (xor-append, xor-append)
