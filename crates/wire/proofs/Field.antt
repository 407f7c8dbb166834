-- Laws of little-endian numbers, read where they were written and elsewhere, and of the lists whose elements are bytes.
use Rattle.std.proofs.Common.{
  ◌≡◌,
  ℕ,
  zero,
  suc,
  ◌+◌,
  ◌*◌,
  ◌/◌,
  ◌%◌,
  ◌^◌,
  ◌<◌,
  ◌≤◌,
  ◌⊎◌,
  List,
  [],
  ◌∷◌,
  ◌++◌,
  length,
  get_or,
  take,
  drop,
  replicate,
  refl,
  ap,
  ap₂,
  sym,
  ◌∙◌,
  inl,
  inr,
  add-zero,
  add_assoc,
  mul_assoc,
  suc-add,
  pow-suc,
  zero-add,
  div-one,
  add-one,
  arith,
  get_or-drop,
  drop-cons,
  get_or-take,
}
use native.Mathlib.Nat.{pow-succ', div-div-eq-div-mul, one-le-pow}
use lib.Arith.{mod-mul}
use lib.ListN.{get_or-append}
use Rattle.std.specs.Int.{w32, w64, bytes_low_first, byte_at, to_le_bytes, from_le_bytes}
use Rattle.std.proofs.lemmas.Nat.{le_bytes_8}
use Rattle.wire.specs.Bytes.{field, le_bytes, splice}
use Rattle.wire.proofs.Range.{Bytes}
use Rattle.wire.proofs.Splice.{get_or-splice_before, get_or-splice_in, get_or-splice-behind}

-- ---- lists of bytes

-- one list of bytes behind another
pub bytes-append : (p q : List ℕ) → Bytes p → Bytes q → Bytes (p ++ q)
bytes-append [] q hp hq i = hq i
bytes-append (x ∷ p) q hp hq zero = hp 0
bytes-append (x ∷ p) q hp hq (suc i) = bytes-append p q (λ j. hp (suc j)) hq i

-- the first n bytes
pub bytes_take : (n : ℕ) (l : List ℕ) → Bytes l → Bytes (take n l)
bytes_take zero l h i = omega arith
bytes_take (suc n) [] h i = omega arith
bytes_take (suc n) (x ∷ l) h zero = h 0
bytes_take (suc n) (x ∷ l) h (suc i) = bytes_take n l (λ j. h (suc j)) i

-- what follows the first n bytes
pub bytes_drop : (n : ℕ) (l : List ℕ) → Bytes l → Bytes (drop n l)
bytes_drop n l h i = rw get_or-drop (h (n + i))

-- bytes with new bytes among them
pub bytes-splice : (a : List ℕ) (at : ℕ) (new : List ℕ) → Bytes a → Bytes new → Bytes (splice a at new)
unfolding splice
bytes-splice a at new ha hn =
    let q : List ℕ = drop (at + length new) a in
    bytes-append (take at a) (new ++ q) (bytes_take at a ha) (bytes-append new q hn (bytes_drop (at + length new) a ha))

-- zeros are bytes
pub bytes-replicate-zero : (n : ℕ) → Bytes (replicate n 0)
bytes-replicate-zero zero i = omega arith
bytes-replicate-zero (suc n) zero = omega arith
bytes-replicate-zero (suc n) (suc i) = bytes-replicate-zero n i

-- the bytes of a number are bytes
pub bytes-le_bytes : (k n : ℕ) → Bytes (le_bytes k n)
unfolding le_bytes
bytes-le_bytes zero n i = omega arith
bytes-le_bytes (suc k) n zero = omega arith
bytes-le_bytes (suc k) n (suc i) = bytes-le_bytes k (n / 256) i

-- ---- the bytes of a number

-- a number has as many bytes as are asked for
pub length-le_bytes : (k n : ℕ) → length (le_bytes k n) ≡ k
unfolding le_bytes
length-le_bytes zero n = refl
length-le_bytes (suc k) n = ap suc (length-le_bytes k (n / 256))

-- the low j bytes, and behind them the k bytes of the rest
pub le_bytes-add : (j k n : ℕ) → le_bytes (j + k) n ≡ le_bytes j n ++ le_bytes k (n / 256 ^ j)
unfolding le_bytes
le_bytes-add zero k n = rw (zero-add, div-one)
le_bytes-add (suc j) k n = rw (suc-add, pow-succ', ← div-div-eq-div-mul, le_bytes-add j k (n / 256))

-- the low k bytes of a number are those of its remainder by 256 ^ k
pub le_bytes-mod : (k n : ℕ) → le_bytes k (n % 256 ^ k) ≡ le_bytes k n
unfolding le_bytes
le_bytes-mod zero n = refl
le_bytes-mod (suc k) n =
    let e : n % 256 ^ suc k ≡ n / 256 % 256 ^ k * 256 + n % 256 = rw pow-suc (mod-mul n (one-le-pow k 256 (omega arith)) (omega arith)) in
    let m : n % 256 ^ suc k % 256 ≡ n % 256 = omega arith in
    let d : n % 256 ^ suc k / 256 ≡ n / 256 % 256 ^ k = omega arith in
    rw (m, d, le_bytes-mod k (n / 256))

-- ---- fields

-- equal bytes give equal fields
pub field_cong : (a b : List ℕ) (at bt k : ℕ) → ((i : ℕ) → i < k → get_or a (at + i) 0 ≡ get_or b (bt + i) 0) → field a at k ≡ field b bt k
unfolding field
field_cong a b at bt zero h = refl
field_cong a b at bt (suc k) h =
    let z : get_or a at 0 ≡ get_or b bt 0 = rw (add-zero at, add-zero bt) at (h 0 (omega arith)) in
    let s : field a (at + 1) k ≡ field b (bt + 1) k =
    field_cong a b (at + 1) (bt + 1) k (λ i l. rw (add_assoc at 1 i, add_assoc bt 1 i, one_more i) (h (suc i) (omega arith))) in
    rw (z, s)
  where
    one_more : (i : ℕ) → 1 + i ≡ suc i
    one_more i = omega arith

-- a field of what follows the first n bytes
pub field-drop : (n : ℕ) (a : List ℕ) (at k : ℕ) → field (drop n a) at k ≡ field a (n + at) k
field-drop n a at k = field_cong (drop n a) a at (n + at) k (λ i h. rw (get_or-drop, add_assoc))

-- a field within the first n bytes
pub field-take : (n : ℕ) (a : List ℕ) (at k : ℕ) → at + k ≤ n → field (take n a) at k ≡ field a at k
field-take n a at k l = field_cong (take n a) a at at k (λ i h. get_or-take n a (at + i) 0 (omega arith))

-- a field in the first of two lists
pub field-append : (p q : List ℕ) (at k : ℕ) → at + k ≤ length p → field (p ++ q) at k ≡ field p at k
field-append p q at k l = field_cong (p ++ q) p at at k (λ i h. get_or-append p q 0 (at + i) (omega arith))

-- a field is its low j bytes and its high k bytes
pub field_split : (a : List ℕ) (at j k : ℕ) → field a at (j + k) ≡ field a at j + 256 ^ j * field a (at + j) k
unfolding field
field_split a at zero k = rw (zero-add k, add-zero at) (omega arith)
field_split a at (suc j) k =
    let e : at + 1 + j ≡ at + suc j = omega arith in
    let f : ℕ = field a (at + suc j) k in
    let m : 256 ^ suc j * f ≡ 256 * (256 ^ j * f) = rw (pow-succ', mul_assoc) in
    let ih : field a (at + 1) (j + k) ≡ field a (at + 1) j + 256 ^ j * f = rw e at (field_split a (at + 1) j k) in
    rw (suc-add, ih) (omega arith)

-- a field of k bytes is below 256 ^ k
pub field_lt : (a : List ℕ) (at k : ℕ) → Bytes a → field a at k < 256 ^ k
unfolding field
field_lt a at zero h = omega arith
field_lt a at (suc k) h = omega (arith, h at, field_lt a (at + 1) k h)

-- the number whose bytes were written is read again
pub field-le_bytes : (k n : ℕ) → n < 256 ^ k → field (le_bytes k n) 0 k ≡ n
unfolding field le_bytes
field-le_bytes zero n h = omega arith
field-le_bytes (suc k) n h =
    omega (arith, field-drop 1 (le_bytes (suc k) n) 0 k, field-le_bytes k (n / 256) (omega arith))

-- the bytes of the number that was read are the bytes themselves
pub le_bytes-field : (a : List ℕ) (at k : ℕ) → Bytes a → at + k ≤ length a → le_bytes k (field a at k) ≡ take k (drop at a)
unfolding field le_bytes
le_bytes-field a at zero h l = refl
le_bytes-field a at (suc k) h l =
    let b : get_or a at 0 < 256 = h at in
    let m : (get_or a at 0 + 256 * field a (at + 1) k) % 256 ≡ get_or a at 0 = omega arith in
    let d : (get_or a at 0 + 256 * field a (at + 1) k) / 256 ≡ field a (at + 1) k = omega arith in
    rw (m, d, le_bytes-field a (at + 1) k h (omega arith), drop-cons a at 0 (omega arith), add-one)

-- a number spliced in is read there
pub field-splice_same : (a : List ℕ) (at k n : ℕ) → at + k ≤ length a → n < 256 ^ k → field (splice a at (le_bytes k n)) at k ≡ n
field-splice_same a at k n l h =
    let e : length (le_bytes k n) ≡ k = length-le_bytes k n in
    field_cong (splice a at (le_bytes k n)) (le_bytes k n) at 0 k (λ i b. rw zero-add (get_or-splice_in a at (le_bytes k n) (omega arith) i (omega arith)))
    ∙ field-le_bytes k n h

-- a field wholly before or wholly behind the new bytes is as it was
pub field-splice-other : (a : List ℕ) (at : ℕ) (new : List ℕ) (bt k : ℕ) → at ≤ length a → (bt + k ≤ at) ⊎ (at + length new ≤ bt)
    → field (splice a at new) bt k ≡ field a bt k
field-splice-other a at new bt k l (inl h) =
    field_cong (splice a at new) a bt bt k (λ i b. get_or-splice_before a at new l (bt + i) (omega arith))
field-splice-other a at new bt k l (inr h) =
    field_cong (splice a at new) a bt bt k (λ i b. get_or-splice-behind a at new l (bt + i) (omega arith))

-- ---- the library's words for the bytes of a number

-- k bytes of a number from byte i upward
pub low_first : (i k n : ℕ) → bytes_low_first i k n ≡ le_bytes k (n / 256 ^ i)
unfolding le_bytes
low_first i zero n = refl
low_first i (suc k) n = ap₂ ◌∷◌ (head i) (low_first (suc i) k n ∙ ap (le_bytes k) (rest i))
  where
    head : (j : ℕ) → byte_at j n ≡ n / 256 ^ j % 256
    head zero = rw div-one
    head (suc j) = refl

    rest : (j : ℕ) → n / 256 ^ suc j ≡ n / 256 ^ j / 256
    rest j = rw (pow-suc, div-div-eq-div-mul)

-- the library's bytes of a number are its bytes
pub to_le_bytes-32 : (n : ℕ) → to_le_bytes w32 n ≡ le_bytes 4 n
to_le_bytes-32 n = low_first 0 4 n ∙ ap (le_bytes 4) (omega arith)

pub to_le_bytes-64 : (n : ℕ) → to_le_bytes w64 n ≡ le_bytes 8 n
to_le_bytes-64 n = low_first 0 8 n ∙ ap (le_bytes 8) (omega arith)

-- the bytes of the number that the library makes of eight bytes are those bytes
pub le_bytes-word : (w : List ℕ) (n : ℕ) → length w ≡ 8 → Bytes w → n ≡ from_le_bytes w64 w → le_bytes 8 n ≡ w
le_bytes-word w n l b e = sym (to_le_bytes-64 n) ∙ le_bytes_8 w n l b e

-- the number that the library makes of the four bytes from at on is the field
pub four-bytes : (a : List ℕ) (at : ℕ) → from_le_bytes w32 (get_or a at 0 ∷ get_or a (at + 1) 0 ∷ get_or a (at + 2) 0 ∷ get_or a (at + 3) 0 ∷ []) ≡ field a at 4
unfolding field
four-bytes a at =
    let second : at + 1 + 1 ≡ at + 2 = omega arith in
    let third : at + 2 + 1 ≡ at + 3 = omega arith in
    rw (second, third) (omega arith)
