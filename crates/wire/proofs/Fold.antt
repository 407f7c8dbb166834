-- Laws of a word folded into a byte, the exclusive or of the word's bytes, over any width; and of stretches one behind the other.
use Rattle.std.proofs.Common.{
  ◌≡◌,
  ℕ,
  zero,
  suc,
  ◌+◌,
  ◌*◌,
  ◌/◌,
  ◌%◌,
  ◌^◌,
  ◌≤◌,
  List,
  ◌<◌,
  [],
  ◌++◌,
  append-nil,
  add-one,
  suc-mul,
  take_all,
  arith,
  get_or,
  length,
  take,
  drop,
  sym,
  refl,
  ap,
  ◌∙◌,
  take-add,
  take-suc,
}
use lib.Bits.{bit_xor, xor_zero_r, xor_comm, xor_mod, xor_shr}
use Rattle.std.specs.List.{concat}
use Rattle.std.specs.Simd.{first_chunks}
use Rattle.std.proofs.lemmas.List.Folds.{concat-append}
use Rattle.wire.specs.Bytes.{le_bytes, xor}
use Rattle.wire.proofs.Field.{le_bytes-add, le_bytes-mod}
use Rattle.wire.proofs.XorLaws.{xor_assoc, xor-append}

-- the inner two of four change places
xor_middle : (a b c d : ℕ) → bit_xor (bit_xor a b) (bit_xor c d) ≡ bit_xor (bit_xor a c) (bit_xor b d)
xor_middle a b c d =
    xor_assoc a b (bit_xor c d)
    ∙ ap (bit_xor a) (sym (xor_assoc b c d) ∙ ap (λ (x : ℕ). bit_xor x d) (xor_comm b c) ∙ xor_assoc c b d)
    ∙ sym (xor_assoc a c (bit_xor b d))

-- the fold of an exclusive or is the exclusive or of the folds
pub fold-xor : (k a b : ℕ) → xor (le_bytes k (bit_xor a b)) ≡ bit_xor (xor (le_bytes k a)) (xor (le_bytes k b))
unfolding xor le_bytes
fold-xor zero a b = refl
fold-xor (suc k) a b =
    let m : bit_xor a b % 256 ≡ bit_xor (a % 256) (b % 256) = xor_mod a b 8 in
    let d : bit_xor a b / 256 ≡ bit_xor (a / 256) (b / 256) = xor_shr a b 8 in
    rw (m, d, fold-xor k (a / 256) (b / 256)) (xor_middle (a % 256) (b % 256) (xor (le_bytes k (a / 256))) (xor (le_bytes k (b / 256))))

-- the exclusive or of two numbers, under a name of its own, so that arithmetic can replace either
unfoldable pub both : ℕ → ℕ → ℕ
both a b = bit_xor a b

pub both_is : (a b : ℕ) → bit_xor a b ≡ both a b
unfolding both
both_is a b = refl

-- a word of twice k bytes folds as the exclusive or of its halves does
pub fold_halves : (k n : ℕ) → xor (le_bytes (k + k) n) ≡ xor (le_bytes k (both (n % 256 ^ k) (n / 256 ^ k)))
unfolding both
fold_halves k n = rw (le_bytes-add, xor-append, fold-xor, le_bytes-mod)

-- the fold of two bytes
pub fold_two : (n : ℕ) → xor (le_bytes 2 n) ≡ both (n % 256) (n / 256 % 256)
unfolding both xor le_bytes
fold_two n = rw xor_zero_r

-- the bytes of the words of a list are its first bytes
pub concat-chunks : (n k : ℕ) (a : List ℕ) → concat (first_chunks n k a) ≡ take (k * n) a
concat-chunks n zero a = let none : 0 * n ≡ 0 = omega arith in rw none
concat-chunks n (suc k) a =
    let more : suc k * n ≡ n + k * n = rw suc-mul (omega arith) in
    rw (more, take-add, concat-chunks n k (drop n a))

-- words one behind the other
pub xor-words : (p q : List (List ℕ)) → xor (concat (p ++ q)) ≡ bit_xor (xor (concat p)) (xor (concat q))
xor-words p q = ap xor (concat-append p q) ∙ xor-append (concat p) (concat q)

-- the exclusive or of the first i words
abbrev pub first_words : ℕ → List (List ℕ) → ℕ
first_words i ws = xor (concat (take i ws))

-- all words
pub first_words-all : (i : ℕ) (ws : List (List ℕ)) → length ws ≤ i → first_words i ws ≡ xor (concat ws)
first_words-all i ws h = rw (take_all i ws h)

-- one word more
pub first_words-next : (i : ℕ) (ws : List (List ℕ)) → i < length ws → first_words (i + 1) ws ≡ bit_xor (first_words i ws) (xor (get_or ws i []))
first_words-next i ws h = rw (add-one, take-suc ws i [] h, xor-words, append-nil)

-- the exclusive or of what stands at four places
abbrev pub of_four : {X : Type 0} → (X → ℕ) → X → X → X → X → ℕ
of_four f p q r s = bit_xor (f p) (bit_xor (f q) (bit_xor (f r) (f s)))

-- one more at each of four places
pub next_of_four : (p q r s e f g h : ℕ)
    → bit_xor (bit_xor p e) (bit_xor (bit_xor q f) (bit_xor (bit_xor r g) (bit_xor s h)))
    ≡ bit_xor (bit_xor p (bit_xor q (bit_xor r s))) (bit_xor e (bit_xor f (bit_xor g h)))
next_of_four p q r s e f g h =
    ap (λ (x : ℕ). bit_xor (bit_xor p e) (bit_xor (bit_xor q f) x)) (xor_middle r g s h)
    ∙ ap (bit_xor (bit_xor p e)) (xor_middle q f (bit_xor r s) (bit_xor g h))
    ∙ xor_middle p e (bit_xor q (bit_xor r s)) (bit_xor f (bit_xor g h))

-- one word more of each of four quarters
pub four-next : (i : ℕ) (a b c d : List (List ℕ)) → i < length a → i < length b → i < length c → i < length d
    → of_four (first_words (i + 1)) a b c d ≡ bit_xor (of_four (first_words i) a b c d) (of_four (λ (ws : List (List ℕ)). xor (get_or ws i [])) a b c d)
four-next i a b c d la lb lc ld =
    rw (first_words-next i a la, first_words-next i b lb, first_words-next i c lc, first_words-next i d ld)
    (next_of_four (first_words i a) (first_words i b) (first_words i c) (first_words i d)
    (xor (get_or a i [])) (xor (get_or b i [])) (xor (get_or c i [])) (xor (get_or d i [])))
