-- Laws of stretches and words that stand one behind the other in a list of bytes, from a place on.
use Rattle.std.proofs.Common.{◌≡◌, ℕ, ◌+◌, ◌*◌, ◌≤◌, List, length, take, drop, ap, ◌∙◌, mul-one, mul-add, drop-drop, take-add}
use lib.Bits.{bit_xor}
use Rattle.wire.specs.Bytes.{field, le_bytes, xor}
use Rattle.wire.proofs.Range.{Bytes}
use Rattle.wire.proofs.Field.{le_bytes-field}
use Rattle.wire.proofs.XorLaws.{xor-append}
use Rattle.wire.proofs.Fold.{fold-xor, of_four, next_of_four}

-- two stretches one behind the other
pub xor-add : (a : List ℕ) (at m n : ℕ) → xor (take (m + n) (drop at a)) ≡ bit_xor (xor (take m (drop at a))) (xor (take n (drop (at + m) a)))
xor-add a at m n =
    ap xor (take-add m n (drop at a))
    ∙ xor-append (take m (drop at a)) (take n (drop m (drop at a)))
    ∙ ap (λ (x : List ℕ). bit_xor (xor (take m (drop at a))) (xor (take n x))) (drop-drop m at a)

-- the words of k bytes that stand in a from at on: word i
abbrev pub word : ℕ → List ℕ → ℕ → ℕ → ℕ
word k a i at = field a (at + k * i) k

-- the exclusive or of the first i of them
abbrev pub words : ℕ → List ℕ → ℕ → ℕ → ℕ
words k a i at = xor (take (k * i) (drop at a))

-- one word more
pub next_word : (k : ℕ) (a : List ℕ) (i at : ℕ) → Bytes a → at + k * i + k ≤ length a
    → words k a (i + 1) at ≡ bit_xor (words k a i at) (xor (le_bytes k (word k a i at)))
next_word k a i at h l =
    let n : k * (i + 1) ≡ k * i + k = rw (mul-add, mul-one) in
    rw (n, le_bytes-field a (at + k * i) k h l, xor-add)

-- one word more at each of four places
pub next-words : (k : ℕ) (a : List ℕ) (i p q r s : ℕ) → Bytes a
    → p + k * i + k ≤ length a → q + k * i + k ≤ length a → r + k * i + k ≤ length a → s + k * i + k ≤ length a
    → of_four (words k a (i + 1)) p q r s ≡ bit_xor (of_four (words k a i) p q r s) (xor (le_bytes k (of_four (word k a i) p q r s)))
next-words k a i p q r s h lp lq lr ls =
    let w : ℕ → ℕ = words k a i in
    let f : ℕ → ℕ = λ at. xor (le_bytes k (word k a i at)) in
    rw (next_word k a i p h lp, next_word k a i q h lq, next_word k a i r h lr, next_word k a i s h ls, fold-xor, fold-xor, fold-xor)
    (next_of_four (w p) (w q) (w r) (w s) (f p) (f q) (f r) (f s))

-- four stretches of m bytes one behind the other
pub four_stretches : (a : List ℕ) (at m : ℕ)
    → of_four (λ (p : ℕ). xor (take m (drop p a))) at (at + m) (at + m + m) (at + m + m + m) ≡ xor (take (m + (m + (m + m))) (drop at a))
four_stretches a at m = rw (xor-add, xor-add, xor-add)
