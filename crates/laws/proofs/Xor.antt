-- The exclusive or of lists of bytes: without a byte, of a byte, and with a number put in.
use mathlib.Core.Path.{◌≡◌, sym, ap, ◌∙◌}
use Prim.Native.Nat.{ℕ, suc, ◌+◌, ◌%◌, ◌≤◌, ◌<◌}
use native.Mathlib.Omega.{arith}
use native.Mathlib.Numerals.{add-one}
use native.Mathlib.Nat.{add_comm}
use mathlib.Core.List.{List, ◌∷◌, ◌++◌}
use lib.ListN.{length, take, drop, get_or}
use lib.Seq.{split_at}
use lib.Bits.{bit_xor, xor_comm, xor_self, xor_zero_l, xor_zero_r}
use Rattle.wire.specs.Bytes.{field, le_bytes, xor, splice}
use Rattle.wire.proofs.Range.{Bytes}
use Rattle.wire.proofs.XorLaws.{xor_assoc, xor-append, xor-splice}
use Rattle.wire.proofs.Field.{length-le_bytes, le_bytes-field}
use Rattle.rules.specs.Checksum.{without}

-- a number taken in twice is out again
xor_out : (p g q : ℕ) → bit_xor (bit_xor p (bit_xor g q)) g ≡ bit_xor p q
xor_out p g q =
    xor_assoc p (bit_xor g q) g
    ∙ ap (bit_xor p) (xor_comm (bit_xor g q) g ∙ sym (xor_assoc g g q) ∙ ap (λ (x : ℕ). bit_xor x q) (xor_self g) ∙ xor_zero_l q)

-- the exclusive or without one byte
pub xor-without : (l : List ℕ) (i : ℕ) → i < length l → xor (without i l) ≡ bit_xor (xor l) (get_or l i 0)
unfolding xor
xor-without l i h =
    let p : List ℕ = take i l in
    let q : List ℕ = drop (suc i) l in
    ap (λ (n : ℕ). xor (p ++ drop n l)) (add_comm 1 i ∙ add-one i)
    ∙ xor-append p q
    ∙ sym (xor_out (xor p) (get_or l i 0) (xor q))
    ∙ ap (λ (x : ℕ). bit_xor x (get_or l i 0)) (sym (ap xor (split_at l i 0 h) ∙ xor-append p (get_or l i 0 ∷ q)))

-- the exclusive or of a byte is the byte
pub xor_byte : (n : ℕ) → n < 256 → xor (le_bytes 1 n) ≡ n
unfolding xor le_bytes
xor_byte n h = xor_zero_r (n % 256) ∙ (let e : n % 256 ≡ n = omega arith in e)

-- a number spliced in changes the exclusive or by the bytes of the old number and of the new one
pub xor_number : (a : List ℕ) (at k n : ℕ) → Bytes a → at + k ≤ length a
    → xor (splice a at (le_bytes k n)) ≡ bit_xor (xor a) (bit_xor (xor (le_bytes k (field a at k))) (xor (le_bytes k n)))
xor_number a at k n b l =
    let o : take (length (le_bytes k n)) (drop at a) ≡ le_bytes k (field a at k) = rw length-le_bytes (sym (le_bytes-field a at k b l)) in
    xor-splice a at (le_bytes k n) ∙ rw o
