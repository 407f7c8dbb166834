-- The list that a relocation moves: its checksum, from the old one and the old and new total_size.
use mathlib.Core.Path.{◌≡◌, sym, ap₂, ◌∙◌}
use Prim.Native.Nat.{ℕ, ◌+◌, ◌%◌, ◌≤◌, ◌<◌}
use native.Mathlib.Omega.{arith}
use mathlib.Core.Bool.{true, cond}
use mathlib.Core.List.{List, [], ◌∷◌}
use lib.ListN.{length, take}
use lib.Seq.{length-take-le, take_all}
use lib.Dec.{eqb}
use lib.Bits.{bit_xor, xor_comm, xor_zero_l}
use Rattle.wire.specs.Bytes.{field, le_bytes, xor}
use Rattle.wire.proofs.Range.{Bytes}
use Rattle.wire.proofs.XorLaws.{xor_assoc}
use Rattle.wire.proofs.Field.{bytes_take, field-take}
use Rattle.rules.specs.Header.{header_of, has_checksum, with_total}
use Rattle.rules.specs.Checksum.{checksum_holds, fresh_checksum}
use Rattle.rules.specs.Demand3.{bytes_from}
use Rattle.laws.proofs.Xor.{xor-without, xor_number}
use Rattle.laws.proofs.Differs.{Outside, differs_field, number_differs, length_number}
use Rattle.laws.proofs.Ready.{used_of}
use Rattle.laws.proofs.Patch.{cond_cong, holds_xor, field_byte}

-- the old and new bytes of one number
regroup_one : (c p q : ℕ) → bit_xor (bit_xor 0 (bit_xor p q)) c ≡ bit_xor (bit_xor c p) q
regroup_one c p q = xor_comm (bit_xor 0 (bit_xor p q)) c ∙ simp (xor_zero_l, xor_assoc)

-- the checksum of the used bytes with a new total_size
pub moved_patched : (a : List ℕ) → Bytes a → checksum_holds a ≡ true → 24 ≤ used_of a → used_of a ≤ length a → (t : ℕ)
    → fresh_checksum (with_total t (take (used_of a) a))
    ≡ cond (has_checksum (header_of a)) (bit_xor (bit_xor (header_of a).checksum (xor (le_bytes 4 (header_of a).total_size))) (xor (le_bytes 4 t))) 0
unfolding fresh_checksum header_of
moved_patched a b c h l t =
    let u : ℕ = field a 8 4 in
    let m : List ℕ = take u a in
    let x : List ℕ = with_total t m in
    let lm : length m ≡ u = length-take-le u a l in
    let lx : length x ≡ u = length_number m 12 4 t (omega arith) ∙ lm in
    let f : (at k : ℕ) → ((i : ℕ) → at ≤ i → i < at + k → Outside (bytes_from 12 4 ∷ []) i) → at + k ≤ 24 → field x at k ≡ field a at k =
    λ at k o e. differs_field m x (bytes_from 12 4 ∷ []) at k (number_differs m 12 4 t (omega arith)) o ∙ field-take u a at k (omega arith) in
    rw (f 16 4 (omega arith) (omega arith), f 8 4 (omega arith) (omega arith), take_all u x (omega arith))
    (cond_cong (eqb (field a 16 4 % 2) 1) _ _ 0
    (λ y.
    xor-without x 4 (omega arith)
    ∙ ap₂ bit_xor (xor_number m 12 4 t (bytes_take u a b) (omega arith)) (sym (field_byte x 4) ∙ f 4 1 (omega arith) (omega arith))
    ∙ rw (holds_xor a c y, field-take u a 12 4 (omega arith))
    (regroup_one (field a 4 1) (xor (le_bytes 4 (field a 12 4))) (xor (le_bytes 4 t)))))
