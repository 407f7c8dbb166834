-- Sealing: it changes byte 4 alone, and afterwards the checksum rule holds with the checksum worked out afresh.
use mathlib.Core.Path.{◌≡◌, refl, sym, ap, ◌∙◌}
use Prim.Native.Nat.{ℕ, ◌%◌, ◌≤◌, ◌<◌}
use native.Mathlib.Omega.{arith}
use mathlib.Core.Bool.{Bool, true, false, cond}
use mathlib.Core.List.{List, [], ◌∷◌, ◌++◌}
use lib.ListN.{length, take, drop, get_or, set, length-set}
use lib.Seq.{length-take-le, set_split, set-get_or, take-append-le, take-set-le, take-set-lt, drop-set-lt, get_or-set_same, set-append_left}
use lib.Dec.{eqb}
use lib.Bits.{bit_xor, xor_self, xor_zero_r}
use borrow.Author.Tests.{eq-eqb}
use Rattle.wire.specs.Bytes.{field, xor}
use Rattle.wire.proofs.XorLaws.{xor-append, xor_assoc}
use Rattle.wire.proofs.Field.{field-append}
use Rattle.rules.specs.Header.{header_of, checksum_at}
use Rattle.rules.specs.Checksum.{checksum_holds, without, fresh_checksum, seal}
use Rattle.rules.specs.Demand3.{bytes_from}
use Rattle.laws.proofs.Differs.{differs_field, seal_differs}

-- the length stays
pub seal-length : (c : List ℕ) → length (seal c) ≡ length c
unfolding seal
seal-length c = length-set c 4 (fresh_checksum c)

-- every field behind byte 4 stays
pub seal-field : (c : List ℕ) (at k : ℕ) → 5 ≤ at → field (seal c) at k ≡ field c at k
seal-field c at k l = differs_field c (seal c) (bytes_from checksum_at 1 ∷ []) at k (seal_differs c) (omega arith)

-- the bytes but byte 4 do not depend on byte 4
without-set : (l : List ℕ) (v : ℕ) → without 4 (set l 4 v) ≡ without 4 l
without-set l v = rw (take-set-le 4 l 4 v (omega arith), drop-set-lt 5 l 4 v (omega arith))

-- the exclusive or of a list whose byte 4 is that of all the others is 0
xor_sealed : (l : List ℕ) → 4 < length l → xor (set l 4 (xor (without 4 l))) ≡ 0
unfolding xor
xor_sealed l h =
    let x : List ℕ = take 4 l in
    let y : List ℕ = drop 5 l in
    ap xor (set_split l 4 (xor (without 4 l)) h)
    ∙ xor-append x (xor (x ++ y) ∷ y)
    ∙ ap (λ (n : ℕ). bit_xor (xor x) (bit_xor n (xor y))) (xor-append x y)
    ∙ simp (xor_assoc, xor_self, xor_zero_r)

-- the checksum worked out afresh, by the flags and the used size
pub fresh : (c : List ℕ) → fresh_checksum c ≡ cond (eqb (field c 16 4 % 2) 1) (xor (without 4 (take (field c 8 4) c))) 0
unfolding fresh_checksum header_of
fresh c = refl

module _ (c : List ℕ) (u : 5 ≤ field c 8 4) (l : field c 8 4 ≤ length c) where
  -- the used bytes after sealing
  seal-take : take (field c 8 4) (seal c) ≡ set (take (field c 8 4) c) 4 (fresh_checksum c)
  unfolding seal
  seal-take = take-set-lt (field c 8 4) c 4 (fresh_checksum c) (omega arith)

  -- the checksum worked out afresh does not depend on byte 4
  fresh_seal : fresh_checksum (seal c) ≡ fresh_checksum c
  fresh_seal =
      let w = without-set (take (field c 8 4) c) (fresh_checksum c) in
      fresh (seal c) ∙ rw (seal-field c 16 4 (omega arith), seal-field c 8 4 (omega arith), seal-take, w) (sym (fresh c))

  -- byte 4 is the checksum worked out afresh of the whole result
  pub seal_fresh : get_or (seal c) checksum_at 0 ≡ fresh_checksum (seal c)
  unfolding seal
  seal_fresh = get_or-set_same c 4 (fresh_checksum c) 0 (omega arith) ∙ sym fresh_seal

  -- the checksum rule holds
  pub seal_holds : checksum_holds (seal c) ≡ true
  unfolding checksum_holds header_of field
  seal_holds = go (eqb (field c 16 4 % 2) 1) refl
    where
      go : (b : Bool) → eqb (field c 16 4 % 2) 1 ≡ b → checksum_holds (seal c) ≡ true
      go true h =
          let n : ℕ = field c 8 4 in
          let f : fresh_checksum c ≡ xor (without 4 (take n c)) = fresh c ∙ rw h in
          let e : length (take n c) ≡ n = length-take-le n c l in
          let z : xor (take n (seal c)) ≡ 0 = rw (seal-take, f) (xor_sealed (take n c) (omega arith)) in
          rw (seal-field c 16 4 (omega arith), seal-field c 8 4 (omega arith), h) (eq-eqb _ _ z)
      go false h =
          let f : fresh_checksum c ≡ 0 = fresh c ∙ rw h in
          let z : get_or (seal c) 4 0 ≡ 0 = seal_fresh ∙ fresh_seal ∙ f in
          let s : field (seal c) 4 1 ≡ 0 = omega arith in
          rw (seal-field c 16 4 (omega arith), h) (eq-eqb (field (seal c) 4 1) 0 s)

-- bytes behind a list that do not count as used do not change its seal
pub seal-append : (d z : List ℕ) → 24 ≤ length d → field (d ++ z) 8 4 ≤ length d → seal (d ++ z) ≡ seal d ++ z
unfolding seal
seal-append d z l u =
    let f : field (d ++ z) 16 4 ≡ field d 16 4 = field-append d z 16 4 (omega arith) in
    let n : field (d ++ z) 8 4 ≡ field d 8 4 = field-append d z 8 4 (omega arith) in
    let t : take (field d 8 4) (d ++ z) ≡ take (field d 8 4) d = take-append-le (field d 8 4) d z (omega arith) in
    let e : fresh_checksum (d ++ z) ≡ fresh_checksum d = fresh (d ++ z) ∙ rw (f, n, t) (sym (fresh d)) in
    rw e (set-append_left d z 4 (fresh_checksum d) (omega arith))

-- sealing leaves used_size
pub seal-used : (c : List ℕ) → (header_of (seal c)).used_size ≡ (header_of c).used_size
unfolding header_of
seal-used c = seal-field c 8 4 (omega arith)

-- a list whose checksum is fresh is sealed already
pub seal-again : (b : List ℕ) → get_or b checksum_at 0 ≡ fresh_checksum b → seal b ≡ b
unfolding seal
seal-again b h = rw (← h) (set-get_or b 4 0)
