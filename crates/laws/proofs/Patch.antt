-- Edited areas: what every edit does to the bytes, and the checksum worked out from the old one and the changed bytes.
use mathlib.Core.Path.{◌≡◌, refl, sym, ap, ap₂, ◌∙◌}
use Prim.Native.Nat.{ℕ, ◌+◌, ◌%◌, ◌^◌, ◌≤◌, ◌<◌, max}
use native.Mathlib.Omega.{arith}
use mathlib.Core.Bool.{Bool, true, false, cond}
use mathlib.Core.List.{List, [], ◌∷◌}
use lib.ListN.{length, take, drop, get_or, set}
use lib.Seq.{length-take-le}
use lib.Dec.{eqb}
use lib.Bits.{bit_xor, xor_comm, xor_zero_l}
use borrow.Author.Tests.{eqb-true}
use Rattle.wire.specs.Bytes.{field, le_bytes, xor, splice}
use Rattle.wire.proofs.Range.{Bytes}
use Rattle.wire.proofs.XorLaws.{xor_assoc, xor-splice}
use Rattle.wire.proofs.Splice.{take-splice-within, drop-splice, length-splice, splice_comm}
use Rattle.wire.proofs.Field.{bytes_take, bytes-splice, bytes-le_bytes, length-le_bytes, field_lt, field-take, field-splice_same}
use Rattle.rules.specs.Header.{header_of, has_checksum, with_alignment, with_used}
use Rattle.rules.specs.Checksum.{checksum_holds, without, fresh_checksum, seal}
use Rattle.rules.specs.Add.{append}
use Rattle.rules.specs.AddAligned.{append_aligned}
use Rattle.rules.specs.Demand3.{Stretch, bytes_from}
use Rattle.laws.proofs.Lists.{splice_own, length-splice-least, set-splice, take-splice-used}
use Rattle.laws.proofs.Xor.{xor-without, xor_byte, xor_number}
use Rattle.laws.proofs.Differs.{Outside, Differs, differs_field, splice_differs, number_differs, length_number}
use Rattle.laws.proofs.Ready.{used_of}

-- an area with a new alignment, used_size and stretch
abbrev pub edited : List ℕ → ℕ → ℕ → ℕ → List ℕ → List ℕ
edited a alignment used at new = splice (with_used used (with_alignment alignment a)) at new

-- the checksum byte of an edit with has_checksum: the old one, and the exclusive or of the old and the new named bytes
abbrev pub patch_of : List ℕ → ℕ → ℕ → ℕ → List ℕ → ℕ
patch_of a alignment used at new =
    bit_xor
    (bit_xor
    (bit_xor
    (bit_xor (bit_xor (bit_xor (header_of a).checksum (header_of a).alignment) alignment) (xor (le_bytes 4 (header_of a).used_size)))
    (xor (le_bytes 4 used)))
    (xor (take (length new) (drop at (take (header_of a).used_size a)))))
    (xor new)

-- the checksum byte of an edit; without has_checksum it is 0
unfoldable pub patched : List ℕ → ℕ → ℕ → ℕ → List ℕ → ℕ
patched a alignment used at new = cond (has_checksum (header_of a)) (patch_of a alignment used at new) 0

-- ---- what an edited area holds

-- the alignment, used_size and the stretch
abbrev edit_stretches : ℕ → List ℕ → List Stretch
edit_stretches at new = bytes_from 7 1 ∷ bytes_from 8 4 ∷ bytes_from at (length new) ∷ []

module _ (a : List ℕ) (alignment used at : ℕ) (new : List ℕ) (h : 24 ≤ at) (k : at ≤ length a) where
  -- a new alignment keeps the length
  length-aligned : length (with_alignment alignment a) ≡ length a
  length-aligned = length_number a 7 1 alignment (omega arith)

  -- and so does a new used_size
  length-used : length (with_used used (with_alignment alignment a)) ≡ length a
  length-used = length_number (with_alignment alignment a) 8 4 used (rw length-aligned (omega arith)) ∙ length-aligned

  -- all else is as it was
  edited_differs : Differs a (edited a alignment used at new) (edit_stretches at new)
  edited_differs i o =
      splice_differs (with_used used (with_alignment alignment a)) at new (rw length-used k) i o.1.1
      ∙ number_differs (with_alignment alignment a) 8 4 used (rw length-aligned (omega arith)) i (o.1.0, tt)
      ∙ number_differs a 7 1 alignment (omega arith) i (o.0, tt)

  -- so is every field outside these stretches
  field-edited : (bt n : ℕ) → ((i : ℕ) → bt ≤ i → i < bt + n → Outside (edit_stretches at new) i)
      → field (edited a alignment used at new) bt n ≡ field a bt n
  field-edited bt n = differs_field a (edited a alignment used at new) (edit_stretches at new) bt n edited_differs

  -- used_size is the new one
  used-edited : used < 2 ^ 32 → field (edited a alignment used at new) 8 4 ≡ used
  used-edited s =
      differs_field _ (edited a alignment used at new) (bytes_from at (length new) ∷ []) 8 4
      (splice_differs (with_used used (with_alignment alignment a)) at new (rw length-used k)) (omega arith)
      ∙ field-splice_same (with_alignment alignment a) 8 4 used (rw length-aligned (omega arith)) s

  -- the exclusive or, from the old one and the old and new named bytes
  xor-edited : Bytes a → alignment < 256
      → xor (edited a alignment used at new)
      ≡ bit_xor
      (bit_xor (bit_xor (xor a) (bit_xor (field a 7 1) alignment)) (bit_xor (xor (le_bytes 4 (field a 8 4))) (xor (le_bytes 4 used))))
      (bit_xor (xor (take (length new) (drop at a))) (xor new))
  xor-edited b s =
      let g : List ℕ = with_alignment alignment a in
      let d : drop at (with_used used g) ≡ drop at a =
      drop-splice g 8 (le_bytes 4 used) (rw length-aligned (omega arith)) at (rw length-le_bytes (omega arith))
      ∙ drop-splice a 7 (le_bytes 1 alignment) (omega arith) at (rw length-le_bytes (omega arith)) in
      let f : field g 8 4 ≡ field a 8 4 = differs_field a g (bytes_from 7 1 ∷ []) 8 4 (number_differs a 7 1 alignment (omega arith)) (omega arith) in
      let x : xor g ≡ bit_xor (xor a) (bit_xor (field a 7 1) alignment) =
      xor_number a 7 1 alignment b (omega arith)
      ∙ ap₂ (λ (x y : ℕ). bit_xor (xor a) (bit_xor x y)) (xor_byte (field a 7 1) (field_lt a 7 1 b)) (xor_byte alignment s) in
      let y : xor (with_used used g) ≡ bit_xor (xor g) (bit_xor (xor (le_bytes 4 (field g 8 4))) (xor (le_bytes 4 used))) =
      xor_number g 8 4 used (bytes-splice a 7 (le_bytes 1 alignment) b (bytes-le_bytes 1 alignment)) (rw length-aligned (omega arith)) in
      xor-splice (with_used used g) at new ∙ rw (d, y, f, x)

-- ---- the checksum of an edited area

-- a value is read only where its test holds
pub cond_cong : (b : Bool) (x y z : ℕ) → (b ≡ true → x ≡ y) → cond b x z ≡ cond b y z
cond_cong true x y z h = h refl
cond_cong false x y z h = refl

-- where the checksum rule holds, with has_checksum, the exclusive or of the used bytes is 0
pub holds_xor : (a : List ℕ) → checksum_holds a ≡ true → has_checksum (header_of a) ≡ true → xor (take (used_of a) a) ≡ 0
unfolding checksum_holds
holds_xor a h t = eqb-true (xor (take (used_of a) a)) 0 (rw t at h)

-- a field of one byte is that byte
pub field_byte : (a : List ℕ) (at : ℕ) → field a at 1 ≡ get_or a at 0
unfolding field
field_byte a at = omega arith

-- the old and new bytes one after the other
regroup : (c p q r s o n : ℕ)
    → bit_xor (bit_xor (bit_xor (bit_xor 0 (bit_xor p q)) (bit_xor r s)) (bit_xor o n)) c
    ≡ bit_xor (bit_xor (bit_xor (bit_xor (bit_xor (bit_xor c p) q) r) s) o) n
regroup c p q r s o n = xor_comm (bit_xor (bit_xor (bit_xor 0 (bit_xor p q)) (bit_xor r s)) (bit_xor o n)) c ∙ simp (xor_zero_l, xor_assoc)

module _ (a : List ℕ) (alignment used at : ℕ) (new : List ℕ) (b : Bytes a) (c : checksum_holds a ≡ true) (h : 24 ≤ at)
    (k : at ≤ used_of a) (e : used ≡ max (used_of a) (at + length new)) (l : used_of a ≤ length a) where
  -- the used bytes of an edited area are the old used bytes, edited
  take-edited : take used (edited a alignment used at new) ≡ edited (take (used_of a) a) alignment used at new
  take-edited =
      let u : ℕ = used_of a in
      let g : List ℕ = with_alignment alignment a in
      let x : take u g ≡ with_alignment alignment (take u a) = take-splice-within a 7 (le_bytes 1 alignment) u (rw length-le_bytes (omega arith)) l in
      let y : take u (with_used used g) ≡ with_used used (take u g) =
      take-splice-within g 8 (le_bytes 4 used) u (rw length-le_bytes (omega arith))
      (rw (length-aligned a alignment used at new h (omega arith)) l) in
      take-splice-used (with_used used g) at new u used k (rw (length-used a alignment used at new h (omega arith)) l) e
      ∙ rw (y, x)

  -- the exclusive or of the used bytes of an edited area except byte 4
  xor-used-edited : xor (take (used_of a) a) ≡ 0 → alignment < 256
      → xor (without 4 (take used (edited a alignment used at new))) ≡ patch_of a alignment used at new
  unfolding header_of
  xor-used-edited z s =
      let u : ℕ = field a 8 4 in
      let m : List ℕ = take u a in
      let lm : length m ≡ field a 8 4 = length-take-le u a l in
      let x : List ℕ = edited m alignment used at new in
      let q : get_or x 4 0 ≡ field a 4 1 =
      sym (field_byte x 4) ∙ field-edited m alignment used at new h (omega arith) 4 1 (omega arith) ∙ field-take u a 4 1 (omega arith) in
      let y : List ℕ = with_used used (with_alignment alignment m) in
      let ly : at ≤ length y = rw (length-used m alignment used at new h (omega arith)) (omega arith) in
      let n : 4 < length x = omega (arith, length-splice-least y at new ly) in
      let f7 : field m 7 1 ≡ field a 7 1 = field-take u a 7 1 (omega arith) in
      let f8 : field m 8 4 ≡ field a 8 4 = field-take u a 8 4 (omega arith) in
      ap (λ (w : List ℕ). xor (without 4 w)) take-edited
      ∙ xor-without x 4 n
      ∙ ap₂ bit_xor (xor-edited m alignment used at new h (omega arith) (bytes_take u a b) s) q
      ∙ rw (z, f7, f8) (regroup (field a 4 1) (field a 7 1) alignment _ _ _ _)

  -- the checksum of an edited area, worked out afresh, is the one from the old checksum and the changed bytes
  pub fresh_patched : used < 2 ^ 32 → alignment < 256 → fresh_checksum (edited a alignment used at new) ≡ patched a alignment used at new
  unfolding fresh_checksum patched header_of
  fresh_patched s t =
      let f = field-edited a alignment used at new h (omega arith) 16 4 (omega arith) in
      let g = used-edited a alignment used at new h (omega arith) s in
      rw (f, g) (cond_cong (eqb (field a 16 4 % 2) 1) _ _ 0 (λ y. xor-used-edited (holds_xor a c y) t))

  -- the checksum stored in an edited area is that one
  pub seal_patched : used < 2 ^ 32 → alignment < 256
      → seal (edited a alignment used at new) ≡ set (edited a alignment used at new) 4 (patched a alignment used at new)
  unfolding seal
  seal_patched s t = ap (set (edited a alignment used at new) 4) (fresh_patched s t)

-- ---- the rules' areas are edited ones

-- a stretch alone: alignment and used_size as they were
pub in_place_lem : (a : List ℕ) (at : ℕ) (new : List ℕ) → Bytes a → 24 ≤ length a
    → splice a at new ≡ edited a (header_of a).alignment (used_of a) at new
unfolding header_of
in_place_lem a at new b l = rw (splice_own a 7 1 b (omega arith), splice_own a 8 4 b (omega arith))

-- bytes appended: used_size grows by as many
pub appended : (a new : List ℕ) → Bytes a → 24 ≤ used_of a → used_of a ≤ length a
    → append a new ≡ edited a (header_of a).alignment (used_of a + length new) (used_of a) new
unfolding header_of append
appended a new b h l =
    let u : ℕ = field a 8 4 in
    let p : List ℕ = le_bytes 4 (u + length new) in
    rw (splice_own a 7 1 b (omega arith)) (sym (splice_comm a 8 p u new (rw length-le_bytes (omega arith)) l))

-- bytes appended, and the alignment raised
pub appended_aligned : (a : List ℕ) (exponent : ℕ) (new : List ℕ) → 24 ≤ used_of a → used_of a ≤ length a
    → append_aligned a exponent new ≡ edited a (max (header_of a).alignment exponent) (used_of a + length new) (used_of a) new
unfolding header_of append append_aligned
appended_aligned a exponent new h l =
    let u : ℕ = field a 8 4 in
    let p : List ℕ = le_bytes 4 (u + length new) in
    let q : List ℕ = le_bytes 1 (max (field a 7 1) exponent) in
    let lp : length p ≡ 4 = length-le_bytes 4 (u + length new) in
    let lq : length q ≡ 1 = length-le_bytes 1 (max (field a 7 1) exponent) in
    let la : length (splice a 8 p) ≡ length a = length-splice a 8 p (omega arith) in
    ap (λ (x : List ℕ). splice x 7 q) (sym (splice_comm a 8 p u new (omega arith) l))
    ∙ sym (splice_comm (splice a 8 p) 7 q u new (omega arith) (omega arith))
    ∙ ap (λ (x : List ℕ). splice x u new) (sym (splice_comm a 7 q 8 p (omega arith) (omega arith)))

-- ---- how it is written

-- first the checksum byte, then the alignment, used_size and the stretch
pub written : (a : List ℕ) (alignment used at : ℕ) (new : List ℕ) (c : ℕ) → 24 ≤ at → at ≤ length a
    → set (edited a alignment used at new) 4 c ≡ splice (splice (splice (set a 4 c) 7 (le_bytes 1 alignment)) 8 (le_bytes 4 used)) at new
written a alignment used at new c h k =
    let g : List ℕ = with_alignment alignment a in
    let lg : length g ≡ length a = length-aligned a alignment used at new h k in
    let lu : length (with_used used g) ≡ length a = length-used a alignment used at new h k in
    set-splice (with_used used g) at new 4 c (omega arith) (omega arith)
    ∙ ap (λ (x : List ℕ). splice x at new)
    (set-splice g 8 (le_bytes 4 used) 4 c (omega arith) (omega arith)
    ∙ ap (λ (x : List ℕ). splice x 8 (le_bytes 4 used)) (set-splice a 7 (le_bytes 1 alignment) 4 c (omega arith) (omega arith)))
