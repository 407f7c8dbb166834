-- Lists of bytes: stretches put into them, and their parts.
use mathlib.Core.Path.{◌≡◌, refl, sym, ◌∙◌}
use Prim.Native.Nat.{ℕ, ◌+◌, ◌-◌, ◌≤◌, ◌<◌, max}
use native.Mathlib.Omega.{arith}
use native.Mathlib.Nat.{add_assoc}
use mathlib.Core.Bool.{Bool, true, false}
use mathlib.Core.List.{List, ◌++◌, append-nil}
use lib.ListN.{length, take, drop, get_or, set, length-append, length-drop, drop_of_length-le}
use lib.Seq.{
  length-take-le,
  take-take,
  set-append_left,
  take-set-lt,
  drop-set-lt,
  get_or-take,
  get_or-drop,
  ext_get_or,
}
use lib.Dec.{ltb}
use borrow.Author.Tests.{ltb-true, ltb-false}
use Rattle.wire.specs.Bytes.{field, le_bytes, splice}
use Rattle.wire.proofs.Range.{Bytes}
use Rattle.wire.proofs.Splice.{in_three, take-splice_all, take-splice-within}
use Rattle.wire.proofs.Field.{length-le_bytes, le_bytes-field}
use Rattle.laws.proofs.Row.{Agree}

-- ---- stretches

-- a number spliced in where it was read changes nothing
pub splice_own : (a : List ℕ) (at k : ℕ) → Bytes a → at + k ≤ length a → splice a at (le_bytes k (field a at k)) ≡ a
unfolding splice
splice_own a at k b l = rw (length-le_bytes, le_bytes-field a at k b l) (in_three a at k)

-- a list with a stretch reaches at least to the stretch
pub length-splice-least : (a : List ℕ) (at : ℕ) (new : List ℕ) → at ≤ length a → at ≤ length (splice a at new)
unfolding splice
length-splice-least a at new l = rw (length-append, length-take-le at a l) (omega arith)

-- a byte stored before a stretch, and the stretch, in either order
pub set-splice : (a : List ℕ) (at : ℕ) (new : List ℕ) (i v : ℕ) → i < at → at ≤ length a → set (splice a at new) i v ≡ splice (set a i v) at new
unfolding splice
set-splice a at new i v h l =
    let t : i < length (take at a) = rw (length-take-le at a l) h in
    set-append_left (take at a) (new ++ drop (at + length new) a) i v t
    ∙ rw (take-set-lt at a i v h, drop-set-lt (at + length new) a i v (omega arith))

-- the used bytes with a stretch in them, or at their end, are the old used bytes with it
pub take-splice-used : (a : List ℕ) (at : ℕ) (new : List ℕ) (u n : ℕ) → at ≤ u → u ≤ length a → n ≡ max u (at + length new)
    → take n (splice a at new) ≡ splice (take u a) at new
unfolding splice
take-splice-used a at new u n h l e = go (ltb u (at + length new)) refl
  where
    go : (b : Bool) → ltb u (at + length new) ≡ b → take n (splice a at new) ≡ splice (take u a) at new
    go false t =
        let w : at + length new ≤ u = ltb-false u (at + length new) t in
        let p : n ≡ u = omega arith in
        rw p (take-splice-within a at new u w l)
    go true t =
        let w : u < at + length new = ltb-true u (at + length new) t in
        let p : n ≡ at + length new = omega arith in
        let q : length (take u a) ≤ at + length new = rw (length-take-le u a l) (omega arith) in
        rw p
        (take-splice_all a at new (omega arith)
        ∙ rw (take-take at u a h, drop_of_length-le (take u a) q, append-nil))

-- ---- parts

-- the length of a part that lies in the list
pub length_part : (a : List ℕ) (o n : ℕ) → o + n ≤ length a → length (take n (drop o a)) ≡ n
length_part a o n h = let d : length (drop o a) ≡ length a - o = length-drop o a in length-take-le n (drop o a) (omega arith)

-- a byte of a part
pub get_or_part : (a : List ℕ) (o n i : ℕ) → i < n → get_or (take n (drop o a)) i 0 ≡ get_or a (o + i) 0
get_or_part a o n i h = get_or-take n (drop o a) i 0 h ∙ get_or-drop o a i 0

-- a part is the list whose bytes it has
pub part-is : (a : List ℕ) (o : ℕ) (l : List ℕ) → o + length l ≤ length a → ((i : ℕ) → i < length l → get_or a (o + i) 0 ≡ get_or l i 0)
    → take (length l) (drop o a) ≡ l
part-is a o l h g =
    let e : length (take (length l) (drop o a)) ≡ length l = length_part a o (length l) h in
    ext_get_or 0 (take (length l) (drop o a)) l e
    (λ i x. let y : i < length l = omega arith in get_or_part a o (length l) i y ∙ g i y)

-- a part depends only on its bytes
pub part_agree : (d : ℕ) (a b : List ℕ) (o n : ℕ) → o + n ≤ length a → d + o + n ≤ length b → Agree d a b o (o + n)
    → take n (drop o a) ≡ take n (drop (d + o) b)
part_agree d a b o n ha hb g =
    let p : length (take n (drop o a)) ≡ n = length_part a o n ha in
    let q : length (take n (drop (d + o) b)) ≡ n = length_part b (d + o) n hb in
    ext_get_or 0 (take n (drop o a)) (take n (drop (d + o) b)) (p ∙ sym q)
    (λ i x.
    let y : i < n = omega arith in
    get_or_part a o n i y ∙ g (o + i) (omega arith) (omega arith) ∙ sym (rw (← add_assoc) (get_or_part b (d + o) n i y)))
