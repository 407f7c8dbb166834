-- Laws of splice: its length, its elements, its parts, and several splices of one list.
use Rattle.std.proofs.Common.{
  ◌≡◌,
  ℕ,
  ◌+◌,
  ◌-◌,
  ◌<◌,
  ◌≤◌,
  List,
  [],
  ◌∷◌,
  ◌++◌,
  length,
  get_or,
  take,
  drop,
  set,
  sym,
  ap,
  ◌∙◌,
  subst,
  append_assoc,
  append-nil,
  add-zero,
  add_assoc,
  zero-add,
  add-one,
  arith,
  length-append,
  length-drop,
  take-append-drop,
  length-take-le,
  get_or-drop,
  get_or-take,
  take-take,
  drop-drop,
  take_at,
  get_or-append-add,
  take-add,
  drop_at,
}
use lib.ListN.{get_or-append}
use lib.Seq.{drop-length, take-append-le, drop-append-le}
use lib.Seq.{set_split, sets, sets-eq}
use borrow.Rule.Slice.PartMut.{put_mid}
use Rattle.wire.specs.Bytes.{splice}

-- what follows the first n of a longer part is the part of what follows them
pub drop-take : (n m : ℕ) (l : List ℕ) → n ≤ length l → drop n (take (n + m) l) ≡ take m (drop n l)
drop-take n m l h = ap (drop n) (take-add n m l) ∙ drop_at (take n l) (take m (drop n l)) n (length-take-le n l h)

-- a list is what stands before a stretch, the stretch, and what stands behind it
pub in_three : (a : List ℕ) (at n : ℕ) → take at a ++ (take n (drop at a) ++ drop (at + n) a) ≡ a
in_three a at n = rw (← drop-drop n at a, take-append-drop, take-append-drop)

-- no new bytes: nothing changes
pub splice-nil : (a : List ℕ) (at : ℕ) → splice a at [] ≡ a
unfolding splice
splice-nil a at = rw (add-zero, take-append-drop)

-- one byte stored is a splice of one byte
pub splice-set : (a : List ℕ) (i v : ℕ) → i < length a → set a i v ≡ splice a i (v ∷ [])
unfolding splice
splice-set a i v h = rw (add-one) (set_split a i v h)

-- bytes stored one behind the other are a splice of them
pub splice_sets : (a : List ℕ) (at : ℕ) (new : List ℕ) → at + length new ≤ length a → sets a at new ≡ splice a at new
unfolding splice
splice_sets a at new h = sets-eq new a at h ∙ append_assoc (take at a) new (drop (at + length new) a)

module _ (a : List ℕ) (at : ℕ) (new : List ℕ) (l : at ≤ length a) where
  -- what ends at the last new byte has at + length new bytes
  length_front : length (take at a ++ new) ≡ at + length new
  length_front = rw (length-append, length-take-le at a l)

  -- what stands up to the last new byte
  pub take-splice_all : take (at + length new) (splice a at new) ≡ take at a ++ new
  unfolding splice
  take-splice_all = rw (← append_assoc) (take_at (take at a ++ new) (drop (at + length new) a) (at + length new) length_front)

  -- behind the new bytes a list is as it was
  pub drop-splice : (n : ℕ) → at + length new ≤ n → drop n (splice a at new) ≡ drop n a
  unfolding splice
  drop-splice n h =
      let k : ℕ = at + length new in
      let e : k + (n - k) ≡ n = omega arith in
      subst (λ (m : ℕ). drop m (splice a at new) ≡ drop m a) e
      (sym (drop-drop (n - k) k (splice a at new))
      ∙ ap (drop (n - k)) (rw (← append_assoc) (drop_at (take at a ++ new) (drop k a) k length_front))
      ∙ drop-drop (n - k) k a)

  -- before the new bytes a list is as it was
  pub take-splice : (n : ℕ) → n ≤ at → take n (splice a at new) ≡ take n a
  unfolding splice
  take-splice n h =
      let k : n ≤ length (take at a) = rw (length-take-le at a) h in
      take-append-le n (take at a) (new ++ drop (at + length new) a) k ∙ take-take n at a h

  -- a byte before the new bytes
  pub get_or-splice_before : (i : ℕ) → i < at → get_or (splice a at new) i 0 ≡ get_or a i 0
  get_or-splice_before i h =
      sym (get_or-take at (splice a at new) i 0 h) ∙ ap (λ (x : List ℕ). get_or x i 0) (take-splice at (omega arith)) ∙ get_or-take at a i 0 h

  -- a new byte
  pub get_or-splice_in : (i : ℕ) → i < length new → get_or (splice a at new) (at + i) 0 ≡ get_or new i 0
  unfolding splice
  get_or-splice_in i h =
      let q : List ℕ = drop (at + length new) a in
      ap (λ (n : ℕ). get_or (splice a at new) (n + i) 0) (sym (length-take-le at a l))
      ∙ get_or-append-add (take at a) (new ++ q) i 0
      ∙ get_or-append new q 0 i h

  -- a byte behind the new bytes
  pub get_or-splice-behind : (i : ℕ) → at + length new ≤ i → get_or (splice a at new) i 0 ≡ get_or a i 0
  get_or-splice-behind i h = head (splice a at new) ∙ ap (λ (x : List ℕ). get_or x 0 0) (drop-splice i h) ∙ sym (head a)
    where
      head : (x : List ℕ) → get_or x i 0 ≡ get_or (drop i x) 0 0
      head x = rw (get_or-drop, add-zero)

-- a splice within the list keeps its length
pub length-splice : (a : List ℕ) (at : ℕ) (new : List ℕ) → at + length new ≤ length a → length (splice a at new) ≡ length a
unfolding splice
length-splice a at new h =
    let e : length (take at a) ≡ at = length-take-le at a (omega arith) in
    rw (length-append, length-append, length-drop, e) (omega arith)

-- a second splice behind the first continues it
pub splice-append : (a : List ℕ) (at : ℕ) (p q : List ℕ) → at ≤ length a → splice (splice a at p) (at + length p) q ≡ splice a at (p ++ q)
unfolding splice
splice-append a at p q h =
    let n : ℕ = at + length p in
    ap (λ (x : List ℕ). x ++ (q ++ drop (n + length q) (splice a at p))) (take-splice_all a at p h)
    ∙ ap (λ (x : List ℕ). take at a ++ p ++ (q ++ x)) (drop-splice a at p h (n + length q) (omega arith))
    ∙ simp (append_assoc, length-append, add_assoc)

-- a byte stored behind the new bytes continues them
pub splice_snoc : (a : List ℕ) (at : ℕ) (p : List ℕ) (v i : ℕ) → length p ≡ i → at + i < length a → set (splice a at p) (at + i) v ≡ splice a at (p ++ (v ∷ []))
splice_snoc a at p v i e h =
    let l : length (splice a at p) ≡ length a = length-splice a at p (omega arith) in
    splice-set (splice a at p) (at + i) v (omega arith)
    ∙ ap (λ (n : ℕ). splice (splice a at p) (at + n) (v ∷ [])) (sym e)
    ∙ splice-append a at p (v ∷ []) (omega arith)

-- a splice within the first n bytes, of those bytes alone
pub take-splice-within : (a : List ℕ) (at : ℕ) (new : List ℕ) (n : ℕ) → at + length new ≤ n → n ≤ length a → take n (splice a at new) ≡ splice (take n a) at new
unfolding splice
take-splice-within a at new n h l =
    let k : ℕ = at + length new in
    let e : k + (n - k) ≡ n = omega arith in
    subst (λ (m : ℕ). take m (splice a at new) ≡ splice (take m a) at new) e
    (take-add k (n - k) (splice a at new)
    ∙ ap (λ (x : List ℕ). x ++ take (n - k) (drop k (splice a at new))) (take-splice_all a at new (omega arith))
    ∙ ap (λ (x : List ℕ). take at a ++ new ++ take (n - k) x) (drop-splice a at new (omega arith) k (omega arith))
    ∙ append_assoc (take at a) new (take (n - k) (drop k a))
    ∙ ap (λ (x : List ℕ). take at a ++ (new ++ x)) (sym (drop-take k (n - k) a (omega arith)))
    ∙ ap (λ (x : List ℕ). x ++ (new ++ drop k (take (k + (n - k)) a))) (sym (take-take at (k + (n - k)) a (omega arith))))

-- two splices that do not overlap, in either order
pub splice_comm : (a : List ℕ) (at : ℕ) (p : List ℕ) (b : ℕ) (q : List ℕ) → at + length p ≤ b → b ≤ length a
    → splice (splice a at p) b q ≡ splice (splice a b q) at p
unfolding splice
splice_comm a at p b q h l =
    let k : ℕ = at + length p in
    let z : List ℕ = q ++ drop (b + length q) a in
    let t : length (take b a) ≡ b = length-take-le b a l in
    ap (λ (x : List ℕ). x ++ (q ++ drop (b + length q) (splice a at p))) (take-splice-within a at p b h l)
    ∙ ap (λ (x : List ℕ). splice (take b a) at p ++ (q ++ x)) (drop-splice a at p (omega arith) (b + length q) (omega arith))
    ∙ append_assoc (take at (take b a)) (p ++ drop k (take b a)) z
    ∙ ap (λ (x : List ℕ). take at (take b a) ++ x) (append_assoc p (drop k (take b a)) z)
    ∙ ap (λ (x : List ℕ). take at (take b a) ++ (p ++ x)) (sym (drop-append-le k (take b a) z (omega arith)))
    ∙ ap (λ (x : List ℕ). x ++ (p ++ drop k (splice a b q))) (sym (take-append-le at (take b a) z (omega arith)))

-- as many new bytes as the list has are the list afterwards
pub splice_all : (a new : List ℕ) → length new ≡ length a → splice a 0 new ≡ new
unfolding splice
splice_all a new e = rw (zero-add, e, drop-length, append-nil)

-- the k bytes from at on written anew, as a write to a part of a slice leaves it
pub put_mid-splice : (a : List ℕ) (at k : ℕ) (written new : List ℕ) → written ≡ new → k ≡ length new → put_mid at k a written ≡ splice a at new
unfolding splice
put_mid-splice a at k written new e n = rw (e, n, drop-drop)
