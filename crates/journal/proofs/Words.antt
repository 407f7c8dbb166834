-- The words that change: where they stand, and that applied to the old area they give the new one.
use mathlib.Core.Path.{◌≡◌, refl, ◌∙◌}
use Prim.Native.Nat.{ℕ, zero, suc, ◌+◌, ◌-◌, ◌*◌, ◌%◌, ◌≤◌, ◌<◌}
use native.Mathlib.Omega.{arith}
use native.Mathlib.Decide.{dec_le}
use native.Mathlib.Nat.{lt_of_not-le, add-zero}
use mathlib.Core.Bool.{Bool, true, false, cond}
use mathlib.Core.List.{List, [], ◌∷◌}
use lib.ListN.{length, get_or}
use lib.Dec.{eqb}
use borrow.Author.Tests.{eq-eqb, le-leb, eqb-true}
use Rattle.wire.specs.Bytes.{splice}
use Rattle.wire.proofs.Splice.{length-splice, get_or-splice_before, get_or-splice_in, get_or-splice-behind}
use Rattle.journal.specs.Journal.{in_area, Memory, memory, store_all, rising, part, Word, alike, words_from, apply_stores, fits}
use Rattle.journal.proofs.Stores.{stores-append, splice-area}
use Rattle.journal.proofs.Clearing.{and_left, and_right}
use Rattle.journal.proofs.Records.{AllFine}

-- ---- parts and equal bytes

pub get_or_part : (k : ℕ) (l : List ℕ) (at t : ℕ) → t < k → get_or (part l at k) t 0 ≡ get_or l (at + t) 0
get_or_part zero l at t h = absurd (omega arith)
get_or_part (suc k) l at zero h = rw add-zero refl
get_or_part (suc k) l at (suc t) h = let e : at + suc t ≡ at + 1 + t = omega arith in rw e (get_or_part k l (at + 1) t (omega arith))

pub alike_at : (k : ℕ) (a b : List ℕ) (at : ℕ) → alike a b at k ≡ true → (t : ℕ) → t < k → get_or a (at + t) 0 ≡ get_or b (at + t) 0
alike_at zero a b at h t g = absurd (omega arith)
alike_at (suc k) a b at h zero g = rw add-zero (eqb-true _ _ (and_left (eqb (get_or a at 0) (get_or b at 0)) (alike a b (at + 1) k) h))
alike_at (suc k) a b at h (suc t) g =
    let e : at + suc t ≡ at + 1 + t = omega arith in
    rw e (alike_at k a b (at + 1) (and_right (eqb (get_or a at 0) (get_or b at 0)) (alike a b (at + 1) k) h) t (omega arith))

-- ---- where they stand

-- a word that changes is in front of the list, one that does not is left out
one_word : (P : List Word → Type 0) (same : Bool) (w : Word) (ws : List Word) → (same ≡ true → P ws) → (same ≡ false → P (w ∷ ws))
    → P (cond same ws (w ∷ ws))
one_word P true w ws h g = h refl
one_word P false w ws h g = g refl

pub words_fine : (n at : ℕ) (old new : List ℕ) → at % 8 ≡ 0 → at + 8 * n ≤ length old → AllFine (length old) (words_from n at old new)
unfolding words_from
words_fine zero at old new e h = tt
words_fine (suc n) at old new e h =
    let ih : AllFine (length old) (words_from n (at + 8) old new) = words_fine n (at + 8) old new (omega arith) (omega arith) in
    one_word (AllFine (length old)) (alike old new at 8) (record { offset = at; bytes = part new at 8 }) (words_from n (at + 8) old new)
    (λ _. ih) (λ _. (record { eights = e; inside = omega arith; eight = refl }, ih))

pub fine_fits : (len : ℕ) (ws : List Word) → AllFine len ws → fits len ws ≡ true
fine_fits len [] f = refl
fine_fits len (w ∷ ws) f =
    rw (eq-eqb (w.offset % 8) 0 f.0.eights, le-leb (w.offset + 8) len f.0.inside) (fine_fits len ws f.1)

-- ---- what they give

-- x is new below at, and old from there on
pub record Mixed (old new : List ℕ) (at : ℕ) (x : List ℕ) : Type 0 where
  pub below : (p : ℕ) → p < at → get_or x p 0 ≡ get_or new p 0
  pub above : (p : ℕ) → at ≤ p → get_or x p 0 ≡ get_or old p 0

mixed_same : (old new : List ℕ) (at : ℕ) (x : List ℕ) → alike old new at 8 ≡ true → Mixed old new at x → Mixed old new (at + 8) x
mixed_same old new at x h f = record {
  below = λ p g. elim (dec_le at p) [
    | yes q ↦ let e : at + (p - at) ≡ p = omega arith in f.above p q ∙ rw e at (alike_at 8 old new at h (p - at) (omega arith))
    | no q ↦ f.below p (lt_of_not-le q)
  ];
  above = λ p g. f.above p (omega arith);
}

mixed_put : (old new : List ℕ) (at : ℕ) (x : List ℕ) → at + 8 ≤ length x → Mixed old new at x → Mixed old new (at + 8) (splice x at (part new at 8))
mixed_put old new at x h f = record {
  below = λ p g. elim (dec_le at p) [
    | yes q ↦ let e : at + (p - at) ≡ p = omega arith in
        rw e at (get_or-splice_in x at (part new at 8) (omega arith) (p - at) (omega arith) ∙ get_or_part 8 new at (p - at) (omega arith))
    | no q ↦ get_or-splice_before x at (part new at 8) (omega arith) p (lt_of_not-le q) ∙ f.below p (lt_of_not-le q)
  ];
  above = λ p g. get_or-splice-behind x at (part new at 8) (omega arith) p g ∙ f.above p (omega arith);
}

pub applied : (n at : ℕ) (old new : List ℕ) (m : Memory) → at + 8 * n ≤ length m.area → Mixed old new at m.area
    → Mixed old new (at + 8 * n) (store_all (apply_stores (words_from n at old new)) m).area
unfolding words_from
applied zero at old new m h f = let e : at + 8 * 0 ≡ at = omega arith in rw e f
applied (suc n) at old new m h f =
    let ws : List Word = words_from n (at + 8) old new in
    let b : List ℕ = part new at 8 in
    let e : at + 8 * suc n ≡ at + 8 + 8 * n = omega arith in
    let x : List ℕ = splice m.area at b in
    let l : length x ≡ length m.area = length-splice m.area at b (omega arith) in
    rw e
    (one_word (λ (z : List Word). Mixed old new (at + 8 + 8 * n) (store_all (apply_stores z) m).area) (alike old new at 8)
    (record { offset = at; bytes = b }) ws
    (λ t. applied n (at + 8) old new m (omega arith) (mixed_same old new at m.area t f))
    (λ _.
    rw (stores-append (rising in_area at b) (apply_stores ws) m, splice-area at b m (omega arith))
    (applied n (at + 8) old new (memory m.journal x) (rw l (omega arith)) (mixed_put old new at m.area (omega arith) f))))

-- ---- the first of them

-- of n words from at on none changes, or w is the offset of the first that does, and those from the next place on follow it
pub data Next (old new : List ℕ) (n at : ℕ) : Type 0 where
  done : words_from n at old new ≡ [] → Next old new n at
  more : (w k : ℕ) → words_from n at old new ≡ record { offset = w; bytes = part new w 8 } ∷ words_from k (w + 8) old new
      → w + 8 + 8 * k ≡ at + 8 * n → at ≤ w → Next old new n at

pub next : (old new : List ℕ) (n at : ℕ) → Next old new n at
unfolding words_from
next old new zero at = done refl
next old new (suc n) at = go (alike old new at 8) refl (next old new n (at + 8))
  where
    go : (b : Bool) → alike old new at 8 ≡ b → Next old new n (at + 8) → Next old new (suc n) at
    go true e (done c) = done (rw e c)
    go true e (more w k c h g) = more w k (rw e c) (omega arith) (omega arith)
    go false e q = more at n (rw e) (omega arith) (omega arith)
