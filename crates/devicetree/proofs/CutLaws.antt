-- Laws of the chunks that the library cuts from a part of a list.
use mathlib.Core.Path.{◌≡◌, refl, sym, ap, ◌∙◌}
use Prim.Native.Nat.{ℕ, ◌+◌, ◌-◌, ◌≤◌, ◌<◌}
use native.Mathlib.Omega.{arith}
use mathlib.Core.List.{List, ◌++◌}
use lib.ListN.{length, get_or, take, drop}
use lib.Seq.{drop-append_seam}
use Rattle.std.specs.List.{slice_range}
use Rattle.std.proofs.Common.{length-append, length-drop}
use Rattle.std.proofs.Math.ListN.{get_or-append}
use Rattle.std.proofs.lemmas.List.{get_or-take, get_or-drop, drop-drop, drop-take, length-take-le}
use Rattle.devicetree.specs.Header.{Zeros}

pub part_reads : (s : List ℕ) (p e i j : ℕ) {part : List ℕ} → part ≡ slice_range s p e → j ≡ p + i → j < e → get_or part i 0 ≡ get_or s j 0
part_reads s p e i j q h l =
    ap (λ l. get_or l i 0) q ∙ get_or-take (e - p) (drop p s) i 0 (omega arith) ∙ get_or-drop p s i 0 ∙ ap (λ n. get_or s n 0) (sym h)

-- the next n elements of those from p up to e are x, and rest is left behind them
pub record Chunk (s : List ℕ) (p e n : ℕ) (x rest : List ℕ) : Type 0 where
  pub inside : p + n ≤ e
  pub left : rest ≡ slice_range s (p + n) e
  pub reads : (i j : ℕ) → i < n → j ≡ p + i → get_or x i 0 ≡ get_or s j 0

pub next_chunk : (s : List ℕ) (p e n : ℕ) {r x t : List ℕ} → e ≤ length s → p ≤ e → r ≡ slice_range s p e → r ≡ x ++ t → length x ≡ n
    → Chunk s p e n x t
next_chunk s p e n {r} {x} {t} h b q f l =
    let g : x ++ t ≡ slice_range s p e = sym f ∙ q in
    let i : length x + length t ≡ e - p = simp length-append at (ap length g) ∙ length-take-le (e - p) (drop p s) (simp length-drop (omega arith)) in
    let m : n + (e - (p + n)) ≡ e - p = omega arith in
    record {
      inside = omega arith;
      left =
          sym (drop-append_seam x t) ∙ ap (λ k. drop k (x ++ t)) l ∙ ap (drop n) (g ∙ ap (λ k. take k (drop p s)) (sym m))
          ∙ drop-take n (e - (p + n)) (drop p s) ∙ ap (take (e - (p + n))) (drop-drop n p s);
      reads = λ i j k a. sym (get_or-append x t 0 i (omega arith)) ∙ part_reads s p e i j g a (omega arith);
    }

-- the zeros of a part are those of the list
pub part_zeros : (s : List ℕ) (p e : ℕ) (x : List ℕ) → ((i j : ℕ) → i < length x → j ≡ p + i → get_or x i 0 ≡ get_or s j 0) → p + length x ≡ e
    → (Zeros x 0 (length x) → Zeros s p e) × (Zeros s p e → Zeros x 0 (length x))
part_zeros s p e x r l = (
  (λ z k a h. sym (r (k - p) k (omega arith) (omega arith)) ∙ z (k - p) (omega arith) (omega arith)),
  (λ z k a h. r k (p + k) h refl ∙ z (p + k) (omega arith) (omega arith)),
)
