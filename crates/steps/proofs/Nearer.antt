-- Any step on any state and any buffers: before the end it comes nearer to it, and no byte behind the whole records is written.
use mathlib.Core.Path.{◌≡◌, refl}
use Prim.Native.Nat.{ℕ, zero, suc, ◌+◌, ◌*◌, ◌≤◌, ◌<◌}
use native.Mathlib.Omega.{arith}
use native.Mathlib.Decide.{ℕ_discrete}
use mathlib.Core.Bool.{Bool, true, false, ◌&&◌, cond}
use mathlib.Core.List.{List}
use lib.ListN.{length, get_or}
use lib.Seq.{get_or-set_other}
use lib.Dec.{ltb, leb, eqb}
use Rattle.std.specs.Prelude.{Option, Some, None}
use borrow.Author.Tests.{ltb-true, ltb-false, ne_eqb}
use Rattle.wire.specs.Bytes.{field}
use Rattle.journal.specs.Journal.{Memory, store_all, records, kind}
use Rattle.journal.proofs.Clearing.{and_left, and_right}
use Rattle.steps.specs.declared.Steps.{Steps}
use Rattle.steps.specs.declared.Store.{Store}
use Rattle.steps.specs.declared.Store.TheVariants.{Journal, Area}
use Rattle.steps.specs.declared.Step.{Step}
use Rattle.steps.specs.Steps.{
  writing,
  committing,
  applying,
  clearing,
  at_end,
  stand,
  stored,
  refuse,
  slot,
  after_word,
  in_record,
  at_word,
  can_write,
  word_step,
  commit_step,
  after_apply,
  apply_step,
  clear_step,
  step_of,
  stepped,
  left,
}

-- a choice has what both sides have
pub choose : {X : Type 0} (P : X → Type 0) (b : Bool) {x y : X} → (b ≡ true → P x) → (b ≡ false → P y) → P (cond b x y)
choose P true f g = f refl
choose P false f g = g refl

-- a store is none, or in the first n records of the journal, or in the area
abbrev Within : ℕ → Option Store → Type 0
Within n None = Unit {0}
Within n (Some (Journal at value)) = at < 16 * n
Within n (Some (Area at value)) = Unit {0}

-- what holds of a step from s, with n whole records
pub record Nearer (n : ℕ) (s : Steps) (d : Step) : Type 0 where
  pub less : left n d.next < left n s
  pub within : Within n d.store

in_record_lem : (s : Steps) (j : List ℕ) → in_record s j ≡ true → (s.index < records j) × (s.byte < 16)
in_record_lem s j h =
    let a : Bool = ltb s.index (records j) in
    let b : Bool = ltb s.byte 16 in
    (ltb-true _ _ (and_left a b h), ltb-true _ _ (and_right a b h))

slot-low : (b : ℕ) → b < 16 → slot b < 16
slot-low b h = choose (λ (x : ℕ). x < 16) (ltb b 15) (λ e. omega (arith, ltb-true b 15 e)) (λ e. omega arith)

module _ (s : Steps) (index byte word : ℕ) where
  near_word : (content : List ℕ) (m : Memory) → let t : Steps = stand s writing index byte word in
      Nearer (records m.journal) t (word_step content t m.journal m.area)
  unfolding word_step after_word left
  near_word content m =
      let n : ℕ = records m.journal in
      let t : Steps = stand s writing index byte word in
      let old : List ℕ = m.area in
      let at : Bool = in_record t m.journal in
      choose (Nearer n t) (at && at_word t (length old) && can_write t (length old) (length content))
      (λ h. let k = in_record_lem t m.journal (and_left at _ (and_left (at && at_word t (length old)) _ h)) in
      record {
        less = choose (λ (u : Steps). left n u < left n t) (ltb byte 15) (λ e. omega (arith, k, ltb-true byte 15 e))
            (λ e. choose (λ (u : Steps). left n u < left n t) (eqb _ (length old)) (λ _. omega (arith, k, ltb-false byte 15 e))
            (λ _. omega (arith, k, ltb-false byte 15 e)));
        within = omega (arith, k, slot-low byte k.1);
      })
      (λ _. record { less = omega arith; within = tt })

  near_commit : (m : Memory) → let t : Steps = stand s committing index byte word in Nearer (records m.journal) t (commit_step t m.journal)
  unfolding commit_step left
  near_commit m =
      let n : ℕ = records m.journal in
      let t : Steps = stand s committing index byte word in
      choose (Nearer n t) (in_record t m.journal)
      (λ h. let k = in_record_lem t m.journal h in
      record {
        less = choose (λ (u : Steps). left n u < left n t) (ltb byte 15) (λ e. omega (arith, k, ltb-true byte 15 e))
            (λ e. choose (λ (u : Steps). left n u < left n t) (eqb index 0) (λ _. omega (arith, k)) (λ _. omega (arith, k)));
        within = omega (arith, k, slot-low byte k.1);
      })
      (λ _. record { less = omega arith; within = tt })

  near_apply : (m : Memory) → let t : Steps = stand s applying index byte word in Nearer (records m.journal) t (apply_step t m.journal (length m.area))
  unfolding apply_step after_apply left
  near_apply m =
      let j : List ℕ = m.journal in
      let n : ℕ = records j in
      let t : Steps = stand s applying index byte word in
      choose (Nearer n t) (ltb index n && ltb byte 8 && leb (field j (16 * index + 4) 4 + 8) (length m.area))
      (λ h. let b = and_left (ltb index n && ltb byte 8) _ h in
      let i : index < n = ltb-true index n (and_left (ltb index n) (ltb byte 8) b) in
      let y : byte < 8 = ltb-true byte 8 (and_right (ltb index n) (ltb byte 8) b) in
      record {
        less = choose (λ (u : Steps). left n u < left n t) (ltb byte 7) (λ e. omega (arith, ltb-true byte 7 e))
            (λ e. choose (λ (u : Steps). left n u < left n t) (ltb (index + 1) n && eqb (kind j (index + 1)) 1)
            (λ _. omega (arith, ltb-false byte 7 e)) (λ _. omega arith));
        within = tt;
      })
      (λ _. record { less = omega arith; within = tt })

  near_clear : (m : Memory) → let t : Steps = stand s clearing index byte word in Nearer (records m.journal) t (clear_step t m.journal)
  unfolding clear_step left
  near_clear m =
      let n : ℕ = records m.journal in
      let t : Steps = stand s clearing index byte word in
      choose (Nearer n t) (ltb index n)
      (λ h. let i : index < n = ltb-true index n h in
      record {
        less = choose (λ (u : Steps). left n u < left n t) (ltb (index + 1) n) (λ _. omega arith) (λ _. omega arith);
        within = omega arith;
      })
      (λ _. record { less = omega arith; within = tt })

module _ (content : List ℕ) (s : Steps) (m : Memory) (a : eqb s.phase 0 ≡ false) (b : eqb s.phase 1 ≡ false) (c : eqb s.phase 2 ≡ false)
    (d : eqb s.phase 3 ≡ false) (e : eqb s.phase 4 ≡ false) where
  out_of : step_of content s m ≡ refuse
  unfolding step_of
  out_of = rw (a, b, c, d, e)

  last_of : left (records m.journal) s ≡ 1
  unfolding left
  last_of = rw (a, b, c, d, e)

-- at the end nothing is left
pub none_left : (n : ℕ) (s : Steps) → s.phase ≡ at_end → left n s ≡ 0
unfolding left
none_left n s e = rw e refl

-- a phase that is none
other_phase : (content : List ℕ) (s : Steps) (m : Memory) → at_end < s.phase → Nearer (records m.journal) s (step_of content s m)
other_phase content s m h = record { less = rw (out, last, none_left _ refuse.next refl) (omega arith); within = rw out tt }
  where
    other : (k : ℕ) → k ≤ at_end → eqb s.phase k ≡ false
    other k l = ne_eqb s.phase k (λ z. omega (arith, z))

    out : step_of content s m ≡ refuse
    out = out_of content s m (other 0 (omega arith)) (other 1 (omega arith)) (other 2 (omega arith)) (other 3 (omega arith)) (other 4 (omega arith))

    last : left (records m.journal) s ≡ 1
    last = last_of content s m (other 0 (omega arith)) (other 1 (omega arith)) (other 2 (omega arith)) (other 3 (omega arith)) (other 4 (omega arith))

pub nearer : (content : List ℕ) (s : Steps) (m : Memory) → (s.phase ≡ at_end → ⊥) → Nearer (records m.journal) s (step_of content s m)
unfolding step_of left
nearer content s m = go s.phase
  where
    go : (p : ℕ) → (p ≡ at_end → ⊥) → let t : Steps = stand s p s.index s.byte s.word in
        Nearer (records m.journal) t (step_of content t m)
    go zero np = near_word s s.index s.byte s.word content m
    go (suc zero) np = near_commit s s.index s.byte s.word m
    go (suc (suc zero)) np = near_apply s s.index s.byte s.word m
    go (suc (suc (suc zero))) np = near_clear s s.index s.byte s.word m
    go (suc (suc (suc (suc zero)))) np = absurd (np refl)
    go (suc (suc (suc (suc (suc p))))) np = other_phase content (stand s (suc (suc (suc (suc (suc p))))) s.index s.byte s.word) m (omega arith)

-- ---- odd bytes

-- bytes behind the whole records are kept by a store within them
kept_behind : (d : Option Store) (m : Memory) (p : ℕ) → Within (records m.journal) d → 16 * records m.journal ≤ p
    → get_or (store_all (stored d) m).journal p 0 ≡ get_or m.journal p 0
kept_behind None m p w h = refl
kept_behind (Some (Journal at value)) m p w h = get_or-set_other m.journal at p value 0 (λ z. omega (arith, z))
kept_behind (Some (Area at value)) m p w h = refl

-- Odd bytes behind the whole records are written by no step, on any state.
pub odd_kept : (content : List ℕ) (s : Steps) (m : Memory) (p : ℕ) → 16 * records m.journal ≤ p
    → get_or (stepped content s m).journal p 0 ≡ get_or m.journal p 0
unfolding step_of
odd_kept content s m p h = elim (ℕ_discrete s.phase at_end) [
  | yes e ↦ rw e refl
  | no n ↦ kept_behind (step_of content s m).store m p (nearer content s m n).within h
]
