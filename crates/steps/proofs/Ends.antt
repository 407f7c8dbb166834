-- The steps run to the end: how many more are allowed does not matter, and those that store a list of bytes run it.
use mathlib.Core.Path.{◌≡◌, refl, sym, ap, ◌∙◌}
use Prim.Native.Nat.{ℕ, zero, suc, ◌≤◌, ◌<◌}
use native.Mathlib.Omega.{arith}
use native.Mathlib.Decide.{ℕ_discrete}
use mathlib.Core.Bool.{false}
use mathlib.Core.List.{List, [], ◌∷◌}
use lib.ListN.{length, take}
use lib.Dec.{eqb}
use borrow.Author.Tests.{eq-eqb, ne_eqb}
use Rattle.std.proofs.lemmas.Bool.{eqb-false}
use Rattle.journal.specs.Journal.{Store, Memory, memory, store, store_all, records}
use Rattle.journal.proofs.Stores.{same_records}
use Rattle.rules.specs.declared.DoneAnswer.{DoneAnswer}
use Rattle.steps.specs.declared.Steps.{Steps}
use Rattle.steps.specs.declared.Stepped.{Stepped}
use Rattle.steps.specs.Steps.{at_end, stopped, stored, step_of, stepped, report, ended, left, up_to_end, to_end}
use Rattle.steps.specs.Survives.{Goes, after_steps}
use Rattle.steps.proofs.Nearer.{choose, nearer}

module _ (content : List ℕ) where
  -- at the end nothing more is done
  rest : (f : ℕ) (s : Steps) (m : Memory) → s.phase ≡ at_end → up_to_end f content s m ≡ ended s.done m
  unfolding up_to_end
  rest zero s m e = refl
  rest (suc f) s m e = rw (eq-eqb s.phase at_end e)

  -- before it, one step is
  one_step : (f : ℕ) (s : Steps) (m : Memory) → (s.phase ≡ at_end → ⊥)
      → up_to_end (suc f) content s m ≡ up_to_end f content (step_of content s m).next (stepped content s m)
  unfolding up_to_end
  one_step f s m n = rw (ne_eqb s.phase at_end n)

  -- and comes nearer
  less : (s : Steps) (m : Memory) → (s.phase ≡ at_end → ⊥)
      → left (records (stepped content s m).journal) (step_of content s m).next < left (records m.journal) s
  less s m n = rw (same_records (stored (step_of content s m).store) m) (nearer content s m n).less

  -- enough is enough
  enough : (f g : ℕ) (s : Steps) (m : Memory) → left (records m.journal) s ≤ f → left (records m.journal) s ≤ g
      → up_to_end f content s m ≡ up_to_end g content s m
  enough zero g s m h k = elim (ℕ_discrete s.phase at_end) [
    | yes e ↦ rest zero s m e ∙ sym (rest g s m e)
    | no n ↦ absurd (omega (arith, h, less s m n))
  ]
  enough (suc f) zero s m h k = elim (ℕ_discrete s.phase at_end) [
    | yes e ↦ rest (suc f) s m e ∙ sym (rest zero s m e)
    | no n ↦ absurd (omega (arith, k, less s m n))
  ]
  enough (suc f) (suc g) s m h k = elim (ℕ_discrete s.phase at_end) [
    | yes e ↦ rest (suc f) s m e ∙ sym (rest (suc g) s m e)
    | no n ↦
        let l = less s m n in
        one_step f s m n
        ∙ enough f g (step_of content s m).next (stepped content s m) (omega (arith, l)) (omega (arith, l))
        ∙ sym (one_step g s m n)
  ]

  pub to-end-rest : (s : Steps) (m : Memory) → s.phase ≡ at_end → to_end content s m ≡ ended s.done m
  unfolding to_end
  to-end-rest s m e = rest (left (records m.journal) s) s m e

  pub to-end_step : (s : Steps) (m : Memory) → (s.phase ≡ at_end → ⊥)
      → to_end content s m ≡ to_end content (step_of content s m).next (stepped content s m)
  unfolding to_end
  to-end_step s m n = go (left (records m.journal) s) (less s m n)
    where
      t : Steps
      t = (step_of content s m).next

      m' : Memory
      m' = stepped content s m

      go : (k : ℕ) → left (records (stepped content s m).journal) (step_of content s m).next < k
          → up_to_end k content s m ≡ up_to_end (left (records m'.journal) t) content t m'
      go zero l = absurd (omega arith)
      go (suc k) l = one_step k s m n ∙ enough k (left (records m'.journal) t) t m' (omega (arith, l)) (omega arith)

  -- at the end a step stores nothing
  rests : (s : Steps) (m : Memory) → s.phase ≡ at_end → (stored (step_of content s m).store ≡ []) × ((step_of content s m).next ≡ s)
  unfolding step_of
  rests s m e = rw e (refl, refl)

  -- Steps that store a list of bytes and then stand at the end run it.
  pub goes_end : (l : List Store) (s : Steps) (m : Memory) (d : DoneAnswer) → Goes content s m l (stopped d) → to_end content s m ≡ ended d (store_all l m)
  goes_end [] s m d e = rw e (to-end-rest (stopped d) m refl)
  goes_end (x ∷ l) s m d e = elim (ℕ_discrete s.phase at_end) [
    | yes p ↦ absurd (let z : ◌≡◌ {A = ℕ} 0 1 = ap length (sym (rests s m p).0 ∙ e.0) in omega arith)
    | no n ↦
        let t : stepped content s m ≡ store x m = ap (λ (z : List Store). store_all z m) e.0 in
        to-end_step s m n ∙ rw t (goes_end l (step_of content s m).next (store x m) d e.1)
  ]

  -- and so many steps run so many stores
  after-rest : (k : ℕ) (s : Steps) (m : Memory) → s.phase ≡ at_end → after_steps k content s m ≡ m
  unfolding after_steps
  after-rest zero s m e = refl
  after-rest (suc k) s m e =
      let r = rests s m e in
      rw (r.0, r.1) (after-rest k s m e)

  pub goes_after : (k : ℕ) (l : List Store) (s : Steps) (m : Memory) (d : DoneAnswer) → Goes content s m l (stopped d)
      → after_steps k content s m ≡ store_all (take k l) m
  unfolding after_steps
  goes_after zero l s m d e = refl
  goes_after (suc k) [] s m d e = rw e (after-rest (suc k) (stopped d) m refl)
  goes_after (suc k) (x ∷ l) s m d e =
      let t : stepped content s m ≡ store x m = ap (λ (z : List Store). store_all z m) e.0 in
      rw t (goes_after k l (step_of content s m).next (store x m) d e.1)

-- ---- one turn of a loop over the steps

-- the state of an answer is the one that was reported
pub reported : (s : Steps) → (report s).state ≡ s
reported s = choose (λ (r : Stepped). r.state ≡ s) (eqb s.phase at_end) (λ _. refl) (λ _. refl)

module _ (content : List ℕ) (s : Steps) (r : Stepped) (j a j' a' : List ℕ) (e : r ≡ report (step_of content s (memory j a)).next)
    (f : memory j' a' ≡ stepped content s (memory j a)) (n : eqb s.phase at_end ≡ false) where
  left_by : r.state ≡ (step_of content s (memory j a)).next
  left_by = ap (λ (x : Stepped). x.state) e ∙ reported _

  pub turn_ends : to_end content s (memory j a) ≡ to_end content r.state (memory j' a')
  turn_ends = rw (left_by, f) (to-end_step content s (memory j a) (eqb-false s.phase at_end n))

  pub turn_less : left (records j') r.state < left (records j) s
  turn_less = rw (left_by, ap (λ (m : Memory). m.journal) f) (less content s (memory j a) (eqb-false s.phase at_end n))
