-- Recovery's steps, from where they begin, store exactly the bytes that the rules prescribe; so cuts between steps are cuts between stores.
use mathlib.Core.Path.{◌≡◌, refl, ap, ◌∙◌}
use Prim.Native.Nat.{ℕ, zero, suc, ◌+◌, ◌%◌, ◌<◌}
use native.Mathlib.Omega.{arith}
use mathlib.Core.Bool.{Bool, true, false, ◌&&◌, cond}
use Rattle.std.specs.Prelude.{Option, None, Some, option_map}
use mathlib.Core.List.{List, [], ◌∷◌, ◌++◌}
use lib.ListN.{length, take}
use lib.Dec.{leb, eqb}
use borrow.Author.Tests.{eqb-true, leb-true}
use Rattle.journal.specs.Journal.{
  Store,
  Memory,
  memory,
  store_all,
  records,
  kind,
  Word,
  word_at,
  changed_words,
  apply_stores,
  clear_stores,
  edit_stores,
  kinds_up_to,
  by_kind,
  pending,
  fits,
  recovery_of,
  recovery,
  stores_of,
}
use Rattle.journal.specs.PowerCut.{Journals, cut_after, recoveries_cut, Recovers}
use Rattle.journal.proofs.Clearing.{and_left, and_right}
use Rattle.journal.proofs.Recovery.{Committed}
use Rattle.journal.proofs.Records.{AllFine}
use Rattle.journal.proofs.PowerCut.{has_room, power_cut, uncut}
use Rattle.plan.specs.Plan.{after}
use Rattle.plan.specs.declared.Plan.{Plan}
use Rattle.words.specs.Words.{Writable, next_offset}
use Rattle.steps.specs.declared.Steps.{Steps}
use Rattle.steps.specs.Steps.{
  stand,
  stopped,
  applying,
  plan_of,
  can_write,
  value_answer,
  refusal_answer,
  carrying,
  to_word,
  edit_start,
  beginning,
  recover_start,
  ended,
  to_end,
  recovery_answer,
  recovered,
}
use Rattle.steps.specs.Survives.{Goes, GoesAsRecovery, after_steps, recoveries_stepped, RunsTo, Survives}
use Rattle.steps.proofs.Nearer.{choose}
use Rattle.steps.proofs.Tests.{can_carry}
use Rattle.steps.proofs.Runs.{clear_all, goes_tail, goes_edit}
use Rattle.steps.proofs.Ends.{to-end-rest, goes_end, goes_after}

-- ---- what a recovery finds

pending_committed : (n : ℕ) (j : List ℕ) (i : ℕ) (ws : List Word) → pending n j i ≡ Some ws → Committed j i ws × (length ws < n)
pending_committed zero j i ws e = absurd (let z : ◌≡◌ {A = ℕ} 0 1 = cc in omega arith)
pending_committed (suc n) j i ws e = go (kind j i) refl (pending n j (i + 1)) (pending_committed n j (i + 1)) e
  where
    go : (k : ℕ) → kind j i ≡ k → (r : Option (List Word)) → ((vs : List Word) → r ≡ Some vs → Committed j (i + 1) vs × (length vs < n))
        → by_kind k (option_map (λ (ws : List Word). word_at j i ∷ ws) r) ≡ Some ws → Committed j i ws × (length ws < suc n)
    go zero ek r er e = absurd (let z : ◌≡◌ {A = ℕ} 0 1 = cc in omega arith)
    go (suc zero) ek None er e = absurd (let z : ◌≡◌ {A = ℕ} 0 1 = cc in omega arith)
    go (suc zero) ek (Some vs) er e =
        let f : ws ≡ word_at j i ∷ vs = cc in
        let ih : Committed j (i + 1) vs × (length vs < n) = er vs refl in
        rw f ((ek, refl, ih.0), omega arith)
    go (suc (suc zero)) ek r er e =
        let f : ws ≡ [] = cc in
        rw f (ek, omega arith)
    go (suc (suc (suc k))) ek r er e = absurd (let z : ◌≡◌ {A = ℕ} 0 1 = cc in omega arith)

fits_fine : (len : ℕ) (ws : List Word) (j : List ℕ) (i : ℕ) → Committed j i ws → fits len ws ≡ true → AllFine len ws
fits_fine len [] j i h f = tt
fits_fine len (w ∷ ws) j i h f =
    let a : Bool = eqb (w.offset % 8) 0 in
    let b : Bool = leb (w.offset + 8) len in
    let ab : a && b ≡ true = and_left (a && b) (fits len ws) f in (
      record { eights = eqb-true _ _ (and_left a b ab); inside = leb-true _ _ (and_right a b ab); eight = rw (← h.1) refl },
      fits_fine len ws j (i + 1) h.2 (and_right (a && b) (fits len ws) f),
    )

-- ---- its steps

refused_start : (m : Memory) → recovery m ≡ None → recover_start m ≡ stopped (refusal_answer 17)
unfolding recover_start
refused_start m e = rw e refl

module _ (other : List ℕ) where
  from_clear : (n : ℕ) (m : Memory) → records m.journal ≡ n
      → Goes other (beginning (Some (clear_stores 0 n))) m (clear_stores 0 n) (stopped (value_answer 0))
  from_clear zero m e = refl
  from_clear (suc n) m e = clear_all other (stopped (value_answer 0)) (suc n) 0 m (omega arith) e

  from-words : (ws : List Word) (n : ℕ) (m : Memory) → records m.journal ≡ n → Committed m.journal 0 ws → length ws < n
      → fits (length m.area) ws ≡ true
      → Goes other (beginning (Some (apply_stores ws ++ clear_stores 0 n))) m (apply_stores ws ++ clear_stores 0 n) (stopped (value_answer 0))
  from-words [] n m e h k f = from_clear n m e
  from-words (w ∷ ws) n m e h k f =
      let s : beginning (Some (apply_stores (w ∷ ws) ++ clear_stores 0 n)) ≡ stand (stopped (value_answer 0)) applying 0 0 0 = rw (← h.1) refl in
      rw s (goes_tail other (stopped (value_answer 0)) w ws n (length m.area) m h (fits_fine (length m.area) (w ∷ ws) m.journal 0 h f) refl k e)

  -- From where the decision begins, the steps of a recovery store exactly the rules' bytes, on any journal that is not refused.
  pub goes_recovery : (m : Memory) (l : List Store) → recovery m ≡ Some l → Goes other (recover_start m) m l (stopped (value_answer 0))
  unfolding recovery recover_start
  goes_recovery m l e = rw e (go (kinds_up_to 2 n j 0) (pending n j 0) refl e)
    where
      j : List ℕ
      j = m.journal

      n : ℕ
      n = records j

      go : (ok : Bool) (r : Option (List Word)) → pending n j 0 ≡ r → cond ok (recovery_of (length m.area) (clear_stores 0 n) r) None ≡ Some l
          → Goes other (beginning (Some l)) m l (stopped (value_answer 0))
      go false r er e = absurd (let z : ◌≡◌ {A = ℕ} 0 1 = cc in omega arith)
      go true None er e =
          let f : l ≡ clear_stores 0 n = cc in
          rw f (from_clear n m refl)
      go true (Some ws) er e = last (fits (length m.area) ws) refl e
        where
          last : (b : Bool) → fits (length m.area) ws ≡ b → cond b (Some (apply_stores ws ++ clear_stores 0 n)) None ≡ Some l
              → Goes other (beginning (Some l)) m l (stopped (value_answer 0))
          last false ef e = absurd (let z : ◌≡◌ {A = ℕ} 0 1 = cc in omega arith)
          last true ef e =
              let f : l ≡ apply_stores ws ++ clear_stores 0 n = cc in
              let h : Committed j 0 ws × (length ws < n) = pending_committed n j 0 ws er in
              rw f (from-words ws n m refl h.0 h.1 ef)

  -- so, run to the end, they come to what the rules say
  pub recover_is : (m : Memory) → to_end other (recover_start m) m ≡ recovered m
  unfolding recovered
  recover_is m = go (recovery m) refl
    where
      go : (o : Option (List Store)) → recovery m ≡ o → to_end other (recover_start m) m ≡ ended (recovery_answer o) (store_all (stores_of o) m)
      go None e = ap (λ (s : Steps). to_end other s m) (refused_start m e) ∙ to-end-rest other (stopped (refusal_answer 17)) m refl
      go (Some l) e = goes_end other l (recover_start m) m (value_answer 0) (goes_recovery m l e)

  -- cut after k steps, it has stored the first k bytes
  after-recovery : (k : ℕ) (m : Memory) → after_steps k other (recover_start m) m ≡ store_all (take k (stores_of (recovery m))) m
  unfolding recover_start
  after-recovery k m = go (recovery m) refl
    where
      go : (o : Option (List Store)) → recovery m ≡ o → after_steps k other (beginning (recovery m)) m ≡ store_all (take k (stores_of o)) m
      go None e = rw e (goes_after other k [] (beginning None) m _ refl)
      go (Some l) e = goes_after other k l (recover_start m) m (value_answer 0) (goes_recovery m l e)

  pub same_cuts : (ks : List ℕ) (m : Memory) → recoveries_stepped other ks m ≡ recoveries_cut ks m
  unfolding recoveries_stepped recoveries_cut
  same_cuts [] m = refl
  same_cuts (k ∷ ks) m = rw (after-recovery k m) (same_cuts ks (store_all (take k (stores_of (recovery m))) m))

pub recovery_goes : (m : Memory) → GoesAsRecovery m (recover_start m)
recovery_goes m other l e = goes_recovery other m l e

-- a recovery by the rules is one by steps
runs_to : (m : Memory) (x : List ℕ) (n : ℕ) → Recovers m x n → RunsTo m x n
runs_to m x n r = record {
  journal = (store_all r.stores m).journal;
  ends = λ other. goes_end other r.stores (recover_start m) m (value_answer 0) (goes_recovery other m r.stores r.accepted)
      ∙ ap (λ (a : List ℕ). ended (value_answer 0) (memory (store_all r.stores m).journal a)) r.area;
  whole = r.whole;
  empty = r.empty;
}

-- ---- the theorem

-- wherever an edit's steps begin, they have its answer
pub same_answer : (s : Steps) (len index word : ℕ) → (to_word s len index word).done ≡ s.done
same_answer s len index word = choose (λ (t : Steps). t.done ≡ s.done) (eqb word len) (λ _. refl) (λ _. refl)

-- The steps of an edit whose plan can be written, and which is not refused with 16, survive every cut.
pub survives : (content j old : List ℕ) (s : Steps) → can_write s (length old) (length content) ≡ true → Journals j old (after (plan_of s) old content)
    → Survives content j old (after (plan_of s) old content)
    (to_word s (length old) 0 (next_offset (length old) (changed_words old (after (plan_of s) old content))))
survives content j old s can r =
    let new : List ℕ = after (plan_of s) old content in
    let t : Steps = to_word s (length old) 0 (next_offset (length old) (changed_words old new)) in
    let g : Goes content t (memory j old) (edit_stores j old new) (stopped s.done) =
    goes_edit content s old can j r.small (has_room j old new r.accepted) in
    record {
      stores = rw (same_answer s (length old) 0 (next_offset (length old) (changed_words old new))) g;
      area = (uncut j old new r).area;
      cut = λ k ks other.
          rw (goes_after content k (edit_stores j old new) t (memory j old) s.done g, same_cuts other ks (cut_after k j old new))
          (runs_to _ _ _ (power_cut j old new r k ks));
    }

-- So do those of a plan, from where the edit begins.
pub edit_survives : (p : Plan) (content j old : List ℕ) → Writable p (length old) (length content) → p.checksum < 256 → p.alignment < 256
    → Journals j old (after p old content) → Survives content j old (after p old content) (edit_start p (after p old content) (memory j old))
unfolding edit_start
edit_survives p content j old w c a r =
    rw r.accepted (survives content j old (carrying p) (can_carry p (length old) (length content) w c a) r)
