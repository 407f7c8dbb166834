-- Recovery, cut anywhere and any number of times: from a settled memory it only clears, from a pending one it gives the new area.
use mathlib.Core.Path.{◌≡◌, refl, ap, ◌∙◌}
use Prim.Native.Nat.{ℕ, zero, suc, ◌+◌, ◌*◌, ◌≤◌, ◌<◌}
use native.Mathlib.Omega.{arith}
use mathlib.Core.Logic.{◌⊎◌, inl, inr}
use mathlib.Core.Bool.{true}
use Rattle.std.specs.Prelude.{None, Some}
use mathlib.Core.List.{List, [], ◌∷◌, ◌++◌, append-nil}
use lib.ListN.{length, take}
use lib.Seq.{take_all}
use Rattle.journal.specs.Journal.{
  Store,
  in_journal,
  in_area,
  Memory,
  store,
  store_all,
  rising,
  records,
  kind,
  Word,
  word_at,
  apply_stores,
  clear_stores,
  by_kind,
  pending,
  fits,
  recovery,
  stores_of,
}
use Rattle.journal.specs.PowerCut.{recoveries_cut, Recovers}
use Rattle.journal.proofs.Stores.{
  stores-append,
  Front,
  within,
  beyond,
  front,
  length-area,
  same_records,
  All,
  all_take,
  all_append,
  IsArea,
  IsJournal,
  journal_kept,
  area_kept,
  rising-area,
  again,
}
use Rattle.journal.proofs.Clearing.{Low, low_test, Zeroing, clear_zeroing, clear_journal, falls, get_or-set-zero, cleared}

-- ---- the words that a recovery finds

by_low : (k : ℕ) → k ≤ 1 → by_kind k None ≡ None
by_low zero h = refl
by_low (suc zero) h = refl
by_low (suc (suc k)) h = absurd (omega arith)

-- no commit: none
no_commit : (n : ℕ) (j : List ℕ) (i : ℕ) → Low (i + n) 1 j → pending n j i ≡ None
no_commit zero j i h = refl
no_commit (suc n) j i h = rw (no_commit n j (i + 1) (λ k g. h k (omega arith))) (by_low (kind j i) (h i (omega arith)))

-- the first record empty: none
empty-first : (n : ℕ) (j : List ℕ) → kind j 0 ≤ 0 → pending n j 0 ≡ None
empty-first zero j h = refl
empty-first (suc n) j h = let e : kind j 0 ≡ 0 = omega arith in rw e

-- the records from i on are these words and a commit
abbrev pub Committed : List ℕ → ℕ → List Word → Type 0
Committed j i [] = kind j i ≡ 2
Committed j i (w ∷ ws) = (kind j i ≡ 1) × (word_at j i ≡ w) × Committed j (i + 1) ws

pub pending-words : (ws : List Word) (n : ℕ) (j : List ℕ) (i : ℕ) → Committed j i ws → length ws < n → pending n j i ≡ Some ws
pending-words ws zero j i h g = absurd (omega arith)
pending-words [] (suc n) j i h g = rw h
pending-words (w ∷ ws) (suc n) j i h g = rw (h.0, pending-words ws n j (i + 1) h.2 (omega arith), h.1)

pub apply_area : (ws : List Word) → All IsArea (apply_stores ws)
apply_area [] = tt
apply_area (w ∷ ws) =
    all_append IsArea (rising in_area w.offset w.bytes) (apply_stores ws) (rising-area w.offset w.bytes) (apply_area ws)

-- ---- a settled memory

-- the area is x, and recovery only clears
pub record Settled (x : List ℕ) (n : ℕ) (m : Memory) : Type 0 where
  pub area : m.area ≡ x
  pub whole : records m.journal ≡ n
  pub low : Low n 2 m.journal
  pub calm : Low n 1 m.journal ⊎ (kind m.journal 0 ≤ 0)

module _ (x : List ℕ) (n : ℕ) (m : Memory) (s : Settled x n m) where
  settled_recovery : recovery m ≡ Some (clear_stores 0 n)
  unfolding recovery
  settled_recovery = rw (low_test 2 k m.journal 0 (λ i g. s.low i (omega (arith, s.whole))), none-pending s.calm, s.whole)
    where
      k : ℕ
      k = records m.journal

      none-pending : Low n 1 m.journal ⊎ (kind m.journal 0 ≤ 0) → pending (records m.journal) m.journal 0 ≡ None
      none-pending (inl h) = no_commit (records m.journal) m.journal 0 (λ i g. h i (omega (arith, s.whole)))
      none-pending (inr h) = empty-first (records m.journal) m.journal h

  -- some of the kinds cleared
  settled_clear : (ss : List Store) → All Zeroing ss → All IsJournal ss → Settled x n (store_all ss m)
  settled_clear ss z j = record {
    area = area_kept ss m j ∙ s.area;
    whole = same_records ss m ∙ s.whole;
    low = λ i q. falls ss m z (16 * i) 2 (s.low i q);
    calm = go s.calm;
  }
    where
      go : Low n 1 m.journal ⊎ (kind m.journal 0 ≤ 0) → Low n 1 (store_all ss m).journal ⊎ (kind (store_all ss m).journal 0 ≤ 0)
      go (inl h) = inl (λ i q. falls ss m z (16 * i) 1 (h i q))
      go (inr h) = inr (falls ss m z 0 0 h)

  settled_cut : (k : ℕ) → Settled x n (store_all (take k (stores_of (recovery m))) m)
  settled_cut k =
      rw settled_recovery
      (settled_clear (take k (clear_stores 0 n)) (all_take Zeroing k (clear_stores 0 n) (clear_zeroing 0 n))
      (all_take IsJournal k (clear_stores 0 n) (clear_journal 0 n)))

-- ---- a pending one

-- the journal has the words and the commit, and applying them gives the new area
pub record Pending (ws : List Word) (new : List ℕ) (n : ℕ) (m : Memory) : Type 0 where
  pub area : (store_all (apply_stores ws) m).area ≡ new
  pub whole : records m.journal ≡ n
  pub low : Low n 2 m.journal
  pub committed : Committed m.journal 0 ws
  pub room : length ws < n
  pub inside : fits (length m.area) ws ≡ true

module _ (ws : List Word) (new : List ℕ) (n : ℕ) (m : Memory) (p : Pending ws new n m) where
  pending-recovery : recovery m ≡ Some (apply_stores ws ++ clear_stores 0 n)
  unfolding recovery
  pending-recovery =
      let k : ℕ = records m.journal in
      rw (
        low_test 2 k m.journal 0 (λ i g. p.low i (omega (arith, p.whole))),
        pending-words ws k m.journal 0 p.committed (rw p.whole p.room),
        p.inside,
        p.whole,
      )

  -- the words applied in part
  pending-part : (k : ℕ) → Pending ws new n (store_all (take k (apply_stores ws)) m)
  pending-part k =
      let ss : List Store = take k (apply_stores ws) in
      let e : (store_all ss m).journal ≡ m.journal = journal_kept ss m (all_take IsArea k (apply_stores ws) (apply_area ws)) in
      record {
        area = ap (λ (z : Memory). z.area) (again (apply_stores ws) k m) ∙ p.area;
        whole = rw e p.whole;
        low = rw e p.low;
        committed = rw e p.committed;
        room = p.room;
        inside = rw (length-area ss m) p.inside;
      }

  -- the words applied, and the first kind cleared
  pending_cleared : (ss : List Store) → All Zeroing ss → All IsJournal ss → kind (store_all ss (store_all (apply_stores ws) m)).journal 0 ≤ 0
      → Settled new n (store_all ss (store_all (apply_stores ws) m))
  pending_cleared ss z j h =
      let m' : Memory = store_all (apply_stores ws) m in
      let e : m'.journal ≡ m.journal = journal_kept (apply_stores ws) m (apply_area ws) in
      record {
        area = area_kept ss m' j ∙ p.area;
        whole = same_records ss m' ∙ same_records (apply_stores ws) m ∙ p.whole;
        low = λ i q. falls ss m' z (16 * i) 2 (rw e (p.low i q));
        calm = inr h;
      }

first_cleared : (n k : ℕ) (m : Memory) → 0 < n → kind (store_all (take (suc k) (clear_stores 0 n)) m).journal 0 ≤ 0
first_cleared zero k m h = absurd (omega arith)
first_cleared (suc n) k m h =
    falls (take k (clear_stores 1 n)) (store (in_journal 0 0) m) (all_take Zeroing k (clear_stores 1 n) (clear_zeroing 1 n)) 0 0
    (get_or-set-zero m.journal 0)

-- ---- either, once the commit is stored

abbrev pub Between : List Word → List ℕ → ℕ → Memory → Type 0
Between ws new n m = Pending ws new n m ⊎ Settled new n m

-- a front part of the words' stores and the clearing
pub pending-stores : (ws : List Word) (new : List ℕ) (n : ℕ) (m : Memory) → Pending ws new n m → (k : ℕ)
    → Between ws new n (store_all (take k (apply_stores ws ++ clear_stores 0 n)) m)
pending-stores ws new n m p k = go (front k (apply_stores ws) (clear_stores 0 n))
  where
    ss : List Store
    ss = apply_stores ws

    go : Front k ss (clear_stores 0 n) → Between ws new n (store_all (take k (ss ++ clear_stores 0 n)) m)
    go (within e h) = rw e (inl (pending-part ws new n m p k))
    go (beyond zero e h) = rw (e, append-nil, ← take_all (length ss) ss (omega arith)) (inl (pending-part ws new n m p (length ss)))
    go (beyond (suc i) e h) =
        let c : List Store = clear_stores 0 n in
        rw (e, stores-append ss (take (suc i) c) m)
        (inr (pending_cleared ws new n m p (take (suc i) c) (all_take Zeroing (suc i) c (clear_zeroing 0 n))
        (all_take IsJournal (suc i) c (clear_journal 0 n)) (first_cleared n i (store_all ss m) (omega (arith, p.room)))))

between_cut : (ws : List Word) (new : List ℕ) (n : ℕ) (m : Memory) → Between ws new n m → (k : ℕ)
    → Between ws new n (store_all (take k (stores_of (recovery m))) m)
between_cut ws new n m (inl p) k = rw (pending-recovery ws new n m p) (pending-stores ws new n m p k)
between_cut ws new n m (inr s) k = inr (settled_cut new n m s k)

-- ---- recoveries cut, and the one that runs to its end

pub settled_cuts : (x : List ℕ) (n : ℕ) (ks : List ℕ) (m : Memory) → Settled x n m → Settled x n (recoveries_cut ks m)
unfolding recoveries_cut
settled_cuts x n [] m s = s
settled_cuts x n (k ∷ ks) m s = settled_cuts x n ks (store_all (take k (stores_of (recovery m))) m) (settled_cut x n m s k)

pub between_cuts : (ws : List Word) (new : List ℕ) (n : ℕ) (ks : List ℕ) (m : Memory) → Between ws new n m → Between ws new n (recoveries_cut ks m)
unfolding recoveries_cut
between_cuts ws new n [] m b = b
between_cuts ws new n (k ∷ ks) m b = between_cuts ws new n ks (store_all (take k (stores_of (recovery m))) m) (between_cut ws new n m b k)

zero_of : (k : ℕ) → k ≤ 0 → k ≡ 0
zero_of k h = omega arith

pub settled_end : (x : List ℕ) (n : ℕ) (m : Memory) → Settled x n m → Recovers m x n
settled_end x n m s = record {
  stores = clear_stores 0 n;
  accepted = settled_recovery x n m s;
  area = area_kept (clear_stores 0 n) m (clear_journal 0 n) ∙ s.area;
  whole = same_records (clear_stores 0 n) m ∙ s.whole;
  empty = λ i h. zero_of _ (cleared 0 n m i (omega arith) (omega arith));
}

pub between_end : (ws : List Word) (new : List ℕ) (n : ℕ) (m : Memory) → Between ws new n m → Recovers m new n
between_end ws new n m (inr s) = settled_end new n m s
between_end ws new n m (inl p) =
    let m' : Memory = store_all (apply_stores ws) m in
    let e : store_all (apply_stores ws ++ clear_stores 0 n) m ≡ store_all (clear_stores 0 n) m' = stores-append (apply_stores ws) (clear_stores 0 n) m in
    record {
      stores = apply_stores ws ++ clear_stores 0 n;
      accepted = pending-recovery ws new n m p;
      area = rw e (area_kept (clear_stores 0 n) m' (clear_journal 0 n) ∙ p.area);
      whole = same_records (apply_stores ws ++ clear_stores 0 n) m ∙ p.whole;
      empty = λ i h. rw e (zero_of _ (cleared 0 n m' i (omega arith) (omega arith)));
    }
