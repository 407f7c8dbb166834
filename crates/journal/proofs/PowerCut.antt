-- Request 9's theorem: a cut anywhere in the edit, then recoveries cut anywhere, then one that runs to its end.
use mathlib.Core.Path.{◌≡◌, refl, sym, ap, ◌∙◌}
use Prim.Native.Nat.{ℕ, ◌+◌, ◌*◌, ◌/◌, ◌≤◌, ◌<◌}
use native.Mathlib.Omega.{arith}
use native.Mathlib.Decide.{dec_le}
use native.Mathlib.Nat.{lt_of_not-le}
use mathlib.Core.Logic.{inl}
use mathlib.Core.Bool.{Bool, true, false, not, ◌||◌, cond}
use mathlib.Core.List.{List, ◌++◌}
use lib.ListN.{length, take}
use lib.Seq.{ext_get_or, take_all}
use lib.Dec.{ltb, leb}
use borrow.Author.Tests.{lt-ltb, le-ltb, leb-false}
use Rattle.wire.proofs.Apart.{apart}
use Rattle.journal.specs.Journal.{
  Store,
  Memory,
  memory,
  store_all,
  records,
  Word,
  words_from,
  changed_words,
  journal_stores,
  apply_stores,
  clear_stores,
  edit_stores,
  commit_store,
  kinds_up_to,
  refuses_journal,
}
use Rattle.journal.specs.PowerCut.{Journals, cut_after, recoveries_cut, Recovers, PowerCut, Finished, Uncut}
use Rattle.journal.proofs.Stores.{
  stores-append,
  Front,
  within,
  beyond,
  front,
  length-area,
  same_records,
  all_take,
  IsJournal,
  area_kept,
  area_same,
}
use Rattle.journal.proofs.Clearing.{Low, test_low, safe_low, clear_journal, cleared}
use Rattle.journal.proofs.Recovery.{
  Settled,
  Pending,
  Between,
  pending-stores,
  settled_cuts,
  between_cuts,
  settled_end,
  between_end,
}
use Rattle.journal.proofs.Records.{AllFine, only-journal, journal_safe, count_journal, no_commit_yet, journal_committed}
use Rattle.journal.proofs.Words.{words_fine, fine_fits, Mixed, applied}

-- ---- an edit that is not refused with 16

-- has a record for each word and one for the commit
pub has_room : (j old new : List ℕ) → refuses_journal j old new ≡ false → length (changed_words old new) < records j
unfolding refuses_journal
has_room j old new e = leb-false (records j) (length (changed_words old new)) (go (kinds_up_to 0 (records j) j 0) e)
  where
    go : (b : Bool) → (not b || leb (records j) (length (changed_words old new))) ≡ false → leb (records j) (length (changed_words old new)) ≡ false
    go true e = e
    go false e = apart cc

-- and an empty journal
pub is-empty : (j old new : List ℕ) → refuses_journal j old new ≡ false → kinds_up_to 0 (records j) j 0 ≡ true
unfolding refuses_journal
is-empty j old new e = go (kinds_up_to 0 (records j) j 0) e
  where
    go : (b : Bool) → (not b || leb (records j) (length (changed_words old new))) ≡ false → b ≡ true
    go true e = refl
    go false e = apart cc

pub changed_fine : (old new : List ℕ) → AllFine (length old) (changed_words old new)
unfolding changed_words
changed_fine old new = words_fine (length old / 8) 0 old new refl (omega arith)

module _ (j old new : List ℕ) (r : Journals j old new) where
  fine : AllFine (length old) (changed_words old new)
  fine = changed_fine old new

  room : length (changed_words old new) < records j
  room = has_room j old new r.accepted

  empty : Low (records j) 0 j
  empty i h = test_low 0 (records j) j 0 (is-empty j old new r.accepted) i (omega arith) (omega arith)

  -- the words applied to the old area give the new one
  pub words_give : (store_all (apply_stores (changed_words old new)) (memory j old)).area ≡ new
  unfolding changed_words
  words_give =
      let n : ℕ = length old / 8 in
      let l : List Store = apply_stores (words_from n 0 old new) in
      let x : List ℕ = (store_all l (memory j old)).area in
      let f : Mixed old new (0 + 8 * n) x =
      applied n 0 old new (memory j old) (omega arith) (record { below = λ p h. absurd (omega arith); above = λ p h. refl }) in
      ext_get_or 0 x new (length-area l (memory j old) ∙ sym r.size)
      (λ p h. elim (dec_le (0 + 8 * n) p) [ yes q ↦ f.above p q ∙ sym (r.rest p (omega arith)) | no q ↦ f.below p (lt_of_not-le q) ])

  -- before the commit's kind is stored
  early : (k : ℕ) → k < commit_store old new → Settled old (records j) (store_all (take k (journal_stores 0 (changed_words old new))) (memory j old))
  early k h =
      let c : List Word = changed_words old new in
      let l : List Store = take k (journal_stores 0 c) in
      let low : Low (records j) 1 (store_all l (memory j old)).journal =
      safe_low (records j) 1 l (memory j old) (no_commit_yet (length old) c 0 k fine h) (λ i q. omega (arith, empty i q)) in
      record {
        area = area_kept l (memory j old) (all_take IsJournal k (journal_stores 0 c) (only-journal 0 c));
        whole = same_records l (memory j old);
        low = λ i q. omega (arith, low i q);
        calm = inl low;
      }

  -- once it is
  committed : Pending (changed_words old new) new (records j) (store_all (journal_stores 0 (changed_words old new)) (memory j old))
  committed =
      let c : List Word = changed_words old new in
      let l : List Store = journal_stores 0 c in
      let keep : (store_all l (memory j old)).area ≡ old = area_kept l (memory j old) (only-journal 0 c) in
      record {
        area = area_same (apply_stores c) (store_all l (memory j old)) (memory j old) keep ∙ words_give;
        whole = same_records l (memory j old);
        low = safe_low (records j) 2 l (memory j old) (journal_safe (length old) 0 c fine) (λ i q. omega (arith, empty i q));
        committed = journal_committed (length old) c 0 (memory j old) fine r.small (omega (arith, room));
        room = room;
        inside = rw keep (fine_fits (length old) c fine);
      }

  cut_edit : (k : ℕ) (ks : List ℕ)
      → Recovers (recoveries_cut ks (cut_after k j old new)) (cond (ltb k (commit_store old new)) old new) (records j)
  unfolding edit_stores
  cut_edit k ks = go (front k l (apply_stores c ++ clear_stores 0 n))
    where
      c : List Word
      c = changed_words old new

      n : ℕ
      n = records j

      m : Memory
      m = memory j old

      l : List Store
      l = journal_stores 0 c

      count : length l ≡ 16 * (length c + 1)
      count = count_journal (length old) 0 c fine

      late : (i : ℕ) → 16 * (length c + 1) ≤ k → Between c new n (store_all (take i (apply_stores c ++ clear_stores 0 n)) (store_all l m))
          → store_all (take k (l ++ (apply_stores c ++ clear_stores 0 n))) m ≡ store_all (take i (apply_stores c ++ clear_stores 0 n)) (store_all l m)
          → Recovers (recoveries_cut ks (store_all (take k (l ++ (apply_stores c ++ clear_stores 0 n))) m)) (cond (ltb k (16 * (length c + 1))) old new) n
      late i h b e = rw (le-ltb k (16 * (length c + 1)) h, e) (between_end c new n _ (between_cuts c new n ks _ b))

      go : Front k l (apply_stores c ++ clear_stores 0 n)
          → Recovers (recoveries_cut ks (store_all (take k (l ++ (apply_stores c ++ clear_stores 0 n))) m)) (cond (ltb k (16 * (length c + 1))) old new) n
      go (within e h) = elim (dec_le (16 * (length c + 1)) k) [
        | yes q ↦ late 0 q (pending-stores c new n (store_all l m) committed 0)
            (ap (λ (z : List Store). store_all z m) (e ∙ take_all k l (omega (arith, count))))
        | no q ↦ let lt : k < 16 * (length c + 1) = lt_of_not-le q in
            rw (lt-ltb k (16 * (length c + 1)) lt, e) (settled_end old n _ (settled_cuts old n ks _ (early k lt)))
      ]
      go (beyond i e h) = late i (omega (arith, h, count)) (pending-stores c new n (store_all l m) committed i)
          (ap (λ (z : List Store). store_all z m) e ∙ stores-append l (take i (apply_stores c ++ clear_stores 0 n)) m)

  whole_edit : Finished j old new (store_all (edit_stores j old new) (memory j old))
  unfolding edit_stores
  whole_edit =
      let c : List Word = changed_words old new in
      let l : List Store = journal_stores 0 c in
      let m : Memory = store_all l (memory j old) in
      let n : ℕ = records j in
      let e : store_all (l ++ (apply_stores c ++ clear_stores 0 n)) (memory j old) ≡ store_all (clear_stores 0 n) (store_all (apply_stores c) m) =
      stores-append l (apply_stores c ++ clear_stores 0 n) (memory j old) ∙ stores-append (apply_stores c) (clear_stores 0 n) m in
      rw e (record {
        area = area_kept (clear_stores 0 n) (store_all (apply_stores c) m) (clear_journal 0 n) ∙ committed.area;
        empty = λ i h. zero (cleared 0 n (store_all (apply_stores c) m) i (omega arith) (omega arith));
      })
    where
      zero : {k : ℕ} → k ≤ 0 → k ≡ 0
      zero h = omega arith

-- The theorem.
pub power_cut : PowerCut
power_cut j old new r k ks = cut_edit j old new r k ks

-- An edit that is not cut is finished.
pub uncut : Uncut
uncut j old new r = whole_edit j old new r
