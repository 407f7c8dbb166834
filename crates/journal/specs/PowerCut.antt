-- Document 02, request 9: what a power cut leaves. "Starting from an empty journal, a cut after any byte leaves something from which recovery,
-- itself cut any number of times and then run to its end, gives exactly the old area or the new one; the new one once the commit is stored."
use Rattle.std.specs.Prelude.{◌≡◌, ℕ, ◌*◌, ◌/◌, ◌^◌, ◌≤◌, ◌<◌, false, cond, List, [], ◌∷◌, length, take, get_or, ltb, Some}
use Rattle.journal.specs.Journal.{
  Store,
  Memory,
  memory,
  store_all,
  records,
  kind,
  edit_stores,
  commit_store,
  refuses_journal,
  recovery,
  stores_of,
}

-- an edit that can be journalled: as many bytes afterwards, which four bytes can count, those behind the last whole word as they were, and
-- not refused with 16, so that the journal is empty
pub record Journals (j old new : List ℕ) : Type 0 where
  pub size : length new ≡ length old
  pub small : length old ≤ 2 ^ 32
  pub rest : (p : ℕ) → length old / 8 * 8 ≤ p → get_or new p 0 ≡ get_or old p 0
  pub accepted : refuses_journal j old new ≡ false

-- the memory after a cut behind k stored bytes of the edit: only the first k of its stores were made
abbrev pub cut_after : ℕ → List ℕ → List ℕ → List ℕ → Memory
cut_after k j old new = store_all (take k (edit_stores j old new)) (memory j old)

-- and after recoveries, the first cut behind k stored bytes, each further one behind its own
unfoldable pub recoveries_cut : List ℕ → Memory → Memory
recoveries_cut [] m = m
recoveries_cut (k ∷ ks) m = recoveries_cut ks (store_all (take k (stores_of (recovery m))) m)

-- a recovery of m that runs to its end is not refused, gives the area x, and leaves the kinds of all n whole records 0
pub record Recovers (m : Memory) (x : List ℕ) (n : ℕ) : Type 0 where
  pub stores : List Store
  pub accepted : recovery m ≡ Some stores
  pub area : (store_all stores m).area ≡ x
  pub whole : records (store_all stores m).journal ≡ n
  pub empty : (i : ℕ) → i < n → kind (store_all stores m).journal i ≡ 0

-- The theorem: a cut after any number of stores, recoveries cut anywhere, then one that runs to its end: the old area where the commit's kind
-- was not stored, else the new one
abbrev pub PowerCut : Type 0
PowerCut =
    (j old new : List ℕ)
    → Journals j old new
    → (k : ℕ) (ks : List ℕ)
    → Recovers (recoveries_cut ks (cut_after k j old new)) (cond (ltb k (commit_store old new)) old new) (records j)

-- an edit that is not cut leaves the new area and an empty journal
pub record Finished (j old new : List ℕ) (m : Memory) : Type 0 where
  pub area : m.area ≡ new
  pub empty : (i : ℕ) → i < records j → kind m.journal i ≡ 0

abbrev pub Uncut : Type 0
Uncut = (j old new : List ℕ) → Journals j old new → Finished j old new (store_all (edit_stores j old new) (memory j old))
