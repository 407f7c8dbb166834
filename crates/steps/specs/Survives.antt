-- Document 02, request 9, of the steps: what cuts between them leave. "Starting from an empty journal, a cut after any byte leaves something
-- from which recovery, itself cut any number of times and then run to its end, gives exactly the old area or the new one; the new one once the
-- commit is stored." The steps of a recovery take no data; whatever they are handed is not looked at.
use Rattle.std.specs.Prelude.{◌≡◌, ℕ, zero, suc, ◌<◌, cond, List, [], ◌∷◌, ltb, Some}
use Rattle.journal.specs.Journal.{Store, Memory, memory, store, store_all, records, kind, edit_stores, commit_store, recovery}
use Rattle.journal.specs.PowerCut.{Journals}
use Rattle.steps.specs.declared.Steps.{Steps}
use Rattle.steps.specs.Steps.{stopped, value_answer, stored, step_of, stepped, recover_start, ended, to_end}

-- from s at m the steps store exactly these bytes, one a step, and then stand at t: "steps of one stored byte each"
abbrev pub Goes : List ℕ → Steps → Memory → List Store → Steps → Type 0
Goes content s m [] t = s ≡ t
Goes content s m (x ∷ l) t = (stored (step_of content s m).store ≡ x ∷ []) × Goes content (step_of content s m).next (store x m) l t

-- the steps of a recovery of m, from s: the rules' stores, and then the end with its answer
abbrev pub GoesAsRecovery : Memory → Steps → Type 0
GoesAsRecovery m s = (other : List ℕ) (l : List Store) → recovery m ≡ Some l → Goes other s m l (stopped (value_answer 0))

-- the buffers after k steps
unfoldable pub after_steps : ℕ → List ℕ → Steps → Memory → Memory
after_steps zero content s m = m
after_steps (suc k) content s m = after_steps k content (step_of content s m).next (stepped content s m)

-- and after recoveries, each decided anew, the first cut after k steps, each further one after its own number
unfoldable pub recoveries_stepped : List ℕ → List ℕ → Memory → Memory
recoveries_stepped other [] m = m
recoveries_stepped other (k ∷ ks) m = recoveries_stepped other ks (after_steps k other (recover_start m) m)

-- a recovery of m, run to its end, answers 0, gives the area x, and leaves the kinds of all n whole records 0
pub record RunsTo (m : Memory) (x : List ℕ) (n : ℕ) : Type 0 where
  pub journal : List ℕ
  pub ends : (other : List ℕ) → to_end other (recover_start m) m ≡ ended (value_answer 0) (memory journal x)
  pub whole : records journal ≡ n
  pub empty : (i : ℕ) → i < n → kind journal i ≡ 0

-- the steps from s, in a journal j, make the new area out of the old one: they store exactly the rules' bytes, one a step, and the last of them
-- brings the end with its answer; these bytes give the new area; and cut anywhere they leave what recovers
pub record Survives (content j old new : List ℕ) (s : Steps) : Type 0 where
  pub stores : Goes content s (memory j old) (edit_stores j old new) (stopped s.done)
  pub area : (store_all (edit_stores j old new) (memory j old)).area ≡ new
  pub cut : (k : ℕ) (ks other : List ℕ)
      → RunsTo (recoveries_stepped other ks (after_steps k content s (memory j old))) (cond (ltb k (commit_store old new)) old new) (records j)

-- so do those of every edit that can be journalled
abbrev pub SurvivesWhereAccepted : List ℕ → List ℕ → List ℕ → List ℕ → Steps → Type 0
SurvivesWhereAccepted content j old new s = Journals j old new → Survives content j old new s
