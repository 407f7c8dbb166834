-- How recovery's decision is come to, record by record from the last: what the code computes, and no rule of its own.
use Rattle.std.specs.Prelude.{ℕ, Bool, true, false, ◌&&◌, cond, List, eqb, Option, None, Some}
use Rattle.journal.specs.Journal.{Word, fits}
use Rattle.steps.specs.declared.Steps.{Steps}
use Rattle.steps.specs.declared.verdict.Verdict.{Verdict}
use Rattle.steps.specs.declared.verdict.Verdict.TheVariants.{Nothing, Fits, Misfits}
use Rattle.steps.specs.Steps.{stand, stopped, refusal_answer, value_answer, applying, clearing}

-- there is nothing to apply; words that fit; words of which some do not
abbrev pub verdict_of : ℕ → Option (List Word) → Verdict
verdict_of len None = Nothing
verdict_of len (Some ws) = cond (fits len ws) Fits Misfits

-- the verdict with a word in front that does not fit
abbrev pub with_misfit : Verdict → Verdict
with_misfit Nothing = Nothing
with_misfit Fits = Misfits
with_misfit Misfits = Misfits

-- the verdict with one record more in front
abbrev pub with_record : ℕ → Bool → Verdict → Verdict
with_record kind fits verdict = cond (eqb kind 1) (cond fits verdict (with_misfit verdict)) (cond (eqb kind 2) Fits Nothing)

abbrev pub misfits : Verdict → Bool
misfits Nothing = false
misfits Fits = false
misfits Misfits = true

abbrev pub all_fit : Verdict → Bool
all_fit Nothing = false
all_fit Fits = true
all_fit Misfits = false

-- where a recovery begins: kinds are low, so many whole records, the verdict, and whether the first record is a word
abbrev pub begin_with : Bool → ℕ → Verdict → Bool → Steps
begin_with low whole verdict word =
    cond low
    (cond (misfits verdict) (stopped (refusal_answer 17))
    (cond (eqb whole 0) (stopped (value_answer 0))
    (cond (all_fit verdict && word) (stand (stopped (value_answer 0)) applying 0 0 0) (stand (stopped (value_answer 0)) clearing 0 0 0))))
    (stopped (refusal_answer 17))
