-- Document 02, request 9: "Beside the plain calls, add forms of add, add aligned and void with a journal in a second lent buffer." What a form
-- answers and leaves, of an edit e of the list a at base with the journal j; and where its steps begin.
use Rattle.rules.specs.declared.Refusal.{Refusal}
use Rattle.std.specs.Prelude.{Err, Ok, Result, ◌≡◌, ℕ, ◌≤◌, false, cond, List, length}
use Rattle.rules.specs.Outcome.{Outcome, refused, done, done_answer}
use Rattle.rules.specs.Edit.{Edit, run}
use Rattle.journal.specs.Journal.{Memory, memory, store_all, changed_words, edit_stores, refuses_journal}
use Rattle.journal.specs.PowerCut.{Journals}
use Rattle.plan.specs.declared.Plan.{Plan}
use Rattle.plan.specs.Plan.{after}
use Rattle.edit.specs.Decide.{content_of, plan_for}
use Rattle.steps.specs.declared.Steps.{Steps}
use Rattle.steps.specs.Steps.{stopped, value_answer, refusal_answer, edit_start, Ended, ended, to_end}
use Rattle.steps.specs.Survives.{Survives, SurvivesWhereAccepted}

-- ---- the whole form

-- what the form of an edit that comes to o answers and leaves: the plain call's refusals, then "Refusal 16, after all others", and a refusal
-- changes neither buffer; else the plain call's value, and the stores of the edit that makes its new area
abbrev pub journalled : Outcome → Memory → Ended
journalled (refused r) m = ended (done_answer (Err r)) m
journalled (done value new) m =
    cond (refuses_journal m.journal m.area new) (ended (refusal_answer 16) m)
    (ended (value_answer value) (store_all (edit_stores m.journal m.area new) m))

-- ---- its steps

-- where the steps of an edit that comes to o begin, with its plan
abbrev pub start_of : Outcome → Plan → Memory → Steps
start_of (refused r) p m = stopped (done_answer (Err r))
start_of (done value new) p m = edit_start p new m

-- those of an edit e of the list a at base, with the journal j
abbrev pub start_for : Edit → List ℕ → List ℕ → ℕ → Steps
start_for e j a base = start_of (run e a base) (plan_for e a base) (memory j a)

-- what holds of them where the plain call gives this value and this area and 16 does not come: the journal takes the edit, so that `PowerCut`
-- speaks of it; at least one word changes, so that fewer than two whole records are always too few; the state has the plain call's value; and
-- the steps make its area, and survive every cut
pub record Begun (e : Edit) (j a : List ℕ) (base value : ℕ) (new : List ℕ) : Type 0 where
  pub journals : Journals j a new
  pub words : 1 ≤ length (changed_words a new)
  pub answers : (start_for e j a base).done ≡ value_answer value
  pub survives : Survives (content_of e) j a new (start_for e j a base)

abbrev pub Begins : Edit → List ℕ → List ℕ → ℕ → Type 0
Begins e j a base =
    (value : ℕ) (new : List ℕ) → run e a base ≡ done value new → refuses_journal j a new ≡ false → Begun e j a base value new

-- what a whole form answers and leaves, x, is the rules'; it "equals its steps run to the end"; and the area of a finished edit is the plain
-- call's, so that "The third demand reads the area after a finished edit."
pub record Journalled (e : Edit) (j a : List ℕ) (base : ℕ) (x : Ended) : Type 0 where
  pub ruled : x ≡ journalled (run e a base) (memory j a)
  pub stepped : x ≡ to_end (content_of e) (start_for e j a base) (memory j a)
  pub new : x.done.number ≡ 0 → run e a base ≡ done x.done.value x.buffers.area

-- ---- for the code

-- where what was decided begins
abbrev pub start_planned : List ℕ → Result Plan Refusal → Memory → Steps
start_planned content (Ok p) m = edit_start p (after p m.area content) m
start_planned content (Err r) m = stopped (done_answer (Err r))

-- and survives
abbrev pub SurvivesPlanned : List ℕ → Result Plan Refusal → Memory → Steps → Type 0
SurvivesPlanned content (Ok p) m s = SurvivesWhereAccepted content m.journal m.area (after p m.area content) s
SurvivesPlanned content (Err r) m s = Unit
