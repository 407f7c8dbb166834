-- The numbers of phases, kinds and refusals, and what is refused in place of a step.
use Rattle.std.specs.Prelude.{ℕ, Result, Ok, Err, None}
use Rattle.steps.specs.declared.codes.Phase.{Phase}
use Rattle.steps.specs.declared.codes.Phase.TheVariants.{Writing, Committing, Applying, Clearing, End}
use Rattle.steps.specs.declared.codes.Kind.{Kind}
use Rattle.steps.specs.declared.codes.Kind.TheVariants.{Empty, Word, Commit}
use Rattle.steps.specs.declared.codes.Refusal.{Refusal}
use Rattle.steps.specs.declared.codes.Refusal.TheVariants.{NoRoom, Foreign}
use Rattle.steps.specs.declared.Step.{Step}
use Rattle.steps.specs.Steps.{writing, committing, applying, clearing, at_end, stopped, refusal_answer}

abbrev pub phase_number : Phase → ℕ
phase_number Writing = writing
phase_number Committing = committing
phase_number Applying = applying
phase_number Clearing = clearing
phase_number End = at_end

abbrev pub kind_number : Kind → ℕ
kind_number Empty = 0
kind_number Word = 1
kind_number Commit = 2

abbrev pub refusal_number : Refusal → ℕ
refusal_number NoRoom = 16
refusal_number Foreign = 17

-- a refused step stores nothing and is the end
abbrev pub or_refused : Result Step Refusal → Step
or_refused (Ok s) = s
or_refused (Err r) = record { store = None; next = stopped (refusal_answer (refusal_number r)) }
