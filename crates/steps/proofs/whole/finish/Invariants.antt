-- Each turn is a step, and comes nearer to the end.
use Rattle.steps.specs.Steps.{left, to_end}
use Rattle.journal.specs.Journal.{memory, records}
use mathlib.Core.Path.{◌≡◌}
use Rattle.steps.proofs.whole.finish.Given as goal

abbrev pub invariant-loop-area : goal.invariant-loop-area
invariant-loop-area l =
    to_end l.data l.initial.s (memory l.initial.journal l.initial.area) ≡ to_end l.data l.s (memory l.journal l.area)

abbrev pub decreases-loop-area : goal.decreases-loop-area
decreases-loop-area l = left (records l.journal) l.s
