-- From the last record to the first: each turn adds one record in front.
use Rattle.steps.specs.Begin.{verdict_of}
use Rattle.journal.specs.Journal.{records, pending}
use Prim.Native.Nat.{◌-◌}
use mathlib.Core.Path.{◌≡◌}
use Rattle.steps.proofs.begin.verdict.Given as goal

abbrev pub invariant-loop-i : goal.invariant-loop-i
invariant-loop-i l = l.v ≡ verdict_of l.len (pending (records l.journal - l.i) l.journal l.i)
