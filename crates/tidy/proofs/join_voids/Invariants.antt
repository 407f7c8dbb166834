-- The invariant: what the walk has written and what is left to it make up the whole. A void is left for its run's end; before a live entry
-- the run is written.
use Prim.Native.Nat.{◌-◌, ◌≤◌}
use Rattle.tidy.proofs.Laws.{Left}
use Rattle.tidy.proofs.join_voids.Given as goal

abbrev pub invariant-loop-at : goal.invariant-loop-at
invariant-loop-at l = (l.at ≤ l.used) × Left l.used l.initial.a l.a l.end l.at

abbrev pub decreases-loop-at : goal.decreases-loop-at
decreases-loop-at l = l.used - l.at
