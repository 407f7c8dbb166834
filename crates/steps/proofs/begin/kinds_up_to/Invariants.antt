-- The invariant: low is the test of the records before the index.
use Rattle.std.proofs.Common.{◌≡◌}
use Rattle.journal.specs.Journal.{kinds_up_to}
use Rattle.steps.proofs.begin.kinds_up_to.Given as goal

abbrev pub invariant-loop-i : goal.invariant-loop-i
invariant-loop-i l = l.low ≡ kinds_up_to l.most l.i l.journal 0
