-- The invariant: low is the test of the records before the index. A turn adds one record behind them.
use Rattle.std.proofs.Common.{◌≡◌, ◌+◌, arith}
use Rattle.steps.proofs.Decision.{kinds_next}
use Rattle.steps.proofs.begin.kinds_up_to.Goals as goal

pub loop-i-preserved : goal.loop-i-preserved
loop-i-preserved c =
    let l = c.loop-i in
    let e : 0 + l.i ≡ l.i = omega arith in
    rw (c.kind.ensures, l.invariant) (rw e at (kinds_next c.args.most l.i 0 c.args.journal.now))
