-- From the last record to the first: each turn adds one record in front.
use native.Mathlib.Omega.{arith}
use Rattle.journal.specs.Journal.{records}
use Rattle.steps.proofs.Decision.{verdict_back}
use Rattle.steps.proofs.begin.verdict.Goals as goal

pub loop-i-preserved : goal.loop-i-preserved
loop-i-preserved c =
    let j = c.args.journal.now in
    let l = c.loop-i in
    rw c.with_record-v.ensures
    (verdict_back c.args.len (records j) l.i l.v j (omega arith) (omega arith) l.invariant)
