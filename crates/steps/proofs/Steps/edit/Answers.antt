-- What the test tells of the plan.
use mathlib.Core.Path.{sym, ◌∙◌}
use native.Mathlib.Omega.{arith}
use Rattle.steps.proofs.Tests.{can}
use Rattle.steps.proofs.Steps.edit.Goals as goal

pub plan-requires : goal.plan-requires
plan-requires c =
    let t = can _ _ _ (sym c.can_write.ensures ∙ c.if-not-can_write.false) in (t.checksum, t.alignment)

pub invariant_of-result : goal.invariant_of-result
invariant_of-result c =
    let t = can _ _ _ (sym c.can_write.ensures ∙ c.if-not-can_write.false) in record { writable = rw c.plan.ensures (t.writable (omega arith)) }
