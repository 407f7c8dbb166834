-- A refusal is answered and leaves the bytes; a plan is written, and leaves the bytes that it comes to.
use mathlib.Core.Path.{subst}
use Rattle.laws.proofs.Exits.{passed_up}
use Rattle.plan.specs.Plan.{outcome_of, CanWrite}
use Rattle.plan.proofs.write.carry_out.Goals as goal

pub returns-in_err-p : goal.returns-in_err-p
unfolding outcome_of
returns-in_err-p c =
    let k = c.in_err-p.was in
    record { value = simp (passed_up c.from_residual.ensures.1, k); area_after = simp k }

pub write_plan-requires : goal.write_plan-requires
write_plan-requires c =
    subst (CanWrite _ _) c.in_ok-p.was c.requires

pub returns : goal.returns
unfolding outcome_of
returns c =
    let k = c.in_ok-p.was in
    record { value = simp k; area_after = simp (k, c.write_plan.ensures) }
