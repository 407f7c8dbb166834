-- What was decided, reported.
use Rattle.steps.proofs.Ends.{reported}
use Rattle.steps.specs.Survives.{GoesAsRecovery}
use Rattle.steps.specs.declared.Stepped.{Stepped}
use mathlib.Core.Path.{ap, sym, ◌∙◌, subst}
use Rattle.steps.specs.Steps.{report}
use mathlib.Core.Path.{ap, ◌∙◌}
use Rattle.transfer_list.proofs.tl_recover_steps.Goals as goal

pub returns : goal.returns
returns c =
    let s = c.recover_start.ensures in
    let e = c.report.ensures in record {
      value = e ∙ ap report s.value;
      goes_as_recovery = subst (GoesAsRecovery _) (sym (ap (λ (r : Stepped). r.state) e ∙ reported _)) s.goes_as_recovery;
    }
