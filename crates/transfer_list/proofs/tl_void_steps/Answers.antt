-- What was decided, reported.
use Rattle.steps.specs.Steps.{report}
use mathlib.Core.Path.{ap, ◌∙◌}
use Rattle.transfer_list.proofs.tl_void_steps.Goals as goal

pub returns : goal.returns
returns c =
    let s = c.void.ensures in
    record { value = c.report.ensures ∙ ap report s.value; begins = s.begins }
