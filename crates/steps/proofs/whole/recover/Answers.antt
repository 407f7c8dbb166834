-- The decision, and the steps to the end.
use Rattle.steps.proofs.Power.{recover_is}
use Rattle.steps.specs.Steps.{to_end}
use Rattle.steps.specs.declared.Steps.{Steps}
use Rattle.journal.specs.Journal.{memory}
use mathlib.Core.List.{[]}
use mathlib.Core.Path.{ap, ◌∙◌}
use Rattle.steps.proofs.whole.recover.Goals as goal

pub returns : goal.returns
returns c =
    let a = c.args in
    let m = memory a.journal.now a.area.now in
    let e = c.finish.ensures ∙ ap (λ (s : Steps). to_end [] s m) c.recover_start-s.ensures.value in
    record { area_after = e ∙ recover_is [] m; by_steps = e }
