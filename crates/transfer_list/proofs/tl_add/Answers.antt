-- The answer in numbers of what `add` answers, and the bytes that it leaves; demand 3 follows from the two.
use mathlib.Core.Path.{ap, ◌∙◌}
use Rattle.rules.specs.Outcome.{done_answer}
use Rattle.rules.specs.Edit.{to_add}
use Rattle.demand3.proofs.Answered.{promised}
use Rattle.transfer_list.proofs.tl_add.Goals as goal

pub returns : goal.returns
returns c =
    let p = c.into.ensures ∙ ap done_answer c.add.ensures.value in
    promised (to_add _ _ _) _ _ _ _ p c.add.ensures.area_after
