-- The answer in numbers of what `add_aligned` answers, and the bytes that it leaves; demand 3 follows from the two.
use mathlib.Core.Path.{ap, ◌∙◌}
use Rattle.rules.specs.Outcome.{done_answer}
use Rattle.rules.specs.Edit.{to_add_aligned}
use Rattle.demand3.proofs.Answered.{promised}
use Rattle.transfer_list.proofs.tl_add_aligned.Goals as goal

pub returns : goal.returns
returns c =
    let p = c.into.ensures ∙ ap done_answer c.add_aligned.ensures.value in
    promised (to_add_aligned _ _ _) _ _ _ _ p c.add_aligned.ensures.area_after
