-- The answer in numbers of what `convert` answers, and the bytes that it leaves; what holds of the new list follows from the two.
use mathlib.Core.Path.{ap, ◌∙◌}
use Rattle.rules.specs.Outcome.{done_answer}
use Rattle.demand3.proofs.Convert.{convert_promised}
use Rattle.transfer_list.proofs.tl09_convert.Goals as goal

pub returns : goal.returns
returns c =
    let p = c.into.ensures ∙ ap done_answer c.convert.ensures.value in
    convert_promised _ _ _ _ _ _ p c.convert.ensures.target_after
