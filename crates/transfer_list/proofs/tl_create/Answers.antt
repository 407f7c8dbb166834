-- The answer in numbers of what `create` answers, and the bytes that it leaves.
use mathlib.Core.Path.{ap, ◌∙◌}
use Rattle.rules.specs.Outcome.{done_answer}
use Rattle.transfer_list.proofs.tl_create.Goals as goal

pub returns : goal.returns
returns c = record { value = c.into.ensures ∙ ap done_answer c.create.ensures.value; area_after = c.create.ensures.area_after }
