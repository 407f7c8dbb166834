-- The answer in numbers of what `find` answers.
use mathlib.Core.Path.{ap, ◌∙◌}
use Rattle.rules.specs.Find.{find_answer}
use Rattle.transfer_list.proofs.tl_find.Goals as goal

pub returns : goal.returns
returns c = c.into.ensures ∙ ap find_answer c.find.ensures
