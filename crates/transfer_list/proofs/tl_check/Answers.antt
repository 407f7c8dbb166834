-- The answer in numbers of what `check` answers.
use mathlib.Core.Path.{ap, ◌∙◌}
use Rattle.rules.specs.Check.{check_answer}
use Rattle.transfer_list.proofs.tl_check.Goals as goal

pub returns : goal.returns
returns c = c.into.ensures ∙ ap check_answer c.check.ensures
