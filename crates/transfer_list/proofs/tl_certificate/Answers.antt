-- The answer in numbers of what `certify` answers.
use mathlib.Core.Path.{ap, ◌∙◌}
use Rattle.rules.specs.Certificate.{certified_answer}
use Rattle.transfer_list.proofs.tl_certificate.Goals as goal

pub returns : goal.returns
returns c = c.into.ensures ∙ ap certified_answer c.certify.ensures
