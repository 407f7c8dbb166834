-- The answer of a survey is that of the check, whatever entry is wanted.
use Rattle.std.proofs.Common.{sym, ◌∙◌}
use Rattle.laws.proofs.Exits.{passed_up}
use Rattle.walk.proofs.Survey.{accepted_in, refused_in}
use Rattle.walk.proofs.check.check.Goals as goal

pub returns-in_err-survey : goal.returns-in_err-survey
returns-in_err-survey c =
    passed_up c.from_residual.ensures.1 ∙ sym (refused_in _ _ _ _ _ _ (sym c.survey.ensures ∙ c.in_err-survey.was))

pub returns : goal.returns
returns c = sym (accepted_in _ _ _ _ _ _ (sym c.survey.ensures ∙ c.in_ok-survey.was)).checked
