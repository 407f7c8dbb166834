-- What the checks accept is admitted, with the header and the entry that they met.
use Rattle.std.proofs.Common.{sym, ◌∙◌}
use Rattle.laws.proofs.Check.{used-most}
use Rattle.walk.proofs.Survey as survey
use Rattle.edit.proofs.decide.Admitted.new.Goals as goal

pub invariant_of-list : goal.invariant_of-list
invariant_of-list c =
    let k = sym c.survey.ensures ∙ c.in_ok-survey.was in
    let m = survey.admitted _ _ _ _ k in
    record { read = m.header; within = rw m.header (used-most _ _ _ m.sound) }
