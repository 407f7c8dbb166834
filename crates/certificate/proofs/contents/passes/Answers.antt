-- Case by case the comparisons are the rule's.
use Rattle.rules.specs.Certificate.{passes}
use Rattle.certificate.proofs.contents.passes.Goals as goal

pub returns-in-Band : goal.returns-in-Band
unfolding passes
returns-in-Band c = simp c.in-Band.is

pub returns-in-Ceiling : goal.returns-in-Ceiling
unfolding passes
returns-in-Ceiling c = simp c.in-Ceiling.is

pub returns-in-Floor : goal.returns-in-Floor
unfolding passes
returns-in-Floor c = simp c.in-Floor.is
