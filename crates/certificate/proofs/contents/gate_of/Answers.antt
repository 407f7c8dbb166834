-- The kind decides, as in the rule; each limit is the float of its pattern.
use Rattle.certificate.proofs.Laws.{gate-kind}
use Rattle.certificate.proofs.contents.gate_of.Goals as goal

pub returns-in-Band : goal.returns-in-Band
returns-in-Band c = simp (gate-kind c.args.c _ _ c.try_from.ensures c.unwrap_or.ensures, c.in-Band.is, c.float-low.ensures, c.float-high.ensures)

pub returns-in-Ceiling : goal.returns-in-Ceiling
returns-in-Ceiling c = simp (gate-kind c.args.c _ _ c.try_from.ensures c.unwrap_or.ensures, c.in-Ceiling.is, c.float-high.ensures)

pub returns-in-Floor : goal.returns-in-Floor
returns-in-Floor c = simp (gate-kind c.args.c _ _ c.try_from.ensures c.unwrap_or.ensures, c.in-Floor.is, c.float-low.ensures)
