-- The header is create's but for the two fields that are set.
use Rattle.rules.specs.Edition09.{grown_header}
use Rattle.convert.proofs.grown_header.Goals as goal

pub returns : goal.returns
unfolding grown_header
returns c = rw c.fresh.ensures
