-- Every field is the number that the rule gives; has_checksum as a number is 1 or 0.
use Rattle.rules.specs.Header.{fresh_header}
use Rattle.rules.proofs.Bools.{as_number}
use Rattle.rules.proofs.Header.fresh.Goals as goal

pub returns : goal.returns
unfolding fresh_header
returns c = rw (c.into.ensures, as_number)
