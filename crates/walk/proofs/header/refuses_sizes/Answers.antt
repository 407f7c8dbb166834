-- The tests are those of the rule, in its order; the first entry is at the place that `first_entry` gives.
use Rattle.walk.proofs.header.refuses_sizes.Goals as goal

pub returns : goal.returns
returns c =
    rw (c.first_entry.ensures, c.header_size-own.ensures)
