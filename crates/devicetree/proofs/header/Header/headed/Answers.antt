-- The three tests, one after the other.
use Rattle.devicetree.proofs.header.Header.headed.Goals as goal

pub returns : goal.returns
returns c = simp (c.identified.ensures, c.ordered.ensures, c.aligned.ensures)
