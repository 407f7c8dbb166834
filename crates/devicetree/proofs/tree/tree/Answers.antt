-- Long enough for a header, the data is a tree exactly where its blocks are as the header says.
use native.Mathlib.Omega.{arith}
use Rattle.devicetree.specs.Decided.{no}
use Rattle.devicetree.proofs.TreeLaws.{tree_blocks}
use Rattle.devicetree.proofs.tree.tree.Goals as goal

pub returns-then-d-lt-SIZE : goal.returns-then-d-lt-SIZE
returns-then-d-lt-SIZE c = no (λ x. let l = x.long in omega arith)

pub returns : goal.returns
returns c = tree_blocks (omega arith) c.read.ensures c.blocks-2.ensures
