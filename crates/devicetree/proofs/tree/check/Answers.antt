-- What `tree` says, as the number.
use Rattle.devicetree.proofs.Deciding.{said_yes, said_no}
use Rattle.devicetree.specs.Tree.{accepted, refused}
use Rattle.devicetree.proofs.tree.check.Goals as goal

pub returns-then-tree : goal.returns-then-tree
returns-then-tree c = accepted (said_yes c.tree.ensures c.if-tree.true)

pub returns-else-tree : goal.returns-else-tree
returns-else-tree c = refused (said_no c.tree.ensures c.if-tree.false)
