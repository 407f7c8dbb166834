-- Each function's measure is what is left of the structure. A node is its name and then its members; the loop over members keeps: a place
-- ends the members from `at` on exactly when it ends those from where the loop is.
use Rattle.std.proofs.Common.{◌≤◌, true, length, ◌-◌}
use Rattle.devicetree.specs.Structure.{Members}
use Rattle.devicetree.proofs.Deciding.{Same}
use Rattle.devicetree.proofs.blocks.Blocks.+members_node.Given as goal

abbrev pub decreases-members : goal.decreases-members
decreases-members l = length l.self.now.structure.now - l.at

abbrev pub decreases-node : goal.decreases-node
decreases-node l = length l.self.now.structure.now - l.at

abbrev pub invariant-members-loop-kind : goal.invariant-members-loop-kind
invariant-members-loop-kind l =
    let s = l.self.structure.now in
    let t = l.self.strings.now in
    (l.fn.at ≤ l.p) × Same (Members s t true l.depth l.fn.at) (Members s t l.properties l.depth l.p)

abbrev pub decreases-members-loop-kind : goal.decreases-members-loop-kind
decreases-members-loop-kind l = length l.self.structure.now - l.p
