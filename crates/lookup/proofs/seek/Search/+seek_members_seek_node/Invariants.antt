-- Each function's measure is what is left of the structure. The loop keeps: what is left from where it is answers for all the members, whatever
-- the path's names and the derivation.
use Rattle.std.proofs.Common.{◌≤◌, length, ◌-◌}
use Rattle.lookup.proofs.SeekLaws.{Goes}
use Rattle.lookup.proofs.seek.Search.+seek_members_seek_node.Given as goal

abbrev pub decreases-members : goal.decreases-members
decreases-members l = length l.self.now.blocks.structure.now - l.at

abbrev pub decreases-node : goal.decreases-node
decreases-node l = length l.self.now.blocks.structure.now - l.at

abbrev pub invariant-members-loop-kind : goal.invariant-members-loop-kind
invariant-members-loop-kind l =
    let b = l.self.blocks in
    (l.fn.at ≤ l.p) × Goes b.structure.now b.strings.now l.depth l.fn.at l.p l.path l.self.name.now

abbrev pub decreases-members-loop-kind : goal.decreases-members-loop-kind
decreases-members-loop-kind l = length l.self.blocks.structure.now - l.p
