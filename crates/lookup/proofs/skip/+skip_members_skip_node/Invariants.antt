-- Each function's measure is what is left of the structure. The loop keeps: members from `at` on go on from where it is, whatever the strings
-- block.
use Rattle.std.proofs.Common.{◌≤◌, length, ◌-◌}
use Rattle.lookup.proofs.BehindLaws.{Goes}
use Rattle.lookup.proofs.skip.+skip_members_skip_node.Given as goal

abbrev pub decreases-skip_members : goal.decreases-skip_members
decreases-skip_members l = length l.s.now - l.at

abbrev pub decreases-skip_node : goal.decreases-skip_node
decreases-skip_node l = length l.s.now - l.at

abbrev pub invariant-skip_members-loop-kind : goal.invariant-skip_members-loop-kind
invariant-skip_members-loop-kind l = (l.fn.at ≤ l.p) × Goes l.s l.depth l.fn.at l.p

abbrev pub decreases-skip_members-loop-kind : goal.decreases-skip_members-loop-kind
decreases-skip_members-loop-kind l = length l.s - l.p
