-- Only NOPs stand from the place up to where the loop is, so the first other number is the token.
use Rattle.std.proofs.Common.{◌-◌, ◌≤◌, length}
use Rattle.devicetree.proofs.TokenLaws.{Skipped}
use Rattle.devicetree.proofs.tokens.next_token.Given as goal

abbrev pub invariant-loop-p : goal.invariant-loop-p
invariant-loop-p l = (l.p ≤ length l.s) × Skipped l.s l.at l.p

abbrev pub decreases-loop-p : goal.decreases-loop-p
decreases-loop-p l = length l.s - l.p
