-- The two early answers are the two sums that could not be made; what is left is the rule itself.
use Prim.Native.Nat.{◌+◌}
use native.Mathlib.Omega.{arith}
use mathlib.Core.Bool.{or-true, or-false}
use borrow.Author.Tests.{lt-ltb, le-ltb}
use Rattle.rules.specs.Area.{max_address}
use Rattle.destination.proofs.refuses_target.Goals as goal

pub returns-then-len-gt-MAX_LENGTH : goal.returns-then-len-gt-MAX_LENGTH
returns-then-len-gt-MAX_LENGTH c = simp (lt-ltb _ _ c.if-len-gt-MAX_LENGTH.true, or-true)

pub returns-then-base-gt-MAX_ADDRESS : goal.returns-then-base-gt-MAX_ADDRESS
returns-then-base-gt-MAX_ADDRESS c =
    let a = c.args in
    simp (lt-ltb max_address (a.base + a.len) (omega arith))

pub returns : goal.returns
returns c = simp (le-ltb _ _ c.if-len-gt-MAX_LENGTH.false, or-false)
