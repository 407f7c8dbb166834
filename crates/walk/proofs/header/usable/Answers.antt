-- The two early answers are the two sums that could not be made; what is left is the rule itself.
use Rattle.std.proofs.Common.{◌+◌, arith, le-leb}
use mathlib.Core.Bool.{and-false, and-true}
use borrow.Author.Tests.{lt-leb}
use Rattle.rules.specs.Area.{max_address}
use Rattle.walk.proofs.header.usable.Goals as goal

pub returns-then-len-gt-MAX_LENGTH : goal.returns-then-len-gt-MAX_LENGTH
returns-then-len-gt-MAX_LENGTH c = simp (lt-leb _ _ c.if-len-gt-MAX_LENGTH.true, and-false)

pub returns-then-base-gt-MAX_ADDRESS : goal.returns-then-base-gt-MAX_ADDRESS
returns-then-base-gt-MAX_ADDRESS c =
    let a = c.args in
    simp (lt-leb (a.base + a.len) max_address (omega arith), and-false)

pub returns : goal.returns
returns c = simp (le-leb _ _ c.if-len-gt-MAX_LENGTH.false, and-true)
