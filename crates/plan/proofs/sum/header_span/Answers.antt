-- By the test n < 8, as in the definition.
use native.Mathlib.Omega.{arith}
use borrow.Author.Tests.{lt-ltb, le-ltb}
use Rattle.plan.proofs.sum.header_span.Goals as goal

pub returns-then-n-lt8 : goal.returns-then-n-lt8
returns-then-n-lt8 c = rw (lt-ltb c.args.n 8 (omega arith))

pub returns : goal.returns
returns c = rw (le-ltb c.args.n 8 (omega arith))
