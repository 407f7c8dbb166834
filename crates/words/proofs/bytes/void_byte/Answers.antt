-- Fewer than 8 bytes have no header; else header_byte gives its bytes.
use native.Mathlib.Omega.{arith}
use Rattle.plan.proofs.Laws.{no_header, some-header}
use Rattle.words.proofs.bytes.void_byte.Goals as goal

pub returns-then-n-lt8 : goal.returns-then-n-lt8
returns-then-n-lt8 c = rw (no_header c.args.n (omega arith))

pub returns : goal.returns
returns c = rw (some-header c.args.n (omega arith)) c.header_byte.ensures
