-- The smaller of the two lengths is the one that the test picks; a void's header covers 8 bytes at most.
use native.Mathlib.Omega.{arith}
use Rattle.plan.proofs.Laws.{header_span_le}
use Rattle.plan.proofs.sum.old_length.Goals as goal

pub overflow_add-len-4 : goal.overflow_add-len-4
overflow_add-len-4 c = omega (arith, (header_span_le c.args.p.behind).1)
