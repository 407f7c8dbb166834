-- The name ends at the first zero byte; then the bytes up to it are compared.
use Rattle.std.proofs.Common.{arith}
use Rattle.devicetree.specs.Decided.{no}
use Rattle.devicetree.proofs.Deciding.{holds}
use Rattle.lookup.proofs.PathLaws.{unnamed, named_same, same_answers, ends-between}
use Rattle.lookup.proofs.names.named.Goals as goal

pub returns-in_default : goal.returns-in_default
returns-in_default c = no (unnamed c.first_zero.ensures c.in_default.is _)

pub slice_bounds-eq-count : goal.slice_bounds-eq-count
slice_bounds-eq-count c = let b = ends-between (holds c.first_zero.ensures c.in-Some.is) in omega arith

pub slice_bounds-eq-start : goal.slice_bounds-eq-start
slice_bounds-eq-start c = let b = ends-between (holds c.first_zero.ensures c.in-Some.is) in omega arith

pub slice_bounds-eq-end : goal.slice_bounds-eq-end
slice_bounds-eq-end c = let b = ends-between (holds c.first_zero.ensures c.in-Some.is) in omega arith

pub returns : goal.returns
returns c = named_same c.first_zero.ensures c.in-Some.is (same_answers c.eq.ensures)
