-- The shift is the power of two, and the two answers are the rule's two cases.
use Prim.Native.Nat.{◌^◌, ◌≤◌}
use native.Mathlib.Omega.{arith}
use native.Mathlib.Nat.{div-mul-le_self}
use lib.Pow.{pow_pos, pow_mono}
use borrow.Author.Tests.{lt-ltb, le-ltb}
use Rattle.rules.specs.Relocate.{new_base}
use Rattle.laws.proofs.Power.{shifted}
use Rattle.destination.proofs.Laws.{block_near}
use Rattle.destination.proofs.new_base.Goals as goal

pub nonzero_div-candidate : goal.nonzero_div-candidate
nonzero_div-candidate c = rw (shifted c.args.alignment c.requires.0) (pow_pos _)

pub overflow_mul-candidate : goal.overflow_mul-candidate
overflow_mul-candidate c = rw (shifted c.args.alignment c.requires.0) (omega (arith, div-mul-le_self c.args.target (2 ^ c.args.alignment)))

pub nonzero_rem-candidate : goal.nonzero_rem-candidate
nonzero_rem-candidate c = rw (shifted c.args.alignment c.requires.0) (pow_pos _)

pub overflow_add-candidate : goal.overflow_add-candidate
overflow_add-candidate c =
    let a = c.args in
    let p : 2 ^ a.alignment ≤ 2 ^ 32 = pow_mono {j = 32} (omega arith) in
    rw (shifted a.alignment c.requires.0) (omega (arith, block_near (2 ^ a.alignment) a.base a.target (pow_pos a.alignment)))

pub overflow_add-result : goal.overflow_add-result
overflow_add-result c =
    let a = c.args in
    let p : 2 ^ a.alignment ≤ 2 ^ 32 = pow_mono {j = 32} (omega arith) in
    rw (shifted a.alignment c.requires.0) (omega (arith, block_near (2 ^ a.alignment) a.base a.target (pow_pos a.alignment)))

pub returns-then-candidate-target : goal.returns-then-candidate-target
unfolding new_base
returns-then-candidate-target c =
    let e = shifted c.args.alignment c.requires.0 in
    rw (e, lt-ltb _ _ (rw e at c.if-candidate-target.true))

pub returns : goal.returns
unfolding new_base
returns c =
    let e = shifted c.args.alignment c.requires.0 in
    rw (e, le-ltb _ _ (rw e at c.if-candidate-target.false))
