-- The definition, by the same test; the shift makes the power of two.
use native.Mathlib.Omega.{arith}
use borrow.Author.Tests.{eq-eqb, ne_eqb}
use Rattle.laws.proofs.Power.{shifted}
use Rattle.edit.specs.Decide.{padding_for}
use Rattle.edit.proofs.Laws.{admitted}
use Rattle.edit.proofs.decide.Admitted.padding_for.Goals as goal

pub overflow_add-p : goal.overflow_add-p
overflow_add-p c =
    let m = admitted _ _ _ c.args.self.list.read c.args.self.admitted in
    omega (arith, m.sound.header.usable.reach)

pub overflow_add-p-2 : goal.overflow_add-p-2
overflow_add-p-2 c =
    let m = admitted _ _ _ c.args.self.list.read c.args.self.admitted in
    omega (arith, m.sound.header.usable.reach)

pub returns-then-p-eq0 : goal.returns-then-p-eq0
unfolding padding_for
returns-then-p-eq0 c =
    let e = shifted c.args.exponent c.requires in
    let z = rw e at c.if-p-eq0.true in
    rw (eq-eqb _ _ z)

pub returns : goal.returns
unfolding padding_for
returns c =
    let e = shifted c.args.exponent c.requires in
    let z = rw e at c.if-p-eq0.false in
    rw (e, ne_eqb _ _ z)
