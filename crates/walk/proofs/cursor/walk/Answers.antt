-- The invariant: what was counted and remembered, with what the rest of the walk tells, is what the whole tells; each entry took eight bytes or more.
use Rattle.std.specs.Prelude.{Ok}
use Rattle.std.proofs.Common.{sym, ap, ◌∙◌, arith, rules}
use Rattle.laws.proofs.Exits.{passed_up}
use Rattle.walk.proofs.Steps.{step_tells, told_from, told-first, told-last, told-void, told-live}
use Rattle.walk.proofs.cursor.walk.Goals as goal

pub loop-e-init : goal.loop-e-init
loop-e-init c = rw (c.first_entry.ensures, c.new-m.ensures) (search rules, search rules, told-first _ _)

pub returns-in_err-e : goal.returns-in_err-e
unfolding told_from
returns-in_err-e c =
    let l = c.loop-e in
    let t = step_tells _ _ _ _ _ l.invariant.0 (sym c.step.ensures ∙ c.in_err-e.was) in
    rw (← l.invariant.2, t.0, passed_up c.from_residual.ensures.1, t.1)

pub loop-e-smaller-then-e-eq0 : goal.loop-e-smaller-then-e-eq0
loop-e-smaller-then-e-eq0 c =
    let t = step_tells _ _ _ _ _ c.loop-e.invariant.0 (sym c.step.ensures ∙ c.in_ok-e.was ∙ ap Ok c.in-Some.is) in
    omega arith

pub loop-e-preserved-then-e-eq0 : goal.loop-e-preserved-then-e-eq0
loop-e-preserved-then-e-eq0 c =
    let l = c.loop-e in
    let t = step_tells _ _ _ _ _ l.invariant.0 (sym c.step.ensures ∙ c.in_ok-e.was ∙ ap Ok c.in-Some.is) in (
      t.1,
      omega arith,
      rw c.with-m.ensures (sym (ap (told_from _ _ _ _) t.2 ∙ told-void _ _ _ _ _ _ c.if-e-eq0.true) ∙ l.invariant.2),
    )

pub loop-e-smaller : goal.loop-e-smaller
loop-e-smaller c =
    let t = step_tells _ _ _ _ _ c.loop-e.invariant.0 (sym c.step.ensures ∙ c.in_ok-e.was ∙ ap Ok c.in-Some.is) in
    omega arith

pub loop-e-preserved : goal.loop-e-preserved
loop-e-preserved c =
    let l = c.loop-e in
    let t = step_tells _ _ _ _ _ l.invariant.0 (sym c.step.ensures ∙ c.in_ok-e.was ∙ ap Ok c.in-Some.is) in (
      t.1,
      omega arith,
      rw c.with-m.ensures (sym (ap (told_from _ _ _ _) t.2 ∙ told-live _ _ _ _ _ _ c.if-e-eq0.false) ∙ l.invariant.2),
    )

pub returns : goal.returns
returns c =
    let l = c.loop-e in
    rw (← l.invariant.2, step_tells _ _ _ _ _ l.invariant.0 (sym c.step.ensures ∙ c.in_ok-e.was ∙ ap Ok c.in_default.is), told-last)
