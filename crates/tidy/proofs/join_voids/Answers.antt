-- The invariant: what the walk has written and what is left to it make up the whole. A void is left for its run's end; before a live entry
-- the run is written.
use Rattle.std.proofs.Common.{◌≡◌, refl, subst, arith}
use Rattle.laws.proofs.Row.{row_le}
use Rattle.tidy.proofs.Laws.{Left, left-first, left-last, step-fits, step-void, step-live}
use Rattle.tidy.proofs.join_voids.Goals as goal

pub loop-at-init : goal.loop-at-init
loop-at-init c = (row_le _ _ _ _ c.requires.0, left-first _ _ c.requires.0 c.requires.1)

pub entry_at-e-requires : goal.entry_at-e-requires
entry_at-e-requires c =
    let l = c.loop-at in
    omega (arith, step-fits _ _ _ _ _ c.loop-at-test.true _ _ refl refl l.invariant.1, l.invariant.1.1.top)

pub loop-at-preserved-then-e-ne0 : goal.loop-at-preserved-then-e-ne0
loop-at-preserved-then-e-ne0 c =
    let i = c.loop-at.invariant.1 in (
      step-fits _ _ _ _ _ c.loop-at-test.true _ _ c.entry_at-e.ensures c.entry_span.ensures i,
      step-live _ _ _ _ _ c.loop-at-test.true _ _ c.entry_at-e.ensures c.entry_span.ensures i c.if-e-ne0.true _ c.write_void.ensures,
    )

pub loop-at-preserved : goal.loop-at-preserved
loop-at-preserved c =
    let i = c.loop-at.invariant.1 in (
      step-fits _ _ _ _ _ c.loop-at-test.true _ _ c.entry_at-e.ensures c.entry_span.ensures i,
      step-void _ _ _ _ _ c.loop-at-test.true _ _ c.entry_at-e.ensures c.entry_span.ensures i c.if-e-ne0.false,
    )

pub returns : goal.returns
returns c =
    let l = c.loop-at in
    let e : l.at ≡ c.args.used = omega (arith, l.invariant.0) in
    let k = left-last _ _ _ _ (subst (Left c.args.used c.args.a.now l.a l.end) e l.invariant.1) in
    record { value = k.0; a_after = k.1 }
