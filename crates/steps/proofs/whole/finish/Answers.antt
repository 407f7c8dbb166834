-- Each turn is a step, and comes nearer to the end.
use borrow.Author.Tests.{eqb-true}
use Rattle.steps.proofs.Ends.{to-end-rest, turn_ends, turn_less}
use Rattle.journal.specs.Journal.{memory}
use mathlib.Core.Path.{sym, ◌∙◌}
use Rattle.steps.proofs.whole.finish.Goals as goal

pub loop-area-smaller : goal.loop-area-smaller
loop-area-smaller c =
    turn_less _ _ _ _ _ _ _ c.step.ensures.value c.step.ensures.area_after (sym c.has_ended.ensures ∙ c.loop-area-test.true)

pub loop-area-preserved : goal.loop-area-preserved
loop-area-preserved c =
    c.loop-area.invariant
    ∙ turn_ends _ _ _ _ _ _ _ c.step.ensures.value c.step.ensures.area_after (sym c.has_ended.ensures ∙ c.loop-area-test.true)

pub returns : goal.returns
returns c =
    let l = c.loop-area in
    sym (l.invariant ∙ to-end-rest _ l.s (memory l.journal l.area) (eqb-true _ _ (sym c.has_ended.ensures ∙ c.loop-area-test.false)))
