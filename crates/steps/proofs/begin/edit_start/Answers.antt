-- The definition, by the same test; the first word is the search's.
use mathlib.Core.Bool.{true≢false}
use Rattle.steps.proofs.Power.{edit_survives}
use Rattle.steps.specs.declared.Steps.{Steps}
use Prim.Native.Nat.{◌<◌}
use Rattle.journal.specs.Journal.{memory}
use Rattle.plan.specs.Plan.{after}
use Rattle.steps.proofs.Decision.{edit_begins}
use Rattle.steps.specs.Steps.{edit_start}
use mathlib.Core.Path.{sym, ◌∙◌, subst}
use Rattle.steps.proofs.begin.edit_start.Goals as goal

pub returns-then-refuses_journal : goal.returns-then-refuses_journal
unfolding edit_start
returns-then-refuses_journal c =
    let e = sym c.refuses_journal.ensures ∙ c.if-refuses_journal.true in
    record { value = simp (e, c.stopped.ensures, c.into.ensures); survives_where_accepted = λ k. absurd (true≢false (sym e ∙ k.accepted)) }

pub returns : goal.returns
returns c =
    let a = c.args in
    let new = after a.p a.area.now a.«data».now in
    let s = c.carrying.ensures in
    let bytes = subst (λ (x : Steps). (x.checksum < 256) × (x.alignment < 256)) s.value s.checksum_bound in
    let e = c.to_word.ensures
    ∙ edit_begins a.p new (memory a.journal.now a.area.now) _ _ (sym c.refuses_journal.ensures ∙ c.if-refuses_journal.false) s.value
    c.next_changed.ensures in
    let w = c.requires in
    record { value = e; survives_where_accepted = λ k. rw e (edit_survives a.p a.«data».now a.journal.now a.area.now w bytes.0 bytes.1 k) }
