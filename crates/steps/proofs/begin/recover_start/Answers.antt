-- What was read of the journal decides as the rules do.
use Rattle.steps.proofs.Power.{recovery_goes}
use Rattle.steps.proofs.Decision.{start_is}
use Rattle.steps.specs.Steps.{recover_start}
use Rattle.journal.specs.Journal.{memory}
use mathlib.Core.Path.{◌≡◌, ◌∙◌}
use Rattle.steps.proofs.begin.recover_start.Goals as goal

pub returns : goal.returns
returns c =
    let a = c.args in
    let m = memory a.journal.now a.area.now in
    let e : c.begin_with.result ≡ recover_start m = c.begin_with.ensures
    ∙ rw (c.kinds_up_to-low.ensures, c.from.ensures, c.verdict-v.ensures, c.records.ensures, c.word_first.ensures) (start_is m) in
    record { value = e; goes_as_recovery = rw e (recovery_goes m) }
