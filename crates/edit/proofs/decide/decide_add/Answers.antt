-- What the checks or a test refuse is refused; behind them the outcome is that of the place.
use Rattle.std.proofs.Common.{sym, ◌∙◌}
use Rattle.rules.specs.Edit.{to_add}
use Rattle.laws.proofs.Exits.{passed_up}
use Rattle.walk.proofs.Survey.{first_fit_wanted}
use Rattle.edit.proofs.Laws.{not_admitted, judged_tag, add-refused, add-placed}
use Rattle.edit.proofs.decide.decide_add.Goals as goal

pub returns-in_err-admitted : goal.returns-in_err-admitted
returns-in_err-admitted c =
    let d = not_admitted (to_add _ _ _) _ _ _ c.in_err-admitted.ensures in
    let u = passed_up c.from_residual.ensures.1 in
    record { decides = rw u d.0; value = rw u d.1 }

pub returns-in_err-judge_add : goal.returns-in_err-judge_add
returns-in_err-judge_add c =
    let x = c.in_ok-admitted in
    let d = add-refused _ _ x.admitted.admitted _ _ c.args.use_voids _ c.in_err-judge_add.ensures in
    let u = passed_up c.from_residual-in_err-judge_add.ensures.1 in
    record { decides = rw (u, ← x.ensures.0, ← x.ensures.1) d.0; value = rw (u, ← x.ensures.0, ← x.ensures.1) d.1 }

pub place-requires : goal.place-requires
place-requires c =
    (c.in_ok-admitted.ensures.2 ∙ sym (first_fit_wanted _ _), judged_tag _ _ c.in_ok-judge_add.ensures)

pub returns : goal.returns
returns c =
    let x = c.in_ok-admitted in
    let e = add-placed _ _ x.admitted.admitted c.args.tag _ c.args.use_voids c.in_ok-judge_add.ensures in
    record {
      decides = rw (← x.ensures.0, ← x.ensures.1, e) c.place.ensures.decides;
      value = rw (← x.ensures.0, ← x.ensures.1, e) c.place.ensures.value;
    }
