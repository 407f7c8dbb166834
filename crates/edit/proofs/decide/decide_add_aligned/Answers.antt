-- What the checks or a test refuse is refused; behind them the aligned add is one at used_size behind its padding void.
use Rattle.std.proofs.Common.{◌≡◌, ◌%◌, sym, ◌∙◌, arith}
use Rattle.rules.specs.Edit.{to_add_aligned}
use Rattle.laws.proofs.Exits.{passed_up}
use Rattle.laws.proofs.Passed.{align_range}
use Rattle.edit.proofs.Laws.{admitted, not_admitted, judged_tag, aligned-refused, align-refused, aligned-placed, padding-span, padding-small}
use Rattle.edit.proofs.decide.decide_add_aligned.Goals as goal

pub returns-in_err-admitted : goal.returns-in_err-admitted
returns-in_err-admitted c =
    let d = not_admitted (to_add_aligned _ _ _) _ _ _ c.in_err-admitted.ensures in
    let u = passed_up c.from_residual.ensures.1 in
    record { decides = rw u d.0; value = rw u d.1 }

pub returns-in_err-judge_add : goal.returns-in_err-judge_add
returns-in_err-judge_add c =
    let x = c.in_ok-admitted in
    let d = aligned-refused _ _ x.admitted.admitted _ _ c.args.exponent _ c.in_err-judge_add.ensures in
    let u = passed_up c.from_residual-in_err-judge_add.ensures.1 in
    record { decides = rw (u, ← x.ensures.0, ← x.ensures.1) d.0; value = rw (u, ← x.ensures.0, ← x.ensures.1) d.1 }

pub returns-then-refuses_align : goal.returns-then-refuses_align
returns-then-refuses_align c =
    let x = c.in_ok-admitted in
    let t = sym c.refuses_align.ensures ∙ c.if-refuses_align.true in
    let d = align-refused _ _ x.admitted.admitted c.args.tag _ _ c.in_ok-judge_add.ensures t in
    record { decides = rw (← x.ensures.0, ← x.ensures.1) d.0; value = rw (← x.ensures.0, ← x.ensures.1) d.1 }

pub at_end-requires : goal.at_end-requires
at_end-requires c =
    let l = c.in_ok-admitted.admitted in
    let s = (admitted _ _ _ l.list.read l.admitted).sound.header in
    let r = align_range _ (sym c.refuses_align.ensures ∙ c.if-refuses_align.false) in
    let u : l.list.header.used_size % 8 ≡ 0 = rw l.list.read s.sizes.used8 in
    let p = c.padding_for.ensures in (
      rw p (padding-span _ _ _ r.0 s.usable.base8 u),
      omega (arith, padding-small l.base l.list.header.used_size c.args.exponent r.1),
      judged_tag _ _ c.in_ok-judge_add.ensures,
    )

pub returns : goal.returns
returns c =
    let x = c.in_ok-admitted in
    let l = x.admitted in
    let t = sym c.refuses_align.ensures ∙ c.if-refuses_align.false in
    let e = aligned-placed _ _ l.admitted c.args.tag c.args.«data».now _ c.args.exponent l.list.read c.in_ok-judge_add.ensures t in
    let n = c.padding_for.ensures in
    let m = c.max-alignment.ensures in
    record {
      decides = rw (← x.ensures.0, ← x.ensures.1, e, ← n, ← m) c.at_end.ensures.decides;
      value = rw (← x.ensures.0, ← x.ensures.1, e, ← l.list.read, ← n, ← m) c.at_end.ensures.value;
    }
