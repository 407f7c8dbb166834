-- A refused header is the answer; behind a good one come the checksum and the walk, whose answer is the survey's.
use Rattle.std.proofs.Common.{sym, ◌∙◌, arith}
use Rattle.laws.proofs.Exits.{passed_up}
use Rattle.walk.proofs.Headed.{good_header, shortest, surveyed_bad, surveyed_good}
use Rattle.walk.proofs.check.survey.Goals as goal

pub returns-in_err-header : goal.returns-in_err-header
returns-in_err-header c =
    rw (passed_up c.from_residual.ensures.1)
    (sym (surveyed_bad _ _ _ _ c.args.w _ (sym c.check_header.ensures ∙ c.in_err-header.was)))

pub invariant_of-list : goal.invariant_of-list
invariant_of-list c =
    let g = good_header _ _ _ _ _ (sym c.check_header.ensures ∙ c.in_ok-header.was) in
    record { read = g.same; within = g.used }

pub summed-requires : goal.summed-requires
summed-requires c =
    let g = good_header _ _ _ _ _ (sym c.check_header.ensures ∙ c.in_ok-header.was) in
    omega (arith, shortest c.args.format, g.least)

pub returns-then-not-summed : goal.returns-then-not-summed
returns-then-not-summed c =
    simp (
      surveyed_good _ _ _ _ c.args.w _ (sym c.check_header.ensures ∙ c.in_ok-header.was),
      ← c.summed.ensures,
      c.if-not-summed.true,
    )

pub walk-requires : goal.walk-requires
walk-requires c = (good_header _ _ _ _ _ (sym c.check_header.ensures ∙ c.in_ok-header.was)).first

pub returns-in_err-counts : goal.returns-in_err-counts
returns-in_err-counts c =
    simp (
      passed_up c.from_residual-in_err-counts.ensures.1,
      surveyed_good _ _ _ _ c.args.w _ (sym c.check_header.ensures ∙ c.in_ok-header.was),
      ← c.summed.ensures,
      c.if-not-summed.false,
      ← c.walk.ensures,
      c.in_err-counts.was,
    )

pub returns : goal.returns
returns c =
    simp (
      surveyed_good _ _ _ _ c.args.w _ (sym c.check_header.ensures ∙ c.in_ok-header.was),
      ← c.summed.ensures,
      c.if-not-summed.false,
      ← c.walk.ensures,
      c.in_ok-counts.was,
    )
