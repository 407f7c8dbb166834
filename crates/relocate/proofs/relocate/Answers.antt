-- A refused list is the answer; otherwise the place decides, and where there is one the target is written as the rule has it.
use Rattle.std.proofs.Common.{length, sym, ◌∙◌, arith}
use Rattle.laws.proofs.Exits.{passed_up}
use Rattle.destination.proofs.Laws.{placed-room}
use Rattle.relocate.proofs.Laws.{read, low, top, summed, small, relocate-placed}
use Rattle.relocate.proofs.relocate.Goals as goal

pub invariant_of-list : goal.invariant_of-list
invariant_of-list c =
    let k = sym c.survey.ensures ∙ c.in_ok-h.was in
    record { read = read _ _ _ _ k; within = top _ _ _ _ k }

pub find_place-requires : goal.find_place-requires
find_place-requires c =
    let b = small _ _ _ _ (sym c.survey.ensures ∙ c.in_ok-h.was) in
    (omega arith, omega arith, omega arith)

pub returns-in_err-shift : goal.returns-in_err-shift
returns-in_err-shift c =
    let p = relocate-placed _ _ _ _ (sym c.survey.ensures ∙ c.in_ok-h.was) c.args.target.now c.args.target_base _ c.find_place.ensures in
    record {
      value = rw (p, c.in_err-shift.was) (passed_up c.from_residual-in_err-shift.ensures.1);
      target_after = rw (p, c.in_err-shift.was);
    }

pub write_target-requires : goal.write_target-requires
write_target-requires c =
    let s = sym c.survey.ensures ∙ c.in_ok-h.was in
    let f = placed-room _ _ _ _ (length c.args.target.now) c.in_ok-h.field-0.header.used_size _ (sym c.find_place.ensures ∙ c.in_ok-shift.was) in
    (λ i. omega (arith, c.type_inv.area i), summed _ _ _ _ s, low _ _ _ _ s, f.room, omega (arith, f.short))

pub returns : goal.returns
returns c =
    let e = relocate-placed _ _ _ _ (sym c.survey.ensures ∙ c.in_ok-h.was) c.args.target.now c.args.target_base _ c.find_place.ensures in
    record { value = rw (e, c.in_ok-shift.was); target_after = rw (e, c.in_ok-shift.was) c.write_target.ensures }
