-- A refused list is the answer; otherwise the list is admitted. The voids joined, zeros in what is given back and the new used_size are the
-- rule's list; byte 4 becomes its checksum, which seals it.
use Rattle.std.proofs.Common.{sym, ◌∙◌, arith}
use Rattle.rules.specs.Checksum.{seal}
use Rattle.tidy.proofs.Laws.{rowed, long, ruled, bounds, written, sealable}
use Rattle.tidy.proofs.tidy.Goals as goal

pub join_voids-used-requires : goal.join_voids-used-requires
join_voids-used-requires c = rowed _ _ _ _ (sym c.survey.ensures ∙ c.in_ok-h.was)

pub returns : goal.returns
unfolding seal
returns c =
    let k = sym c.survey.ensures ∙ c.in_ok-h.was in
    let u = c.join_voids-used.ensures.value in
    let w = written _ _ _ _ k _ u _ _ _ c.join_voids-used.ensures.a_after c.zero_part.ensures c.write.ensures in
    let e = ruled _ _ _ _ k in
    record { value = rw (e, u); area_after = rw (e, c.fresh_checksum.ensures, w) }

pub overflow_sub-h : goal.overflow_sub-h
overflow_sub-h c = (bounds _ _ _ _ (sym c.survey.ensures ∙ c.in_ok-h.was) _ c.join_voids-used.ensures.value).0

pub zero_part-requires : goal.zero_part-requires
zero_part-requires c =
    let b = bounds _ _ _ _ (sym c.survey.ensures ∙ c.in_ok-h.was) _ c.join_voids-used.ensures.value in
    omega (arith, b.0, b.1)

pub write-requires : goal.write-requires
write-requires c =
    omega (arith, long _ _ _ _ (sym c.survey.ensures ∙ c.in_ok-h.was), c.join_voids-used.auto.a, c.zero_part.auto.a)

pub bounds-area-4 : goal.bounds-area-4
bounds-area-4 c =
    omega (arith, long _ _ _ _ (sym c.survey.ensures ∙ c.in_ok-h.was), c.join_voids-used.auto.a, c.zero_part.auto.a, c.write.auto.a)

pub fresh_checksum-requires : goal.fresh_checksum-requires
fresh_checksum-requires c =
    let k = sym c.survey.ensures ∙ c.in_ok-h.was in
    let u = c.join_voids-used.ensures.value in
    sealable _ _ _ _ k _ u _ (written _ _ _ _ k _ u _ _ _ c.join_voids-used.ensures.a_after c.zero_part.ensures c.write.ensures)
