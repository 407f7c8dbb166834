-- The part is the data that `find_of` answers, at its offset, which lies within the area; where it refuses the part is empty.
use Rattle.std.proofs.Common.{sym, refl, ◌∙◌, arith}
use native.Mathlib.Nat.{add-sub_cancel_left}
use Rattle.rules.specs.Find.{find_data_of}
use Rattle.laws.proofs.Check.{find-within}
use Rattle.walk.proofs.find.find_data.Goals as goal

-- the part would be empty at any place; that it stands at the area's start is the third claim
pub returns-in_default : goal.returns-in_default
unfolding find_data_of
returns-in_default c =
    let r = sym c.find.ensures ∙ c.in_default.is in
    record { value = simp r; same_memory = refl; at_offset = rw r (omega arith) }

pub slice_bounds-result-end-2 : goal.slice_bounds-result-end-2
slice_bounds-result-end-2 c =
    let w = find-within _ _ _ _ _ _ (sym c.find.ensures ∙ c.in-Ok.is) in
    omega arith

pub returns : goal.returns
unfolding find_data_of
returns c =
    let r = sym c.find.ensures ∙ c.in-Ok.is in
    record { value = rw (r, add-sub_cancel_left); same_memory = refl; at_offset = rw r (omega arith) }
