-- The form's promise; a finished edit's area is the plain call's, so demand 3 holds of it.
use Rattle.journalled.proofs.Kept.{kept}
use Rattle.rules.specs.Edit.{to_add_aligned}
use Rattle.transfer_list.proofs.tl_add_aligned_journalled.Goals as goal

pub returns : goal.returns
returns c =
    let j = c.add_aligned.ensures in
    record { journalled = j; keeps = kept (to_add_aligned _ _ _) _ _ _ _ j }
