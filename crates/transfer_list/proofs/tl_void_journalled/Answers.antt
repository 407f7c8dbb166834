-- The form's promise; a finished edit's area is the plain call's, so demand 3 holds of it.
use Rattle.journalled.proofs.Kept.{kept}
use Rattle.rules.specs.Edit.{to_void}
use Rattle.transfer_list.proofs.tl_void_journalled.Goals as goal

pub returns : goal.returns
returns c =
    let j = c.void.ensures in
    record { journalled = j; keeps = kept (to_void _ _) _ _ _ _ j }
