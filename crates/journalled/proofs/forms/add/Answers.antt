-- What begins as the rules say comes, by its steps, to what they say.
use Rattle.journalled.proofs.Laws.{journalled-is}
use Rattle.rules.specs.Edit.{to_add}
use Rattle.journalled.proofs.forms.add.Goals as goal

pub returns : goal.returns
returns c =
    let s = c.add-s.ensures in
    journalled-is (to_add _ _ _) _ _ _ _ _ s.value s.begins c.finish.ensures
