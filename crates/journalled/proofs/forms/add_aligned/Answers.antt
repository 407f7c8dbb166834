-- What begins as the rules say comes, by its steps, to what they say.
use Rattle.journalled.proofs.Laws.{journalled-is}
use Rattle.rules.specs.Edit.{to_add_aligned}
use Rattle.journalled.proofs.forms.add_aligned.Goals as goal

pub returns : goal.returns
returns c =
    let s = c.add_aligned-s.ensures in
    journalled-is (to_add_aligned _ _ _) _ _ _ _ _ s.value s.begins c.finish.ensures
