-- What was decided is fixed by the edit's plan, and begins there.
use Rattle.journalled.proofs.SomeWord.{some_word_aligned}
use Rattle.journalled.proofs.Laws.{starts, begins}
use Rattle.rules.specs.Edit.{to_add_aligned}
use Rattle.journalled.proofs.starts.add_aligned.Goals as goal

pub returns : goal.returns
returns c =
    let d = c.decide_add_aligned-planned.ensures in
    let s = c.start.ensures in record {
      value = starts (to_add_aligned _ _ _) _ _ _ _ _ d.decides d.value s.value;
      begins = begins (to_add_aligned _ _ _) _ _ _ _ _ d.decides d.value s.value s.survives_planned (λ v x r h. some_word_aligned _ _ x _ v _ _ _ r h);
    }
