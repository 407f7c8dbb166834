-- Zeros, the list and zeros, one behind the other, fill the target.
use mathlib.Core.Path.{◌∙◌}
use Rattle.destination.proofs.Laws.{laid}
use Rattle.destination.proofs.lay_out.Goals as goal

pub returns : goal.returns
returns c =
    c.zero_part-2.ensures ∙ rw (c.copy_part.ensures, c.zero_part.ensures) (laid _ _ _ c.requires)
