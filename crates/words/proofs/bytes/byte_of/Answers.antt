-- The library's bytes; from the fifth on there are none, which counts as 0.
use mathlib.Core.Path.{ap, ◌∙◌}
use native.Mathlib.Omega.{arith}
use Prim.Native.Nat.{ℕ}
use mathlib.Core.List.{List}
use lib.ListN.{get_or}
use Rattle.std.specs.Option.{unwrap_or}
use Rattle.std.specs.Prelude.{Option}
use Rattle.words.proofs.Laws.{library_bytes}
use Rattle.words.proofs.bytes.byte_of.Goals as goal

pub returns : goal.returns
returns c =
    c.unwrap_or.ensures
    ∙ ap (λ (o : Option ℕ). unwrap_or o 0) c.copied.ensures
    ∙ c.get.ensures.lookup.4 (omega arith) 0
    ∙ ap (λ (l : List ℕ). get_or l c.args.k 0) (c.to_le_bytes.ensures ∙ library_bytes c.args.n)
