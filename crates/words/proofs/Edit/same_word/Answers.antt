-- The library's test of eight bytes, byte by byte as the rules put it.
use mathlib.Core.Path.{refl, ◌∙◌}
use Prim.Native.Nat.{ℕ, ◌+◌}
use native.Mathlib.Omega.{arith}
use lib.ListN.{get_or}
use lib.Dec.{eqb}
use borrow.Author.Tests.{tests}
use Rattle.std.proofs.Common.{rules}
use Rattle.std.proofs.lemmas.Iterator.{YieldsList-from_range}
use Rattle.std.proofs.lemmas.Iterator.Search.{all_from_yields_List}
use Rattle.plan.specs.Plan.{after}
use Rattle.words.proofs.Window.{alike_listed}
use Rattle.words.proofs.Edit.same_word.Goals as goal

pub returns : goal.returns
returns c =
    let e = c.args.self.now in
    let new = after e.plan e.area.now e.«data».now in
    let same = λ (i : ℕ). eqb (get_or e.area.now i 0) (get_or new i 0) in
    let each = YieldsList-from_range c.args.at (c.args.at + 8) 8 refl (omega arith) in
    all_from_yields_List same _ _ c.all.result c.all.ensures.ran each (λ x b q k. search (rules, tests)) ∙ alike_listed 8 e.area.now new c.args.at
