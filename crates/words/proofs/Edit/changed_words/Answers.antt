-- The words that are looked at, chained, and of those the ones that change.
use mathlib.Core.Path.{refl, sym, ◌∙◌}
use Prim.Native.Nat.{◌-◌, ◌/◌}
use borrow.Author.Tests.{tests}
use Rattle.std.proofs.Common.{rules}
use Rattle.std.proofs.lemmas.Iterator.{YieldsList-from_range}
use Rattle.std.proofs.lemmas.Iterator.Consumers.{YieldsList-from_chain, YieldsList-from_filter, count_from_yields_List}
use Rattle.plan.specs.Plan.{after}
use Rattle.words.proofs.Window.{changes, all_counted}
use Rattle.words.proofs.Edit.changed_words.Goals as goal

pub returns : goal.returns
returns c =
    let e = c.args.self.now in
    let new = after e.plan e.area.now e.«data».now in
    let header = YieldsList-from_range {s = c.filter.result.iter.a} 0 2 2 (cc) refl in
    let stretch = YieldsList-from_range {s = c.filter.result.iter.b} (e.plan.at / 8) c.end.result (c.end.result - e.plan.at / 8) (cc) refl in
    let looked = YieldsList-from_chain {s = c.filter.result.iter} header stretch (cc) (cc) in
    count_from_yields_List c.filter.result c.count.result c.count.ensures.ran
    (YieldsList-from_filter _ (changes e.area.now new) looked c.filter.ensures.closure (λ x b q k. search (rules, tests)))
    ∙ sym (all_counted e.plan e.area.now e.«data».now e.writable c.end.result c.end.ensures)
