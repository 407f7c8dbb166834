-- The words that are looked at, chained, and of those the first one that changes.
use mathlib.Core.Path.{refl, sym, ◌∙◌}
use Prim.Native.Nat.{◌-◌, ◌/◌, ◌<◌}
use lib.ListN.{length}
use native.Mathlib.Omega.{arith}
use borrow.Author.Tests.{tests}
use Rattle.std.proofs.Common.{rules}
use Rattle.std.proofs.lemmas.Iterator.{YieldsList-from_range}
use Rattle.std.proofs.lemmas.Iterator.Consumers.{YieldsList-from_chain}
use Rattle.std.proofs.lemmas.Iterator.Search.{find_from_yields_List}
use Rattle.plan.specs.Plan.{after}
use Rattle.words.proofs.Window.{changes, found_inside, next_is}
use Rattle.words.proofs.Edit.next_changed.Goals as goal

pub overflow_mul-result : goal.overflow_mul-result
overflow_mul-result c =
    let e = c.args.self.now in
    let new = after e.plan e.area.now e.«data».now in
    let header = YieldsList-from_range {s = c.chain.result.a} (c.args.from / 8) 2 (2 - c.args.from / 8) (cc) refl in
    let stretch = YieldsList-from_range {s = c.chain.result.b} c.max.result c.end.result (c.end.result - c.max.result) (cc) refl in
    let looked = YieldsList-from_chain {s = c.chain.result} header stretch (cc) (cc) in
    let is = find_from_yields_List (changes e.area.now new) _ _ c.find-found.result c.find-found.ensures.ran looked (λ x b q k. search (rules, tests)) in
    let inside : c.in-Some.w < length e.area.now / 8 = found_inside e.area.now new _ c.in-Some.w (sym is ∙ rw c.in-Some.is refl) in
    omega arith

pub returns-in-Some : goal.returns-in-Some
returns-in-Some c =
    let e = c.args.self.now in
    let new = after e.plan e.area.now e.«data».now in
    let header = YieldsList-from_range {s = c.chain.result.a} (c.args.from / 8) 2 (2 - c.args.from / 8) (cc) refl in
    let stretch = YieldsList-from_range {s = c.chain.result.b} c.max.result c.end.result (c.end.result - c.max.result) (cc) refl in
    let looked = YieldsList-from_chain {s = c.chain.result} header stretch (cc) (cc) in
    let is = find_from_yields_List (changes e.area.now new) _ _ c.find-found.result c.find-found.ensures.ran looked (λ x b q k. search (rules, tests)) in
    rw c.in-Some.is at (next_is e.plan e.area.now e.«data».now e.writable c.end.result c.end.ensures c.args.from c.max.result _ (omega arith) c.max.ensures is)

pub returns-in-None : goal.returns-in-None
returns-in-None c =
    let e = c.args.self.now in
    let new = after e.plan e.area.now e.«data».now in
    let header = YieldsList-from_range {s = c.chain.result.a} (c.args.from / 8) 2 (2 - c.args.from / 8) (cc) refl in
    let stretch = YieldsList-from_range {s = c.chain.result.b} c.max.result c.end.result (c.end.result - c.max.result) (cc) refl in
    let looked = YieldsList-from_chain {s = c.chain.result} header stretch (cc) (cc) in
    let is = find_from_yields_List (changes e.area.now new) _ _ c.find-found.result c.find-found.ensures.ran looked (λ x b q k. search (rules, tests)) in
    rw c.in-None.is at (next_is e.plan e.area.now e.«data».now e.writable c.end.result c.end.ensures c.args.from c.max.result _ (omega arith) c.max.ensures is)
