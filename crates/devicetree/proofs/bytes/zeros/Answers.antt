-- Every byte is 0 where the library finds no place of another.
use Rattle.std.proofs.Common.{◌≡◌, ◌-◌, refl, rules, tests, get_or}
use Rattle.std.proofs.lemmas.Iterator.{cases_from_all, YieldsList-from_range}
use Rattle.devicetree.proofs.Deciding.{answers_all}
use Rattle.devicetree.proofs.bytes.zeros.Goals as goal

pub returns : goal.returns
returns c =
    let a = c.args in
    answers_all a.d.now a.from a.to
    (cases_from_all _ _ _ (λ k. get_or a.d.now k 0 ≡ 0) (λ k. get_or a.d.now k 0 ≡ 0 → ⊥) c.all.ensures.ran
    (YieldsList-from_range a.from a.to (a.to - a.from) refl refl) (λ x q k. search (rules, tests)) (λ x q k. search (rules, tests)))
