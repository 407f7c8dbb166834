-- The first zero byte is the one that the library finds.
use Rattle.std.proofs.Common.{◌≡◌, rules, tests, get_or}
use Rattle.std.proofs.lemmas.Iterator.{first_from_Range}
use Rattle.devicetree.proofs.PartLaws.{ends_found}
use Rattle.devicetree.proofs.bytes.first_zero.Goals as goal

pub returns : goal.returns
returns c =
    let b = c.args.block.now in
    ends_found
    (first_from_Range _ _ _ _ (λ z. get_or b z 0 ≡ 0) (λ z. get_or b z 0 ≡ 0 → ⊥) c.find.ensures.ran (λ x q k. search (rules, tests))
    (λ x q k. search (rules, tests)))
