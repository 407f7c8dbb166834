-- First the check, then an empty path, then what the search from the root on answers, whatever the derivation.
use Rattle.std.proofs.Common.{◌≡◌, Some, None, arith}
use Rattle.std.proofs.lemmas.Result.{err_from_is_err_and}
use Rattle.devicetree.proofs.Deciding.{said_yes, said_no}
use Rattle.lookup.specs.declared.seek.Hit.TheVariants.{Found, After}
use Rattle.lookup.specs.declared.find.Refusal.TheVariants.{Nothing}
use Rattle.lookup.specs.Lookup.{Lookup, found_at, broken}
use Rattle.lookup.proofs.AnswerLaws.{tree_headed, lookup_none, lookup_there, lookup_after, lookup_broken, lookup_small}
use Rattle.lookup.proofs.find.value.Goals as goal

pub returns-then-not-tree : goal.returns-then-not-tree
returns-then-not-tree c = broken (said_no c.tree.ensures c.if-not-tree.true)

pub returns-then-path-eq0 : goal.returns-then-path-eq0
returns-then-path-eq0 c = lookup_none (said_yes c.tree.ensures c.if-not-tree.false) c.if-path-eq0.true

pub blocks-requires : goal.blocks-requires
blocks-requires c = tree_headed (said_yes c.tree.ensures c.if-not-tree.false) c.read-h.ensures

pub returns-in_err-offset : goal.returns-in_err-offset
returns-in_err-offset c =
    let b = c.blocks-2.ensures in
    let e : c.root-hit.result ≡ None = grind arith in
    let x = said_yes c.tree.ensures c.if-not-tree.false in
    let p = err_from_is_err_and c.from_residual.result c.from_residual.ensures.1 in
    let f : c.in_err-offset.field-0.0 ≡ Nothing = grind arith in
    rw (p.1, p.2, f) (lookup_broken x c.read-h.ensures b.structure b.strings c.below_root.ensures c.root-hit.ensures e)

there : (c : goal.In-Found) → Lookup c.args.«data».now c.args.path.now c.args.name.now (found_at c.in-Found.offset c.in-Found.size)
there c =
    let b = c.blocks-2.ensures in
    let e : c.root-hit.result ≡ Some (Found c.in-Found.offset c.in-Found.size) = grind arith in
    lookup_there (said_yes c.tree.ensures c.if-not-tree.false) c.read-h.ensures b.structure b.strings c.below_root.ensures c.root-hit.ensures e

pub overflow_cast-result : goal.overflow_cast-result
overflow_cast-result c = let small = lookup_small (λ i. omega (arith, c.type_inv.data i)) (there c) in omega arith

pub overflow_cast-result-in-Found : goal.overflow_cast-result-in-Found
overflow_cast-result-in-Found c = let small = lookup_small (λ i. omega (arith, c.type_inv.data i)) (there c) in omega arith

pub returns-in-Found : goal.returns-in-Found
returns-in-Found c = there c

pub returns-in-After : goal.returns-in-After
returns-in-After c =
    let b = c.blocks-2.ensures in
    let e : c.root-hit.result ≡ Some (After c.in-After.field-0) = grind arith in
    lookup_after (said_yes c.tree.ensures c.if-not-tree.false) c.read-h.ensures b.structure b.strings c.below_root.ensures c.root-hit.ensures e
