-- The root ends at one place, and the token behind it is END, to the very end, or the structure is none.
use Rattle.std.proofs.Common.{rules}
use Rattle.devicetree.specs.Decided.{no}
use Rattle.devicetree.proofs.TreeLaws.{structure-none, structure_open, structure_other, structure-ends}
use Rattle.devicetree.proofs.blocks.Blocks.tree.Goals as goal

pub returns-in_default : goal.returns-in_default
returns-in_default c = no (structure-none c.root.ensures c.in_default.is)

pub returns-in_default-next_token : goal.returns-in_default-next_token
returns-in_default-next_token c = no (structure_open c.root.ensures c.in-Some.is c.next_token.ensures c.in_default-next_token.is)

pub returns-then-eq : goal.returns-then-eq
returns-then-eq c =
    let h = c.eq.ensures in
    structure-ends c.root.ensures c.in-Some.is c.next_token.ensures c.in-Some-next_token.is (search rules)

pub returns-else-eq : goal.returns-else-eq
returns-else-eq c =
    let h = c.eq.ensures in
    let f = c.if-eq.false in
    rw f (no (structure_other c.root.ensures c.in-Some.is c.next_token.ensures c.in-Some-next_token.is (λ e. search rules)))
