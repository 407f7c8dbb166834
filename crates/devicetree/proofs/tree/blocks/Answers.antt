-- The header is as it has to be and the reservation block ends: then the blocks are there exactly where the structure is.
use Rattle.std.proofs.Common.{sym, ◌∙◌, length, arith}
use Rattle.devicetree.specs.Decided.{no}
use Rattle.devicetree.proofs.Deciding.{said_yes, said_no}
use Rattle.devicetree.proofs.TreeLaws.{order, blocks_unheaded, blocks-structure}
use Rattle.devicetree.proofs.tree.blocks.Goals as goal

pub returns-then-not-headed : goal.returns-then-not-headed
returns-then-not-headed c = no (blocks_unheaded (sym c.headed.ensures ∙ c.if-not-headed.true))

pub reservation-requires : goal.reservation-requires
reservation-requires c =
    let a = c.args in
    let o = order a.h (length a.d.now) (sym c.headed.ensures ∙ c.if-not-headed.false) in
    let s = o.structure in let t = o.strings in let u = o.within in omega arith

pub blocks-requires : goal.blocks-requires
blocks-requires c = sym c.headed.ensures ∙ c.if-not-headed.false

pub returns-then-reservation : goal.returns-then-reservation
returns-then-reservation c =
    let r = said_yes c.reservation.ensures c.if-reservation.true in
    let b = c.blocks-then-reservation.ensures in
    blocks-structure (sym c.headed.ensures ∙ c.if-not-headed.false) r b.structure b.strings c.tree.ensures

pub returns-else-reservation : goal.returns-else-reservation
returns-else-reservation c =
    let h = c.if-reservation.false in
    rw h (no (λ x. said_no c.reservation.ensures h x.reservation))
