-- What the next token makes of the members: none, the end, a subnode or a property and the members behind it; and of a node, its name.
use Rattle.std.proofs.Common.{arith}
use Rattle.devicetree.proofs.Deciding.{refuted, holds, same_refl, same_trans, same_decides}
use Rattle.devicetree.proofs.TokenLaws.{stands-bounds}
use Rattle.devicetree.proofs.PartLaws.{name-bounds, property-bounds}
use Rattle.devicetree.proofs.NodeLaws.{
  node-bounds,
  node-unnamed,
  node-named,
  members_close,
  members_node,
  members_no-property,
  members_property,
}
use Rattle.devicetree.proofs.blocks.Blocks.+members_node.Goals as goal

pub members-loop-kind-init : goal.members-loop-kind-init
members-loop-kind-init t c = (omega arith, same_refl)

pub members-returns-in-EndNode : goal.members-returns-in-EndNode
members-returns-in-EndNode t c =
    same_decides c.loop-kind.invariant.1 (members_close c.next_token.ensures c.in_ok-kind.was c.in-EndNode.is)

pub members-node-requires : goal.members-node-requires
members-node-requires t c =
    let b = stands-bounds c.next_token.ensures c.in_ok-kind.was in
    omega arith

pub members-loop-kind-smaller-in-BeginNode-1 : goal.members-loop-kind-smaller-in-BeginNode-1
members-loop-kind-smaller-in-BeginNode-1 t c =
    let b = stands-bounds c.next_token.ensures c.in_ok-kind.was in
    let d = node-bounds (holds c.node.ensures c.in_ok-p-in-BeginNode.was) in
    omega arith

pub members-loop-kind-preserved-in-BeginNode-1 : goal.members-loop-kind-preserved-in-BeginNode-1
members-loop-kind-preserved-in-BeginNode-1 t c =
    let b = stands-bounds c.next_token.ensures c.in_ok-kind.was in
    let d = node-bounds (holds c.node.ensures c.in_ok-p-in-BeginNode.was) in
    let step = members_node c.next_token.ensures c.in_ok-kind.was c.in-BeginNode.is c.node.ensures c.in_ok-p-in-BeginNode.was in
    (omega arith, same_trans c.loop-kind.invariant.1 step)

pub members-returns-in_err-p-in-Prop : goal.members-returns-in_err-p-in-Prop
members-returns-in_err-p-in-Prop t c =
    let none = members_no-property c.next_token.ensures c.in_ok-kind.was c.in-Prop.is c.property.ensures c.in_err-p-in-Prop.was in
    rw c.from_residual-in_err-p-in-Prop.ensures (same_decides c.loop-kind.invariant.1 (refuted none))

pub members-loop-kind-smaller : goal.members-loop-kind-smaller
members-loop-kind-smaller t c =
    let b = stands-bounds c.next_token.ensures c.in_ok-kind.was in
    let d = property-bounds (holds c.property.ensures c.in_ok-p-in-Prop.was) in
    omega arith

pub members-loop-kind-preserved : goal.members-loop-kind-preserved
members-loop-kind-preserved t c =
    let b = stands-bounds c.next_token.ensures c.in_ok-kind.was in
    let d = property-bounds (holds c.property.ensures c.in_ok-p-in-Prop.was) in
    let step = members_property c.next_token.ensures c.in_ok-kind.was c.in-Prop.is c.property.ensures c.if-properties.true c.in_ok-p-in-Prop.was in
    (omega arith, same_trans c.loop-kind.invariant.1 step)

pub node-returns-in_err-a : goal.node-returns-in_err-a
node-returns-in_err-a t c = rw c.from_residual-in_err-a.ensures (refuted (node-unnamed c.name.ensures c.in_err-a.was))

pub node-members-requires : goal.node-members-requires
node-members-requires t c =
    let d = name-bounds (holds c.name.ensures c.in_ok-a.was) in
    omega arith

pub node-returns : goal.node-returns
node-returns t c =
    same_decides (node-named c.name.ensures (omega (arith, c.in_ok-inner.ensures)) c.in_ok-a.was) c.members.ensures
