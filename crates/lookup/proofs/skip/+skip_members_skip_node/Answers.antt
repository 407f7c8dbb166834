-- What the next token makes of the members: none, the end, a subnode or a property and what goes on behind it; and of a node, its name.
use Rattle.std.proofs.Common.{arith}
use Rattle.devicetree.proofs.Deciding.{holds}
use Rattle.devicetree.proofs.TokenLaws.{stands-bounds}
use Rattle.devicetree.proofs.PartLaws.{name-bounds, value-bounds}
use Rattle.devicetree.proofs.NodeLaws.{node-unnamed, members_none}
use Rattle.lookup.proofs.BehindLaws.{
  goes_start,
  skip-none,
  skip-named,
  behind-none,
  behind-close,
  stops-node,
  goes_node,
  stops-no-value,
  goes_value,
}
use Rattle.lookup.proofs.skip.+skip_members_skip_node.Goals as goal

pub skip_members-loop-kind-init : goal.skip_members-loop-kind-init
skip_members-loop-kind-init t c = (omega arith, goes_start)

pub skip_members-returns-in_err-kind : goal.skip_members-returns-in_err-kind
skip_members-returns-in_err-kind t c =
    rw c.from_residual.ensures (behind-none c.loop-kind.invariant.1 (λ t f n m. members_none c.next_token.ensures c.in_err-kind.was n m))

pub skip_members-returns-in-EndNode : goal.skip_members-returns-in-EndNode
skip_members-returns-in-EndNode t c =
    let i = c.loop-kind.invariant in
    behind-close c.next_token.ensures c.in_ok-kind.was i.0 i.1 c.in-EndNode.is

pub skip_members-skip_node-requires : goal.skip_members-skip_node-requires
skip_members-skip_node-requires t c =
    let b = stands-bounds c.next_token.ensures c.in_ok-kind.was in
    omega arith

pub skip_members-returns-in_err-p-in-BeginNode : goal.skip_members-returns-in_err-p-in-BeginNode
skip_members-returns-in_err-p-in-BeginNode t c =
    let none = stops-node c.next_token.ensures c.in_ok-kind.was c.in-BeginNode.is c.skip_node.ensures c.in_err-p-in-BeginNode.was in
    rw c.from_residual-in_err-p-in-BeginNode.ensures (behind-none c.loop-kind.invariant.1 none)

pub skip_members-loop-kind-smaller-in-BeginNode : goal.skip_members-loop-kind-smaller-in-BeginNode
skip_members-loop-kind-smaller-in-BeginNode t c =
    let b = stands-bounds c.next_token.ensures c.in_ok-kind.was in
    let d = c.skip_node.ensures.bounds _ c.in_ok-p-in-BeginNode.was in
    omega arith

pub skip_members-loop-kind-preserved-in-BeginNode : goal.skip_members-loop-kind-preserved-in-BeginNode
skip_members-loop-kind-preserved-in-BeginNode t c =
    let b = stands-bounds c.next_token.ensures c.in_ok-kind.was in
    let d = c.skip_node.ensures.bounds _ c.in_ok-p-in-BeginNode.was in
    let on = goes_node c.next_token.ensures c.in_ok-kind.was c.in-BeginNode.is c.skip_node.ensures in
    (omega arith, on c.loop-kind.invariant.1 c.in_ok-p-in-BeginNode.was)

pub skip_members-returns-in_err-p-in_default : goal.skip_members-returns-in_err-p-in_default
skip_members-returns-in_err-p-in_default t c =
    let k = c.in_default in
    let none = stops-no-value c.next_token.ensures c.in_ok-kind.was k.not-EndNode k.not-BeginNode c.value.ensures c.in_err-p-in_default.was in
    rw c.from_residual-in_err-p-in_default.ensures (behind-none c.loop-kind.invariant.1 none)

pub skip_members-loop-kind-smaller : goal.skip_members-loop-kind-smaller
skip_members-loop-kind-smaller t c =
    let b = stands-bounds c.next_token.ensures c.in_ok-kind.was in
    let d = value-bounds (holds c.value.ensures c.in_ok-p-in_default.was) in
    omega arith

pub skip_members-loop-kind-preserved : goal.skip_members-loop-kind-preserved
skip_members-loop-kind-preserved t c =
    let b = stands-bounds c.next_token.ensures c.in_ok-kind.was in
    let d = value-bounds (holds c.value.ensures c.in_ok-p-in_default.was) in
    let k = c.in_default in
    let on = goes_value c.next_token.ensures c.in_ok-kind.was k.not-EndNode k.not-BeginNode c.value.ensures in
    (omega arith, on c.loop-kind.invariant.1 c.in_ok-p-in_default.was)

pub skip_node-returns-in_err-a : goal.skip_node-returns-in_err-a
skip_node-returns-in_err-a t c = rw c.from_residual-in_err-a.ensures (skip-none (λ t n x. node-unnamed c.name.ensures c.in_err-a.was n x))

pub skip_node-skip_members-requires : goal.skip_node-skip_members-requires
skip_node-skip_members-requires t c =
    let d = name-bounds (holds c.name.ensures c.in_ok-a.was) in
    omega arith

pub skip_node-returns : goal.skip_node-returns
skip_node-returns t c = skip-named c.name.ensures c.in_ok-a.was (omega (arith, c.in_ok-inner.ensures)) c.skip_members.ensures
