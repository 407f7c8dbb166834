-- What the next token makes of the members: nothing, their end, a subnode or a property; and of a node, whether the path enters it.
use Rattle.std.proofs.Common.{◌≡◌, ◌∙◌, ap, suc, Some, rules, arith}
use Rattle.devicetree.proofs.Deciding.{holds, said_yes, said_no}
use Rattle.devicetree.proofs.TokenLaws.{stands-bounds}
use Rattle.devicetree.proofs.PartLaws.{name-bounds, value-bounds}
use Rattle.devicetree.proofs.NodeLaws.{node-unnamed, members_none}
use Rattle.lookup.proofs.PathLaws.{part-behind}
use Rattle.lookup.proofs.BehindLaws.{stops-no-value}
use Rattle.lookup.proofs.SeekLaws.{
  goes_start,
  goes_on,
  stops-answered,
  seeks_broken,
  seeks_found,
  seeks_after,
  answered-close,
  steps_property,
  answered-property,
  steps_node,
  answered-node,
  broken-node,
  no_more,
  wanted_here,
  unwanted,
  seeks_none,
  seeks_passed,
  seeks_entered,
}
use Rattle.lookup.proofs.seek.Search.+seek_members_seek_node.Goals as goal

pub members-loop-kind-init : goal.members-loop-kind-init
members-loop-kind-init t c = (omega arith, goes_start)

pub members-returns-in_err-kind : goal.members-returns-in_err-kind
members-returns-in_err-kind t c =
    rw c.from_residual.ensures
    (seeks_broken c.loop-kind.invariant.1 (stops-answered (λ t f n m. members_none c.next_token.ensures c.in_err-kind.was n m)))

pub members-returns-in-EndNode : goal.members-returns-in-EndNode
members-returns-in-EndNode t c =
    let b = stands-bounds c.next_token.ensures c.in_ok-kind.was in
    seeks_after c.loop-kind.invariant.1 (omega arith) b.1 (answered-close c.next_token.ensures c.in_ok-kind.was c.in-EndNode.is)

pub members-node-requires : goal.members-node-requires
members-node-requires t c =
    let b = stands-bounds c.next_token.ensures c.in_ok-kind.was in
    omega arith

pub members-returns-in-Found : goal.members-returns-in-Found
members-returns-in-Found t c =
    let N = c.node.ensures in
    let f = c.in_ok-offset-in-BeginNode.was ∙ ap Some c.in-Found.is in
    seeks_found c.loop-kind.invariant.1 (N.named _ _ f) (answered-node c.next_token.ensures c.in_ok-kind.was c.in-BeginNode.is N f)

pub members-loop-kind-smaller-in-After : goal.members-loop-kind-smaller-in-After
members-loop-kind-smaller-in-After t c =
    let b = stands-bounds c.next_token.ensures c.in_ok-kind.was in
    let d = c.node.ensures.behind _ (c.in_ok-offset-in-BeginNode.was ∙ ap Some c.in-After.is) in
    omega arith

pub members-loop-kind-preserved-in-After : goal.members-loop-kind-preserved-in-After
members-loop-kind-preserved-in-After t c =
    let b = stands-bounds c.next_token.ensures c.in_ok-kind.was in
    let f = c.in_ok-offset-in-BeginNode.was ∙ ap Some c.in-After.is in
    let d = c.node.ensures.behind _ f in
    (omega arith, goes_on c.loop-kind.invariant.1 (steps_node c.next_token.ensures c.in_ok-kind.was c.in-BeginNode.is c.node.ensures f))

pub members-returns-in_err-offset-in-BeginNode : goal.members-returns-in_err-offset-in-BeginNode
members-returns-in_err-offset-in-BeginNode t c =
    let none = broken-node c.next_token.ensures c.in_ok-kind.was c.in-BeginNode.is c.node.ensures c.in_err-offset-in-BeginNode.was in
    rw c.from_residual-in_err-offset-in-BeginNode.ensures (seeks_broken c.loop-kind.invariant.1 none)

pub members-returns-in_err-m-in_default : goal.members-returns-in_err-m-in_default
members-returns-in_err-m-in_default t c =
    let k = c.in_default in
    let none = stops-no-value c.next_token.ensures c.in_ok-kind.was k.not-EndNode k.not-BeginNode c.value.ensures c.in_err-m-in_default.was in
    rw c.from_residual-in_err-m-in_default.ensures (seeks_broken c.loop-kind.invariant.1 (stops-answered none))

pub members-returns-then-is_wanted : goal.members-returns-then-is_wanted
members-returns-then-is_wanted t c =
    let w = said_yes c.is_wanted.ensures c.if-is_wanted.true in
    let k = c.in_default in
    let a = answered-property c.next_token.ensures c.in_ok-kind.was k.not-EndNode k.not-BeginNode c.cell-size.ensures (wanted_here w) in
    seeks_found c.loop-kind.invariant.1 (no_more c.args.path.now w.0) a

pub members-loop-kind-smaller : goal.members-loop-kind-smaller
members-loop-kind-smaller t c =
    let b = stands-bounds c.next_token.ensures c.in_ok-kind.was in
    let d = value-bounds (holds c.value.ensures c.in_ok-m-in_default.was) in
    omega arith

pub members-loop-kind-preserved : goal.members-loop-kind-preserved
members-loop-kind-preserved t c =
    let T = c.next_token.ensures in
    let b = stands-bounds T c.in_ok-kind.was in
    let f = c.in_ok-m-in_default.was in
    let d = value-bounds (holds c.value.ensures f) in
    let k = c.in_default in
    let u = said_no c.is_wanted.ensures c.if-is_wanted.false in
    (omega arith, goes_on c.loop-kind.invariant.1 (steps_property T c.in_ok-kind.was k.not-EndNode k.not-BeginNode c.value.ensures f (unwanted u)))

pub node-returns-in_default : goal.node-returns-in_default
node-returns-in_default t c = seeks_passed c.enters.ensures c.in_default.is c.skip_node.ensures c.in_ok-m.was

pub node-returns-in_err-a : goal.node-returns-in_err-a
node-returns-in_err-a t c = rw c.from_residual-in_err-a.ensures (seeks_none (λ n v. node-unnamed c.name.ensures c.in_err-a.was n v))

pub node-slice_bounds-members-count : goal.node-slice_bounds-members-count
node-slice_bounds-members-count t c = (holds c.enters.ensures c.in-Some.is).to.inside

pub node-slice_bounds-members-start : goal.node-slice_bounds-members-start
node-slice_bounds-members-start t c = let i = (holds c.enters.ensures c.in-Some.is).to.inside in search rules

pub node-members-requires : goal.node-members-requires
node-members-requires t c =
    let b = name-bounds (holds c.name.ensures c.in_ok-a.was) in
    omega arith

pub node-returns : goal.node-returns
node-returns t c =
    let E = holds c.enters.ensures c.in-Some.is in
    let i : c.args.depth ≡ suc c.in_ok-inner.inner = omega (arith, c.in_ok-inner.ensures) in
    seeks_entered c.name.ensures c.in_ok-a.was i E (part-behind c.args.path.now _) c.members.ensures
