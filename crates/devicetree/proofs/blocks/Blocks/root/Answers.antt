-- The first token is a node's and its name is empty: then the root is there exactly where that node is.
use Rattle.std.proofs.Common.{◌∙◌, sym, ap, get_or}
use borrow.Author.Tests.{ltb-true}
use Rattle.devicetree.proofs.Deciding.{same_decides}
use Rattle.devicetree.proofs.TreeLaws.{root-node}
use Rattle.devicetree.proofs.blocks.Blocks.root.Goals as goal

pub returns : goal.returns
returns c =
    let g = c.in_ok-get.ensures.lookup in
    let zero = c.if-branch-ne0.false in
    let is = ap (λ d. get_or c.args.self.now.structure.now c.in_ok-a.field-0.1 d) (sym zero) ∙ sym g.1 ∙ zero in
    same_decides (root-node c.next_token.ensures c.in_ok-a.was c.in-BeginNode-default.is-0 (ltb-true _ _ (sym g.0)) is) c.node.ensures
