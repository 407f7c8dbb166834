-- Only NOPs stand from the place up to where the loop is, so the first other number is the token.
use Rattle.std.proofs.Common.{◌∙◌, ap, arith, rules}
use Rattle.devicetree.specs.Decided.{kind_of}
use Rattle.devicetree.proofs.TokenLaws.{skipped_none, skipped_more, token_found, token_none, token_outside}
use Rattle.devicetree.proofs.tokens.next_token.Goals as goal

pub returns-then-s-at : goal.returns-then-s-at
returns-then-s-at c = token_outside c.if-s-at.true

pub loop-p-init : goal.loop-p-init
loop-p-init c = (omega arith, skipped_none)

pub returns-then-ne : goal.returns-then-ne
returns-then-ne c =
    let k = c.from-kind.ensures ∙ ap kind_of c.cell.ensures in
    token_found c.loop-p.invariant.1 (omega arith) k (λ e. let h = c.ne.ensures in search rules)

pub loop-p-preserved : goal.loop-p-preserved
loop-p-preserved c = (omega arith, skipped_more c.loop-p.invariant.1 (omega arith) (let h = c.ne.ensures in search rules))

pub returns : goal.returns
returns c = token_none c.loop-p.invariant.1 (omega arith)
