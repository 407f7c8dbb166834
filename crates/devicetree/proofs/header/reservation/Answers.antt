-- A zero pair ends the block from the place on exactly where it ends that from where the loop is.
use Rattle.std.proofs.Common.{◌∙◌, ap, arith}
use Rattle.std.specs.Slice.Iter.{chunks_exact_rest, chunks_exact_size}
use Rattle.devicetree.specs.Decided.{yes, no}
use Rattle.devicetree.proofs.TreeLaws.{reservation_nowhere, pairs_start, pairs_end, pairs_more, pairs_over}
use Rattle.devicetree.proofs.header.reservation.Goals as goal

pub returns-in_default : goal.returns-in_default
returns-in_default c = no (λ r. reservation_nowhere c.in_default.ensures.lookup.0 c.requires r)

pub loop-pair-init : goal.loop-pair-init
loop-pair-init c =
    let g = c.in-Some.ensures.lookup.0 in
    let i = c.into_iter-pair-iterator.ensures.into_iter_gives in
    let n = c.chunks_exact-pair-items.ensures in
    (ap chunks_exact_size i ∙ n.size, pairs_start g.0 (ap chunks_exact_rest i ∙ n.rest ∙ g.2))

pub returns-then-zeros : goal.returns-then-zeros
returns-then-zeros c =
    let i = c.loop-pair.invariant in
    let s = c.in-Some-pair.ensures.steps.1 in
    yes (pairs_end c.requires i.1 _ _ s.0 (s.1 ∙ i.0) c.zeros.ensures c.if-zeros.true)

pub loop-pair-preserved : goal.loop-pair-preserved
loop-pair-preserved c =
    let i = c.loop-pair.invariant in
    let s = c.in-Some-pair.ensures.steps in
    (s.0 ∙ i.0, pairs_more c.requires i.1 _ _ s.1.0 (s.1.1 ∙ i.0) c.zeros.ensures c.if-zeros.false)

pub returns : goal.returns
returns c =
    let i = c.loop-pair.invariant in
    let s = c.in-None.ensures.steps.1 in
    no (pairs_over c.requires i.1 (omega arith))
