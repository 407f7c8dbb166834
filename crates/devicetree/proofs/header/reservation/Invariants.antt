-- A zero pair ends the block from the place on exactly where it ends that from where the loop is.
use Rattle.std.proofs.Common.{◌≡◌}
use Rattle.std.specs.Slice.Iter.{chunks_exact_rest, chunks_exact_size}
use Rattle.devicetree.specs.Header.{pair_size}
use Rattle.devicetree.proofs.TreeLaws.{Pairs}
use Rattle.devicetree.proofs.header.reservation.Given as goal

abbrev pub invariant-loop-pair : goal.invariant-loop-pair
invariant-loop-pair l =
    (chunks_exact_size l.pair-iterator ≡ pair_size) × Pairs l.d l.end l.at (chunks_exact_rest l.pair-iterator)
