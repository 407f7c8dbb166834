-- Each field is the number that was read at its place.
use Rattle.devicetree.specs.Header.{header_of}
use Rattle.devicetree.proofs.header.Header.read.Goals as goal

pub returns : goal.returns
unfolding header_of
returns c =
    simp (
      ← c.cell-9.ensures,
      ← c.cell-8.ensures,
      ← c.cell-7.ensures,
      ← c.cell-6.ensures,
      ← c.cell-5.ensures,
      ← c.cell-4.ensures,
      ← c.cell-3.ensures,
      ← c.cell-2.ensures,
      ← c.cell.ensures,
    )
