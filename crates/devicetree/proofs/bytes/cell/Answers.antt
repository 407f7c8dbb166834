-- The four bytes are below 256, so no sum or product wraps, and the result is the number by its definition.
use native.Mathlib.Omega.{arith}
use Rattle.devicetree.specs.Header.{cell}
use Rattle.devicetree.proofs.bytes.cell.Goals as goal

pub returns : goal.returns
unfolding cell
returns c = omega arith
