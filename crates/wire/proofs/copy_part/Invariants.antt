-- The invariant: the bytes before the index are those of src.
use Rattle.std.proofs.Common.{◌≡◌, take}
use Rattle.wire.proofs.copy_part.Given as goal

abbrev pub invariant-loop-i : goal.invariant-loop-i
invariant-loop-i l = take l.i l.part ≡ take l.i l.src
