-- The invariant: the bytes before the index are zeros. A turn stores one zero more.
use Rattle.std.proofs.Common.{◌≡◌, take, replicate}
use Rattle.wire.proofs.zero_part.Given as goal

abbrev pub invariant-loop-byte : goal.invariant-loop-byte
invariant-loop-byte l = take l.byte-index l.byte-items ≡ replicate l.byte-index 0
