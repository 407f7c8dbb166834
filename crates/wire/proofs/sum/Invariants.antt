-- The invariant: x is the sum of the bytes before the index, modulo 256. A turn takes one byte more.
use Rattle.std.proofs.Common.{◌≡◌, ◌%◌, take}
use Rattle.wire.specs.Bytes.{sum}
use Rattle.wire.proofs.sum.Given as goal

abbrev pub invariant-loop-byte : goal.invariant-loop-byte
invariant-loop-byte l = l.x ≡ sum (take l.byte-index l.part) % 256
