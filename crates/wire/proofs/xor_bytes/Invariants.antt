-- The invariant: x is the exclusive or of the bytes before the index. A turn takes one byte more.
use Rattle.std.proofs.Common.{◌≡◌, take}
use Rattle.wire.specs.Bytes.{xor}
use Rattle.wire.proofs.xor_bytes.Given as goal

abbrev pub invariant-loop-byte : goal.invariant-loop-byte
invariant-loop-byte l = l.x ≡ xor (take l.byte-index l.part)
