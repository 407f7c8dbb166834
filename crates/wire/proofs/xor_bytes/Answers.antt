-- The invariant: x is the exclusive or of the bytes before the index. A turn takes one byte more.
use Rattle.std.proofs.Common.{sym, arith, rules}
use Rattle.wire.specs.Bytes.{xor}
use Rattle.wire.proofs.XorLaws.{xor-next}
use Rattle.wire.proofs.xor_bytes.Goals as goal

pub loop-byte-init : goal.loop-byte-init
unfolding xor
loop-byte-init c = search rules

pub loop-byte-preserved : goal.loop-byte-preserved
loop-byte-preserved c =
    let l = c.loop-byte in
    let s = c.args.part.now in
    rw l.invariant (sym (xor-next s l.byte-index (omega arith)))
