-- The store of the alignment is a splice of one byte, and write4 adds used_size.
use mathlib.Core.Path.{◌≡◌, ap, ◌∙◌}
use Prim.Native.Nat.{ℕ, ◌%◌, ◌<◌}
use native.Mathlib.Omega.{arith}
use mathlib.Core.List.{List}
use lib.ListN.{length, set, length-set}
use Rattle.wire.specs.Bytes.{le_bytes, splice}
use Rattle.wire.proofs.Splice.{splice-set}
use Rattle.plan.specs.Plan.{fields_after}
use Rattle.plan.proofs.write.write_fields.Goals as goal

pub bounds-a-7 : goal.bounds-a-7
bounds-a-7 c = simp length-set (omega arith)

pub write-requires : goal.write-requires
write-requires c = simp length-set (omega arith)

pub returns : goal.returns
unfolding fields_after le_bytes
returns c =
    let a : List ℕ = c.args.a.now in
    let p = c.args.p in
    let m : p.alignment % 256 ≡ p.alignment = omega arith in
    let h : 7 < length (set a 4 p.checksum) = simp length-set (omega arith) in
    c.write.ensures
    ∙ ap (λ (x : List ℕ). splice x 8 (le_bytes 4 p.used_size)) (rw m (splice-set (set a 4 p.checksum) 7 p.alignment h))
