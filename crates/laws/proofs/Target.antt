-- A list laid out in a target: how many bytes there are, and what stands from the shift on.
use mathlib.Core.Path.{◌≡◌, sym, ◌∙◌}
use Prim.Native.Nat.{ℕ, ◌+◌, ◌-◌, ◌≤◌}
use native.Mathlib.Omega.{arith}
use mathlib.Core.List.{List, ◌++◌}
use lib.ListN.{length, drop, replicate, length-append, length-replicate}
use lib.Seq.{drop_at}
use Rattle.rules.specs.Header.{header_of, header_size}
use Rattle.rules.specs.Checksum.{seal}
use Rattle.rules.specs.Relocate.{in_target}
use Rattle.laws.proofs.Seal.{seal-length, seal-append}
use Rattle.laws.proofs.Ready.{used_of}

-- a list that fits leaves the target as long as it was
pub length_target : (len by : ℕ) (list : List ℕ) → by + length list ≤ len → length (in_target len by list) ≡ len
unfolding in_target
length_target len by list h = rw (length-append, length-append, length-replicate, length-replicate) (omega arith)

-- a sealed list from the shift on, with the zeros behind it, is sealed
pub sealed_target : (len by : ℕ) (d : List ℕ) → header_size ≤ length d → let c = d ++ replicate (len - by - length d) 0 in
    used_of c ≤ length d → drop by (in_target len by (seal d)) ≡ seal c
unfolding in_target header_of
sealed_target len by d low used =
    rw (seal-length d)
    (drop_at (replicate by 0) (seal d ++ replicate (len - by - length d) 0) by (length-replicate by 0)
    ∙ sym (seal-append d (replicate (len - by - length d) 0) low used))
