-- What a tag, an alignment and a target that are not refused keep to.
use mathlib.Core.Path.{◌≡◌}
use Prim.Native.Nat.{ℕ, ◌+◌, ◌^◌, ◌≤◌, ◌<◌}
use native.Mathlib.Omega.{arith}
use mathlib.Core.Bool.{false}
use lib.Dec.{ltb, eqb}
use borrow.Author.Tests.{ltb-false, eqb-false}
use Rattle.rules.specs.Area.{max_length, max_alignment, max_address}
use Rattle.rules.specs.Header.{least_alignment}
use Rattle.rules.specs.Refusals.{refuses_tag, refuses_align, refuses_target}
use Rattle.laws.proofs.Walk.{neither}

-- a tag
pub tag_range : (tag : ℕ) → refuses_tag tag ≡ false → (0 < tag) × (tag < 2 ^ 24)
tag_range tag h =
    let p = neither (eqb tag 0) (ltb 0xffffff tag) h in
    let z : tag ≡ 0 → ⊥ = eqb-false tag 0 p.0 in
    let l : tag ≤ 0xffffff = ltb-false 0xffffff tag p.1 in
    (omega arith, omega arith)

-- an alignment
pub align_range : (x : ℕ) → refuses_align x ≡ false → (least_alignment ≤ x) × (x ≤ max_alignment)
align_range x h =
    let p = neither (ltb x least_alignment) (ltb max_alignment x) h in
    (ltb-false x least_alignment p.0, ltb-false max_alignment x p.1)

-- a target
pub target_reach : (base len : ℕ) → refuses_target base len ≡ false → (base + len ≤ max_address) × (len ≤ max_length)
target_reach base len h =
    let p = neither (ltb max_address (base + len)) (ltb max_length len) h in
    (ltb-false _ _ p.0, ltb-false _ _ p.1)
