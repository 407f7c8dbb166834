-- The two tests are those of the rule, and the difference is how far behind the target base the list starts.
use mathlib.Core.Path.{◌≡◌, sym, ◌∙◌}
use Prim.Native.Nat.{ℕ, ◌+◌, ◌^◌, ◌≤◌, ◌<◌}
use native.Mathlib.Omega.{arith}
use lib.Pow.{pow_pos, pow_mono}
use borrow.Author.Tests.{lt-ltb, le-ltb}
use mathlib.Core.Bool.{Bool, false}
use Rattle.rules.specs.Refusals.{refuses_target}
use Rattle.rules.specs.Relocate.{new_base}
use Rattle.rules.specs.Area.{max_address, max_length}
use Rattle.laws.proofs.Passed.{target_reach}
use Rattle.laws.proofs.NewBase.{new_base-least, new_base_near}
use Rattle.destination.proofs.find_place.Goals as goal

-- a target that 12 does not refuse ends below the highest address, and the list's new base lies in it or less than a block behind it
reached : (target_base len : ℕ) (b : Bool) → b ≡ refuses_target target_base len → b ≡ false
    → (target_base + len ≤ max_address) × (len ≤ max_length)
reached target_base len b e f = target_reach target_base len (sym e ∙ f)

near : (exponent base from : ℕ) → exponent < 32 → (from ≤ new_base (2 ^ exponent) base from) × (new_base (2 ^ exponent) base from < from + 2 ^ 32)
near exponent base from h =
    let p : 2 ^ exponent ≤ 2 ^ 32 = pow_mono {j = 32} (omega arith) in
    (new_base-least (2 ^ exponent) base from (pow_pos exponent), omega (arith, new_base_near (2 ^ exponent) base from (pow_pos exponent)))

pub returns-then-refuses_target : goal.returns-then-refuses_target
returns-then-refuses_target c = simp (← c.refuses_target.ensures, c.if-refuses_target.true)

pub overflow_add-from : goal.overflow_add-from
overflow_add-from c = omega (arith, reached c.args.target_base c.args.len _ c.refuses_target.ensures c.if-refuses_target.false)

pub new_base-requires : goal.new_base-requires
new_base-requires c = (c.requires.0, omega (arith, reached c.args.target_base c.args.len _ c.refuses_target.ensures c.if-refuses_target.false))

pub overflow_sub-shift : goal.overflow_sub-shift
overflow_sub-shift c = omega (arith, c.new_base.ensures, near c.args.alignment c.args.base (c.args.target_base + c.args.growth) c.requires.0)

pub overflow_add-shift : goal.overflow_add-shift
overflow_add-shift c = omega (arith, c.new_base.ensures, near c.args.alignment c.args.base (c.args.target_base + c.args.growth) c.requires.0, c.requires.1)

pub returns-then-len-shift : goal.returns-then-len-shift
returns-then-len-shift c =
    simp (← c.refuses_target.ensures, c.if-refuses_target.false, ← c.new_base.ensures, lt-ltb _ _ c.if-len-shift.true)

pub returns : goal.returns
returns c =
    simp (← c.refuses_target.ensures, c.if-refuses_target.false, ← c.new_base.ensures, le-ltb _ _ c.if-len-shift.false)
