-- The new base of a relocation: the lowest address at or above the target base that equals the old base modulo m. That of a conversion,
-- by the same laws. Data addresses after either.
use mathlib.Core.Path.{◌≡◌, refl, sym, ap, ◌∙◌}
use Prim.Native.Nat.{ℕ, ◌+◌, ◌*◌, ◌/◌, ◌%◌, ◌≤◌, ◌<◌}
use native.Mathlib.Omega.{arith}
use native.Mathlib.Nat.{
  mod-lt,
  mod-mod,
  add-mod,
  add-mod_right,
  mul-add-mod_self_right,
  lt-div-mul-add,
  div-mul-le_self,
  div-add-mod',
  le-div_iff_mul-le,
  mul-le-mul_right,
  add-mul,
}
use mathlib.Core.Bool.{Bool, true, false, cond}
use mathlib.Core.List.{List, map, map-map, map_congr_left}
use lib.Dec.{ltb, leb}
use borrow.Author.Tests.{ltb-true, ltb-false, leb-true, leb-false}
use Rattle.rules.specs.declared.Entry.{Entry}
use Rattle.rules.specs.Entries.{data_offset}
use Rattle.rules.specs.Relocate.{in_block, new_base}
use Rattle.rules.specs.Edition09.{growth, grown_base}
use Rattle.laws.proofs.Row.{later}

module _ (m base target : ℕ) (positive : 0 < m) where
  -- what holds in both cases holds
  in_cases : (P : ℕ → Type 0) → (in_block m base target < target → P (in_block m base target + m))
      → (target ≤ in_block m base target → P (in_block m base target)) → P (new_base m base target)
  unfolding new_base
  in_cases P f g = go (ltb (in_block m base target) target) refl
    where
      go : (b : Bool) → ltb (in_block m base target) target ≡ b → P (cond b (in_block m base target + m) (in_block m base target))
      go true h = f (ltb-true (in_block m base target) target h)
      go false h = g (ltb-false (in_block m base target) target h)

  -- it is not below the target base
  pub new_base-least : target ≤ new_base m base target
  new_base-least = in_cases (λ x. target ≤ x) (λ h. omega (arith, lt-div-mul-add {a = target} positive)) (λ h. h)

  -- it equals the old base modulo m
  pub new_base-mod : new_base m base target % m ≡ base % m
  new_base-mod =
      let block : in_block m base target % m ≡ base % m = mul-add-mod_self_right (target / m) m (base % m) ∙ mod-mod base m in
      in_cases (λ x. x % m ≡ base % m) (λ h. add-mod_right (in_block m base target) m ∙ block) (λ h. block)

  -- it is less than m above the target base
  pub new_base_near : new_base m base target < target + m
  new_base_near = in_cases (λ x. x < target + m) (λ h. omega arith) (λ h. omega (arith, mod-lt base positive, div-mul-le_self target m))

  -- no lower address at or above the target base equals the old base modulo m
  pub new_base_lowest : (x : ℕ) → target ≤ x → x % m ≡ base % m → new_base m base target ≤ x
  new_base_lowest x h e =
      let low : target / m * m ≤ target = div-mul-le_self target m in
      let b : target / m ≤ x / m = (le-div_iff_mul-le {x = target / m} {y = x} positive).1 (omega arith) in
      let same : x / m * m + base % m ≡ x = rw (← e) (div-add-mod' x m) in
      in_cases (λ y. y ≤ x) (λ k. next k (leb (target / m + 1) (x / m)) refl b same) (λ k. omega (arith, same, mul-le-mul_right m b))
    where
      next : in_block m base target < target → (c : Bool) → leb (target / m + 1) (x / m) ≡ c → target / m ≤ x / m
          → x / m * m + base % m ≡ x → in_block m base target + m ≤ x
      next k true d b same =
          omega (arith, add-mul (target / m) 1 m, mul-le-mul_right m (leb-true (target / m + 1) (x / m) d))
      next k false d b same =
          let l : x / m < target / m + 1 = leb-false (target / m + 1) (x / m) d in
          let s : x / m ≡ target / m = omega arith in
          absurd (let q : target / m * m + base % m ≡ x = rw s at same in omega arith)

-- equal addresses modulo m stay equal the same number of bytes further on
shift-mod : (m x y k : ℕ) → x % m ≡ y % m → (x + k) % m ≡ (y + k) % m
shift-mod m x y k h = add-mod x k m ∙ ap (λ (r : ℕ). (r + k % m) % m) h ∙ sym (add-mod y k m)

-- ---- the new base of a conversion: the lowest address at or above the target base that, eight bytes further on, equals the old base

module _ (m base target : ℕ) (positive : 0 < m) where
  -- those eight bytes further on
  grown_base_further : grown_base m base target + growth ≡ new_base m base (target + growth)
  unfolding grown_base
  grown_base_further = omega (arith, new_base-least m base (target + growth) positive)

  -- it is not below the target base
  pub grown_base-least : target ≤ grown_base m base target
  grown_base-least = omega (arith, grown_base_further, new_base-least m base (target + growth) positive)

  -- eight bytes further on it equals the old base modulo m
  pub grown_base-mod : (grown_base m base target + growth) % m ≡ base % m
  grown_base-mod = rw grown_base_further (new_base-mod m base (target + growth) positive)

  -- no lower address at or above the target base does so
  pub grown_base_lowest : (x : ℕ) → target ≤ x → (x + growth) % m ≡ base % m → grown_base m base target ≤ x
  grown_base_lowest x h e = omega (arith, grown_base_further, new_base_lowest m base (target + growth) positive (x + growth) (omega arith) e)

-- ---- data addresses

-- entries that stand d bytes further on, in a list whose base with these d bytes equals the old one modulo m, keep theirs modulo m
pub addresses-later : (m base new_base d : ℕ) (es : List Entry) → (new_base + d) % m ≡ base % m
    → map (λ (e : Entry). (new_base + data_offset e) % m) (map (later d) es) ≡ map (λ (e : Entry). (base + data_offset e) % m) es
addresses-later m base new_base d es h =
    rw map-map
    (map_congr_left {l = es}
    (λ e x.
    let o : new_base + data_offset (later d e) ≡ new_base + d + data_offset e = omega arith in
    rw o (shift-mod m (new_base + d) base (data_offset e) h)))
