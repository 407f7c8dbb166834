-- Powers of two from 8 on, as moduli.
use mathlib.Core.Path.{◌≡◌, sym, ap, ◌∙◌}
use Prim.Native.Nat.{ℕ, zero, suc, ◌*◌, ◌%◌, ◌^◌, ◌≤◌, ◌<◌}
use native.Mathlib.Omega.{arith}
use lib.Pow.{shl_exact}
use native.Mathlib.Nat.{one-mul, pow-suc, one-le-pow, mod-mod_of_dvd, dvd_of_mod-eq-zero}

-- a power of two is no less than 1
pub power_positive : (k : ℕ) → 0 < 2 ^ k
power_positive k = one-le-pow k 2 (omega arith)

-- from the third power on it is a multiple of 8
pub power_eights : (k : ℕ) → 3 ≤ k → 2 ^ k % 8 ≡ 0
power_eights zero h = absurd (omega arith)
power_eights (suc zero) h = absurd (omega arith)
power_eights (suc (suc zero)) h = absurd (omega arith)
power_eights (suc (suc (suc k))) h =
    let e : 2 ^ suc (suc (suc k)) ≡ 2 ^ k * 2 * 2 * 2 = rw (pow-suc 2 (suc (suc k)), pow-suc 2 (suc k), pow-suc 2 k) in
    rw e (omega arith)

-- a remainder modulo a multiple of 8, modulo 8
pub eights-mod : (x m : ℕ) → m % 8 ≡ 0 → x % m % 8 ≡ x % 8
eights-mod x m h = mod-mod_of_dvd 8 x (dvd_of_mod-eq-zero 8 h)

-- of two addresses that are equal modulo a multiple of 8, both are multiples of 8 or neither
pub eights_same : (x y m : ℕ) → m % 8 ≡ 0 → x % m ≡ y % m → x % 8 ≡ y % 8
eights_same x y m h e = sym (eights-mod x m h) ∙ ap (λ (r : ℕ). r % 8) e ∙ eights-mod y m h

-- 1 shifted left is a power of two
pub shifted : (k : ℕ) → k < 32 → 1 * 2 ^ k % 2 ^ 64 ≡ 2 ^ k
shifted k h = shl_exact {a = 1} 1 k 64 (omega arith) (omega arith) ∙ one-mul (2 ^ k)
