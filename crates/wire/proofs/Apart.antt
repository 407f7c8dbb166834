-- Two constructors that an equation would join are apart: where `cc` brings 0 and 1 together, anything follows.
use mathlib.Core.Path.{◌≡◌}
use Prim.Native.Nat.{ℕ}
use native.Mathlib.Omega.{arith}

pub apart {ℓ} : {A : Type ℓ} → ◌≡◌ {A = ℕ} 0 1 → A
apart z = absurd (omega arith)
