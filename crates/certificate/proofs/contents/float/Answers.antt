-- A pattern of no number is nan's, which 0.0 / 0.0 is; of any other the value is from_bits' own.
use mathlib.Core.Path.{◌≡◌, refl, sym, ◌∙◌}
use Prim.Native.Nat.{ℕ}
use mathlib.Core.Bool.{true}
use native.Mathlib.Omega.{arith}
use lib.Ieee.{Float, nan, inf, fin, binary64, of_bits, div, is_nan}
use lib.Ieee.Bits.{nan_bits_is}
use Rattle.certificate.proofs.contents.float.Goals as goal

-- there is one nan
is-nan : (x : Float) → is_nan x ≡ true → x ≡ nan
unfolding is_nan
is-nan nan h = refl
is-nan (inf s) h = absurd (let z : ◌≡◌ {A = ℕ} 0 1 = cc in omega arith)
is-nan (fin s m e) h = absurd (let z : ◌≡◌ {A = ℕ} 0 1 = cc in omega arith)

pub returns-then-is_no_number : goal.returns-then-is_no_number
unfolding div of_bits
returns-then-is_no_number c = sym (is-nan _ (sym (nan_bits_is binary64 _) ∙ sym c.is_no_number.ensures ∙ c.if-is_no_number.true))
