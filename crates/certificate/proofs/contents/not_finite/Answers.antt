-- Strictly between the infinities lie exactly the finite ones.
use mathlib.Core.Path.{◌≡◌, refl}
use mathlib.Core.Bool.{true, false, not, ◌&&◌}
use lib.Ieee.{Float, nan, inf, fin, of_bits, nan_bits, neg, lt}
use Rattle.rules.specs.Certificate.{not_finite}
use Rattle.certificate.proofs.contents.not_finite.Goals as goal

between : (x : Float) → not (lt (inf true) x && lt x (inf false)) ≡ not_finite x
unfolding lt not_finite
between nan = refl
between (inf true) = refl
between (inf false) = refl
between (fin s m e) = refl

pub float_from_bits-infinity : goal.float_from_bits-infinity
unfolding nan_bits
float_from_bits-infinity c = tt

pub returns : goal.returns
unfolding of_bits neg
returns c = between c.args.x
