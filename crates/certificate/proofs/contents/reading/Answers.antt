-- The product and the sum are the rule's own two operations.
use mathlib.Core.Path.{refl}
use Rattle.rules.specs.Certificate.{gauge_reading}
use Rattle.certificate.proofs.contents.reading.Goals as goal

pub returns : goal.returns
unfolding gauge_reading
returns c = refl
