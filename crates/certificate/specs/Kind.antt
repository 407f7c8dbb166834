-- The kinds of gates by their numbers.
use Rattle.std.specs.Prelude.{Err, Ok, Result, ℕ, cond}
use Rattle.rules.specs.declared.certificate.Uncertified.{Uncertified}
use Rattle.rules.specs.declared.certificate.Uncertified.TheVariants.{Unsound}
use Rattle.rules.specs.Certificate.{is_band, is_ceiling, is_floor}
use Rattle.certificate.specs.declared.kind.Kind.{Kind}
use Rattle.certificate.specs.declared.kind.Kind.TheVariants.{Band, Ceiling, Floor}

-- "(kinds 1, 2, 3)"; any other number is that of no kind
abbrev pub kind_of : ℕ → Result Kind Uncertified
kind_of n = cond (is_band n) (Ok Band) (cond (is_ceiling n) (Ok Ceiling) (cond (is_floor n) (Ok Floor) (Err Unsound)))
