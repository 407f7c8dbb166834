-- The exponent's bits are all ones, with others below them, exactly where the pattern without its sign is above that of infinity.
use mathlib.Core.Path.{sym}
use lib.Ieee.{binary64}
use lib.Ieee.Bits.{nan_bits_above}
use Rattle.certificate.proofs.contents.is_no_number.Goals as goal

pub returns : goal.returns
returns c = sym (nan_bits_above binary64 _)
