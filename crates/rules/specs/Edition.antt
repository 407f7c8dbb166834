-- An edition of the specification: the three things in which the check of its lists differs. Source 001 is the current one; edition
-- 0.9 is in Edition09. The walk, the check and find are written once for both, over the edition or the header's own size.
use Rattle.std.specs.Prelude.{ℕ, Bool, List}
use Rattle.rules.specs.Header as header
use Rattle.rules.specs.Checksum.{checksum_holds}

-- the signature, the header's own size, and when the checksum rule holds of a list's bytes
pub record Edition : Type 0 where
  pub signature : ℕ
  pub header_size : ℕ
  pub summed : List ℕ → Bool

-- source 001's
abbrev pub current : Edition
current = record { signature = header.signature; header_size = header.header_size; summed = checksum_holds }
