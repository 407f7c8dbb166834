-- Each field is read at its place in the table; a field of one byte is that byte, and behind the end a field's bytes count 0.
use Rattle.std.proofs.Common.{◌≡◌, ℕ, List, get_or, arith}
use Rattle.wire.specs.Bytes.{field}
use Rattle.rules.specs.Header.{header_of}
use Rattle.walk.proofs.header.read_header.Goals as goal

-- a field of one byte is the byte
one_byte : (a : List ℕ) (at : ℕ) → field a at 1 ≡ get_or a at 0
unfolding field
one_byte a at = omega arith

pub returns : goal.returns
unfolding header_of
returns c =
    simp (
      one_byte,
      ← c.read4_or_zeros-2.ensures,
      ← c.read4_or_zeros.ensures,
      ← c.read-3.ensures,
      ← c.read-2.ensures,
      ← c.read.ensures,
    )
