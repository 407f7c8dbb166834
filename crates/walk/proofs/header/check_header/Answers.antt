-- An area that is not usable is refused, then one that is too short; the fields of the header that is read there decide the rest.
use Rattle.std.proofs.Common.{arith, le-ltb, lt-ltb}
use Rattle.rules.specs.Check.{header_refusal}
use Rattle.walk.proofs.Headed.{shortest}
use Rattle.walk.proofs.header.check_header.Goals as goal

pub returns-then-not-usable : goal.returns-then-not-usable
unfolding header_refusal
returns-then-not-usable c = simp (← c.usable.ensures, c.if-not-usable.true)

pub returns-then-len-header_size : goal.returns-then-len-header_size
unfolding header_refusal
returns-then-len-header_size c =
    simp (← c.usable.ensures, c.if-not-usable.false, ← c.header_size.ensures, lt-ltb _ _ c.if-len-header_size.true)

pub read_header-requires : goal.read_header-requires
read_header-requires c =
    omega (arith, c.header_size.ensures, shortest c.args.format)

pub returns : goal.returns
unfolding header_refusal
returns c =
    simp (
      c.check_fields.ensures,
      c.read_header.ensures,
      ← c.usable.ensures,
      c.if-not-usable.false,
      ← c.header_size.ensures,
      le-ltb _ _ c.if-len-header_size.false,
    )
