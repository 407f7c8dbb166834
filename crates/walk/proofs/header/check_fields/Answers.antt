-- Each refusal comes where the tests before it failed and its own held; the answers of the callees are the terms of the rules.
use Rattle.std.specs.Prelude.{None, Some}
use Rattle.std.proofs.Common.{◌≡◌, cond, eq-eqb, ne_eqb}
use Rattle.rules.specs.declared.Refusal.TheVariants.{Sizes}
use Rattle.rules.specs.Check.{fields_refusal}
use Rattle.walk.specs.Format.{edition_of}
use Rattle.walk.proofs.header.check_fields.Goals as goal

pub returns-then-h-signature : goal.returns-then-h-signature
unfolding fields_refusal
returns-then-h-signature c = simp (← c.signature.ensures, ne_eqb _ _ c.if-h-signature.true)

pub returns-then-h-eq0 : goal.returns-then-h-eq0
unfolding fields_refusal
returns-then-h-eq0 c =
    simp (← c.signature.ensures, eq-eqb _ _ c.if-h-signature.false, eq-eqb _ _ c.if-h-eq0.true)

pub returns-then-refuses_readonly : goal.returns-then-refuses_readonly
unfolding fields_refusal
returns-then-refuses_readonly c =
    simp (
      ← c.signature.ensures,
      eq-eqb _ _ c.if-h-signature.false,
      ne_eqb _ _ c.if-h-eq0.false,
      ← c.refuses_readonly.ensures,
      c.if-refuses_readonly.true,
    )

pub returns-then-refuses_sizes : goal.returns-then-refuses_sizes
unfolding fields_refusal
returns-then-refuses_sizes c =
    let sizes-decide : fields_refusal (edition_of c.args.format) c.args.editing c.args.len c.args.h ≡ cond c.refuses_sizes.result (Some Sizes) None
    = simp (
      ← c.signature.ensures,
      eq-eqb _ _ c.if-h-signature.false,
      ne_eqb _ _ c.if-h-eq0.false,
      ← c.refuses_readonly.ensures,
      c.if-refuses_readonly.false,
      ← c.refuses_sizes.ensures,
    ) in
    rw (sizes-decide, c.if-refuses_sizes.true)

pub returns : goal.returns
unfolding fields_refusal
returns c =
    let sizes-decide : fields_refusal (edition_of c.args.format) c.args.editing c.args.len c.args.h ≡ cond c.refuses_sizes.result (Some Sizes) None
    = simp (
      ← c.signature.ensures,
      eq-eqb _ _ c.if-h-signature.false,
      ne_eqb _ _ c.if-h-eq0.false,
      ← c.refuses_readonly.ensures,
      c.if-refuses_readonly.false,
      ← c.refuses_sizes.ensures,
    ) in
    rw (sizes-decide, c.if-refuses_sizes.false)
