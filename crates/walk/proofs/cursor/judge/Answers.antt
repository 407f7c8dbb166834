-- A header of eight bytes breaks no rule of any version and leaves the data's size to round up; any other is wrong in version 1.
use Rattle.std.proofs.Common.{◌≡◌, Bool, true, false, not, ◌&&◌, ◌||◌, eqb, ltb, refl, arith, le-ltb, eq-eqb, ne_eqb}
use mathlib.Core.Bool.{and-false}
use Rattle.rules.specs.Entries.{span}
use Rattle.rules.specs.Add.{entry_span}
use Rattle.laws.proofs.Walk.{neither}
use Rattle.walk.proofs.cursor.judge.Goals as goal

pub returns-then-e-eq-SMALLEST_ENTRY : goal.returns-then-e-eq-SMALLEST_ENTRY
returns-then-e-eq-SMALLEST_ENTRY c =
    let e = c.args.e in
    let s : span e ≡ entry_span e.data_size = omega arith in
    simp (c.fit.ensures, c.entry_span.ensures, s, eq-eqb _ _ c.if-e-eq-SMALLEST_ENTRY.true, le-ltb e.hdr_size 8 (omega arith), and-false)

-- a size other than 8 is wrong in version 1, and in every version where it is under 8
either : (v b : Bool) → (v || b) ≡ true → (v && true || not v && b) ≡ true
either true b h = refl
either false b h = h

pub returns-then-version-e : goal.returns-then-version-e
returns-then-version-e c =
    let a = c.args in
    simp (
      ne_eqb _ _ c.if-e-eq-SMALLEST_ENTRY.false,
      either (eqb a.version 1) (ltb a.e.hdr_size 8) c.if-version-e.true,
    )

pub returns : goal.returns
returns c =
    let a = c.args in
    let l = neither (eqb a.version 1) (ltb a.e.hdr_size 8) c.if-version-e.false in
    simp (c.fit-2.ensures, c.span.ensures, l.0, l.1)
