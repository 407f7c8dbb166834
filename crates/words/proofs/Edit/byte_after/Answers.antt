-- By the tests of i: a byte before the stretch may be one of the header fields, one in it is the stretch's, and one behind it is as it was.
use mathlib.Core.Path.{sym, ◌∙◌}
use native.Mathlib.Omega.{arith}
use mathlib.Core.Logic.{inl, inr}
use Rattle.plan.proofs.Laws.{header_span_le}
use Rattle.words.proofs.Laws.{after_in, after_fields, after_outside}
use Rattle.words.proofs.Edit.byte_after.Goals as goal

pub returns-then-i-p : goal.returns-then-i-p
returns-then-i-p c =
    let e = c.args.self.now in
    c.field_byte.ensures ∙ sym (after_fields e.plan e.area.now e.«data».now e.writable c.args.i (inl (omega arith)))

pub overflow_add-p-4 : goal.overflow_add-p-4
overflow_add-p-4 c = omega (arith, (header_span_le c.args.self.now.plan.behind).0)

pub returns-then-k-p : goal.returns-then-k-p
returns-then-k-p c =
    let e = c.args.self.now in
    c.stretch_byte.ensures ∙ sym (after_in e.plan e.area.now e.«data».now e.writable c.args.i (omega arith) (omega arith))

pub returns : goal.returns
returns c =
    let e = c.args.self.now in
    sym (after_outside e.plan e.area.now e.«data».now e.writable c.args.i (omega arith) (inr (omega arith)))
