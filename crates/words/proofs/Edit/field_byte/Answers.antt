-- By the tests of i: the checksum byte, the alignment, the bytes of used_size, and as it was elsewhere.
use mathlib.Core.Path.{sym, ◌∙◌}
use native.Mathlib.Omega.{arith}
use Rattle.words.proofs.Laws.{fields_checksum, fields_alignment, fields_used, fields_kept}
use Rattle.words.proofs.Edit.field_byte.Goals as goal

pub returns-in-4 : goal.returns-in-4
returns-in-4 c =
    let e = c.args.self.now in
    rw c.in-4.is (sym (fields_checksum e.plan e.area.now (omega arith)))

pub returns-in-7 : goal.returns-in-7
returns-in-7 c =
    let e = c.args.self.now in
    rw c.in-7.is (sym (fields_alignment e.plan e.area.now (omega arith) (omega arith)))

pub returns-in-8-to-11 : goal.returns-in-8-to-11
returns-in-8-to-11 c =
    let e = c.args.self.now in
    c.byte_of.ensures ∙ sym (fields_used e.plan e.area.now (omega arith) c.args.i (omega arith) (omega arith))

pub returns-in_default : goal.returns-in_default
returns-in_default c =
    let e = c.args.self.now in
    sym (fields_kept e.plan e.area.now (omega arith) c.args.i (λ d. omega arith) (λ d. omega arith) (λ d. omega arith))
