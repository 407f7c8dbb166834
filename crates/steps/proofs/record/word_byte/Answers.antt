-- Byte by byte of the record: its kind, three zeros, the offset, the data.
use Rattle.plan.specs.Plan.{after}
use Rattle.steps.proofs.Tests.{word_offset, word_data}
use Rattle.journal.proofs.Words.{get_or_part}
use Prim.Native.Nat.{◌-◌}
use native.Mathlib.Omega.{arith}
use mathlib.Core.Path.{sym, ◌∙◌}
use Rattle.steps.proofs.record.word_byte.Goals as goal

pub returns-in-4-to-7 : goal.returns-in-4-to-7
returns-in-4-to-7 c = c.byte_of.ensures ∙ sym (word_offset _ _ _ (omega arith) (omega arith))

pub returns-in_default : goal.returns-in_default
returns-in_default c =
    let e = c.args.edit.now in
    let new = after e.plan e.area.now e.«data».now in
    c.byte_after.ensures ∙ sym (word_data c.args.k c.args.word _ (omega arith) ∙ get_or_part 8 new c.args.word (c.args.k - 8) (omega arith))
