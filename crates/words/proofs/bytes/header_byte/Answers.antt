-- By the tests of k: byte_of gives the tag's bytes and the size's, and between them stands 8.
use mathlib.Core.Path.{sym, ◌∙◌}
use native.Mathlib.Omega.{arith}
use Rattle.wire.specs.Bytes.{le_bytes}
use Rattle.rules.specs.Entries.{entry_header}
use Rattle.words.proofs.Laws.{header-tag, header-size}
use Rattle.words.proofs.bytes.header_byte.Goals as goal

pub returns-in-0-to-2 : goal.returns-in-0-to-2
returns-in-0-to-2 c =
    let a = c.args in
    c.byte_of.ensures ∙ sym (header-tag a.tag a.size a.k (omega arith))

pub returns-in-3 : goal.returns-in-3
unfolding entry_header le_bytes
returns-in-3 c = rw c.in-3.is

pub returns-in_default : goal.returns-in_default
returns-in_default c =
    let a = c.args in
    c.byte_of-in_default.ensures ∙ sym (header-size a.tag a.size a.k (omega arith))
