-- By the tests of k, as the parts stand one behind the other: the padding void, the entry's header, the data, the zeros, the header behind.
use mathlib.Core.Path.{sym, ◌∙◌}
use native.Mathlib.Omega.{arith}
use Rattle.words.proofs.Laws.{in_padding, in_head, in_data, in_zeros, in_behind}
use Rattle.words.proofs.Edit.stretch_byte.Goals as goal

pub returns-then-k-p : goal.returns-then-k-p
returns-then-k-p c =
    let e = c.args.self.now in
    c.void_byte.ensures ∙ sym (in_padding e.plan e.«data».now c.args.k e.writable.padding (omega arith))

pub returns-then-e-lt8 : goal.returns-then-e-lt8
returns-then-e-lt8 c =
    let e = c.args.self.now in
    c.header_byte.ensures ∙ sym (in_head e.plan e.«data».now c.args.k e.writable.padding (omega arith) (omega arith))

pub returns-then-d-self : goal.returns-then-d-self
returns-then-d-self c =
    let e = c.args.self.now in
    sym (in_data e.plan e.«data».now c.args.k e.writable.padding (omega arith) (omega arith) (omega arith))

pub returns-then-z-p : goal.returns-then-z-p
returns-then-z-p c =
    let e = c.args.self.now in
    sym (in_zeros e.plan e.«data».now c.args.k e.writable.padding (omega arith) (omega arith) (omega arith) (omega arith))

pub returns : goal.returns
returns c =
    let e = c.args.self.now in
    c.void_byte-2.ensures
    ∙ sym (in_behind e.plan e.«data».now c.args.k e.writable.padding (omega arith) (omega arith) (omega arith) (omega arith))
