-- Of a stretch the headers and the data count, and each part's exclusive or is what its call ensures.
use mathlib.Core.Path.{sym, ap, ap₂, ◌∙◌}
use Prim.Native.Nat.{ℕ}
use lib.Bits.{bit_xor}
use Rattle.wire.specs.Bytes.{le_bytes, xor}
use Rattle.laws.proofs.EntryBytes.{entry_word_lem}
use Rattle.plan.proofs.Laws.{xor-stretch_of}
use Rattle.plan.proofs.sum.xor_stretch.Goals as goal

pub returns : goal.returns
returns c =
    let a = c.args in
    let p = a.p in
    let tag = c.requires.2 in
    let entry =
    c.fold.ensures
    ∙ ap (λ (w : ℕ). xor (le_bytes 8 w)) c.entry_word.ensures
    ∙ ap xor (entry_word_lem p.tag_id p.data_size tag) in
    ap₂ bit_xor c.xor_void.ensures (ap₂ bit_xor entry (ap₂ bit_xor c.xor.ensures c.xor_void-2.ensures))
    ∙ sym (xor-stretch_of p a.«data».now)
