-- The data continues the header, and the zeros the data.
use mathlib.Core.Path.{◌≡◌, sym, ap, ◌∙◌}
use Prim.Native.Nat.{ℕ, ◌+◌}
use native.Mathlib.Omega.{arith}
use mathlib.Core.List.{List, ◌++◌}
use lib.ListN.{length, replicate}
use Rattle.wire.specs.Bytes.{le_bytes, splice}
use Rattle.wire.proofs.Splice.{splice-append}
use Rattle.rules.specs.Entries.{entry_header}
use Rattle.laws.proofs.EntryBytes.{entry_word_lem, length-entry_header}
use Rattle.plan.proofs.write.write_entry.Goals as goal

pub returns : goal.returns
returns c =
    let a = c.args in
    let l : List ℕ = a.a.now in
    let s : List ℕ = a.«data».now in
    let h : List ℕ = entry_header a.tag a.size in
    let zeros : List ℕ = replicate a.zeros 0 in
    let word = ap (le_bytes 8) c.entry_word.ensures ∙ entry_word_lem a.tag a.size c.requires.1 in
    let header : c.write.new.a ≡ splice l a.at h = c.write.ensures ∙ ap (splice l a.at) word in
    let k : length h ≡ 8 = length-entry_header a.tag a.size in
    c.zero_part.ensures
    ∙ ap (λ (x : List ℕ). splice x (a.at + 8 + length s) zeros) c.copy_part.ensures
    ∙ splice-append c.write.new.a (a.at + 8) s zeros (omega arith)
    ∙ ap (λ (x : List ℕ). splice x (a.at + 8) (s ++ zeros)) header
    ∙ ap (λ (n : ℕ). splice (splice l a.at h) (a.at + n) (s ++ zeros)) (sym k)
    ∙ splice-append l a.at h (s ++ zeros) (omega arith)
