-- The exclusive or of all used bytes and byte 4 is that of the others.
use Rattle.std.proofs.Common.{sym, ◌∙◌}
use Rattle.tidy.proofs.Laws.{fresh_summed, fresh_unsummed}
use Rattle.tidy.proofs.fresh_checksum.Goals as goal

pub returns-then-has_checksum : goal.returns-then-has_checksum
returns-then-has_checksum c =
    let p = c.requires in
    rw c.xor.ensures
    (fresh_summed c.args.a.now c.args.h.flags p.0 c.args.used p.1 p.2 p.3 (sym c.has_checksum.ensures ∙ c.if-has_checksum.true))

pub returns : goal.returns
returns c = fresh_unsummed c.args.a.now c.args.h.flags c.requires.0 (sym c.has_checksum.ensures ∙ c.if-has_checksum.false)
