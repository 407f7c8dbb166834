-- The header and the zeros behind it fill the area; with has_checksum byte 4 becomes the header's exclusive or, without it is 0.
use Rattle.std.proofs.Common.{◌∙◌, arith}
use Rattle.create.proofs.Laws.{unusable, too_short, created, laid_out, fresh_summed, fresh_unsummed}
use Rattle.create.proofs.create.Goals as goal

pub returns-then-not-usable : goal.returns-then-not-usable
returns-then-not-usable c =
    let e = unusable c.args.area.now c.args.base c.args.has_checksum _ c.usable.ensures c.if-not-usable.true in
    record { value = rw e; area_after = rw e }

pub returns-then-len-size : goal.returns-then-len-size
returns-then-len-size c =
    let e = too_short c.args.area.now c.args.base c.args.has_checksum _ c.usable.ensures c.if-not-usable.false c.if-len-size.true in
    record { value = rw e; area_after = rw e }

pub returns-then-has_checksum : goal.returns-then-has_checksum
returns-then-has_checksum c =
    let e = created c.args.area.now c.args.base c.args.has_checksum _ c.usable.ensures c.if-not-usable.false c.if-len-size.false in
    let w = laid_out _ _ _ _ _ (omega arith) c.fresh.ensures c.write_header.ensures c.zero_part.ensures in
    record { value = rw e; area_after = rw e (fresh_summed _ _ _ _ w c.xor.ensures c.if-has_checksum.true) }

pub returns-else-has_checksum : goal.returns-else-has_checksum
returns-else-has_checksum c =
    let e = created c.args.area.now c.args.base c.args.has_checksum _ c.usable.ensures c.if-not-usable.false c.if-len-size.false in
    let w = laid_out _ _ _ _ _ (omega arith) c.fresh.ensures c.write_header.ensures c.zero_part.ensures in
    record { value = rw e; area_after = rw e (w ∙ fresh_unsummed _ _ c.if-has_checksum.false) }
