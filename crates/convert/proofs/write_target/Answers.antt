-- The entries are laid out in the target, and the new header with its checksum is put before them.
use Rattle.std.proofs.Common.{◌<◌, refl, ap, arith, ◌∙◌}
use Rattle.rules.specs.declared.Header.{Header}
use Rattle.rules.specs.Edition09.{grown_header}
use Rattle.convert.proofs.Laws.{target_read}
use Rattle.convert.proofs.write_target.Goals as goal

pub returns : goal.returns
unfolding grown_header
returns c =
    let l = c.args.list in
    let byte : l.header.alignment < 256 = omega (arith, c.grown_header.type_inv, ap (λ (h : Header). h.alignment) c.grown_header.ensures) in
    c.copy_part.ensures
    ∙ target_read l.bytes.now l.header _ _ c.args.shift _ _ _ _ _ l.read byte c.requires.0 l.within c.requires.1 c.requires.2
    c.grown_header.ensures refl c.write_header.ensures c.xor.ensures c.xor-2.ensures c.lay_out.ensures
