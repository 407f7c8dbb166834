-- The used bytes are laid out in the target; the checksum byte and the total are written within them.
use Rattle.std.proofs.Common.{◌∙◌}
use Rattle.relocate.proofs.Laws.{target_read}
use Rattle.relocate.proofs.write_target.Goals as goal

pub returns : goal.returns
returns c =
    c.write.ensures
    ∙ target_read c.args.list.bytes.now c.requires.0 c.requires.1 c.args.list.header c.args.target.now _ c.args.shift _ c.args.list.read
    c.requires.2 c.args.list.within c.requires.3 c.lay_out.ensures c.total_patch.ensures
