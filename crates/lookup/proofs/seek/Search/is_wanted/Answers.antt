-- Where the path ends here, the name decides.
use Rattle.devicetree.specs.Decided.{no}
use Rattle.lookup.proofs.SeekLaws.{wanted_name-answers}
use Rattle.lookup.proofs.seek.Search.is_wanted.Goals as goal

pub returns-then-path-ne0 : goal.returns-then-path-ne0
returns-then-path-ne0 c = no (λ x. c.if-path-ne0.true x.0)

pub returns : goal.returns
returns c =
    wanted_name-answers c.args.self.now.blocks.structure.now c.args.at c.args.path.now c.if-path-ne0.false c.cell-offset.ensures c.named.ensures
