-- The first two tests are those of every call.
use Rattle.tags.proofs.refuses_tag_add.Goals as goal

pub returns : goal.returns
returns c = rw c.refuses_tag.ensures
