-- A name is there where its zero byte is and the padding behind that.
use Rattle.std.proofs.Common.{rules}
use Rattle.devicetree.proofs.Deciding.{holds, same_decides}
use Rattle.devicetree.proofs.PartLaws.{name-none, name-ended}
use Rattle.devicetree.proofs.parts.name.Goals as goal

pub returns-in_err-z : goal.returns-in_err-z
returns-in_err-z c = rw c.from_residual.ensures (name-none c.first_zero.ensures c.in_err-z.was)

pub overflow_add-z : goal.overflow_add-z
overflow_add-z c = let x = holds c.first_zero.ensures c.in_ok-z.was in let i = x.inside in search rules

pub padding-requires : goal.padding-requires
padding-requires c = let x = holds c.first_zero.ensures c.in_ok-z.was in let i = x.inside in search rules

pub returns : goal.returns
returns c = same_decides (name-ended c.first_zero.ensures c.in_ok-z.was) c.padding.ensures
