-- A path of one slash has no names; any other has its own.
use Rattle.std.proofs.Common.{◌∙◌, sym}
use Rattle.devicetree.proofs.Deciding.{said_yes, said_no}
use Rattle.lookup.proofs.PathLaws.{same_answers}
use Rattle.lookup.proofs.AnswerLaws.{names_tested, names_tested_other}
use Rattle.lookup.proofs.names.below_root.Goals as goal

pub returns-then-eq : goal.returns-then-eq
returns-then-eq c = names_tested c.args.path.now (said_yes (same_answers c.eq.ensures) c.if-eq.true ∙ c.as_slice.ensures)

pub returns-else-eq : goal.returns-else-eq
returns-else-eq c =
    names_tested_other c.args.path.now c.requires (λ e. said_no (same_answers c.eq.ensures) c.if-eq.false (e ∙ sym c.as_slice.ensures))
