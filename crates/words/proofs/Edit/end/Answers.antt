-- Behind the stretch no word changes.
use native.Mathlib.Omega.{arith}
use Rattle.words.proofs.Window.{words-behind}
use Rattle.words.proofs.Edit.end.Goals as goal

pub returns : goal.returns
returns c = λ w h. let e = c.args.self.now in words-behind e.plan e.area.now e.«data».now e.writable w (omega arith)
