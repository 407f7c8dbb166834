-- Demand 3 of a whole form: a finished edit's area is the plain call's, so the theorem reads it.
use Prim.Native.Nat.{ℕ}
use mathlib.Core.List.{List}
use Rattle.rules.specs.Edit.{Edit}
use Rattle.rules.specs.Demand3.{Keeps}
use Rattle.demand3.proofs.Demand3.{demand3}
use Rattle.demand3.proofs.Answered.{done_listed}
use Rattle.steps.specs.Steps.{Ended}
use Rattle.journalled.specs.Journalled.{Journalled}

pub kept : (e : Edit) (j a : List ℕ) (base : ℕ) (x : Ended) → Journalled e j a base x → Keeps e a base x.done x.buffers.area
kept e j a base x k zero =
    let h = k.new zero in
    demand3 e a base x.done.value x.buffers.area (done_listed e a base x.done.value x.buffers.area h) h
