-- Demand 3 of a call's answer: an edit whose number is 0 was not refused, so its list was accepted and the theorem holds of what it left.
use mathlib.Core.Path.{◌≡◌, refl, ap}
use Prim.Native.Nat.{ℕ, ◌<◌}
use native.Mathlib.Omega.{arith}
use mathlib.Core.List.{List}
use Rattle.rules.specs.declared.Refusal.{Refusal}
use Rattle.rules.specs.declared.Refusal.TheVariants as refusal
use Rattle.rules.specs.declared.DoneAnswer.{DoneAnswer}
use Rattle.rules.specs.Edition.{current}
use Rattle.rules.specs.Refusals.{number_of}
use Rattle.rules.specs.Check.{admit}
use Rattle.rules.specs.Outcome.{Outcome, refused, done, answer, bytes_after, done_answer}
use Rattle.rules.specs.Edit.{Edit, act, run, destination, lent}
use Rattle.rules.specs.Demand3.{AcceptedV1, Keeps, Promised}
use Rattle.laws.proofs.Ready.{accepted}
use Rattle.demand3.proofs.InPlace.{admitted_done}
use Rattle.demand3.proofs.Demand3.{demand3}

-- an edit that is done was admitted, so its list is accepted and of version 1
pub done_listed : (e : Edit) (a : List ℕ) (base value : ℕ) (bytes : List ℕ) → run e a base ≡ done value bytes → AcceptedV1 a base
done_listed e a base value bytes h =
    let k = admitted_done current a base (admit a base) (act e a base) value bytes refl h in
    accepted a base k.0 k.1

-- no refusal has the number 0
numbered : (r : Refusal) → 0 < number_of r
numbered refusal.Area = omega arith
numbered refusal.Short = omega arith
numbered refusal.Signature = omega arith
numbered refusal.Version = omega arith
numbered refusal.Readonly = omega arith
numbered refusal.Sizes = omega arith
numbered refusal.Checksum = omega arith
numbered (refusal.Entry at) = omega arith
numbered refusal.Tag = omega arith
numbered refusal.Shape = omega arith
numbered refusal.Align = omega arith
numbered refusal.Target = omega arith
numbered refusal.None = omega arith
numbered refusal.Room = omega arith

-- a call that answers the number 0 of an outcome, and leaves its bytes, was done with this answer and these bytes
pub answered-done : (before : List ℕ) (o : Outcome) (r : DoneAnswer) (bytes : List ℕ) → r ≡ done_answer (answer o) → bytes ≡ bytes_after before o
    → r.number ≡ 0 → o ≡ done r.value bytes
answered-done before (refused x) r bytes p q zero =
    let n : r.number ≡ number_of x = ap (λ (d : DoneAnswer). d.number) p in
    absurd (omega (arith, numbered x))
answered-done before (done v b) r bytes p q zero = let n : r.value ≡ v = ap (λ (d : DoneAnswer). d.value) p in rw (n, q)

module _ (e : Edit) (a : List ℕ) (base : ℕ) (r : DoneAnswer) (bytes : List ℕ) (p : r ≡ done_answer (answer (run e a base)))
    (q : bytes ≡ bytes_after (lent (destination e) a) (run e a base)) where
  -- what the answer and the bytes of an edit keep
  pub keeps : Keeps e a base r bytes
  keeps zero =
      let h = answered-done (lent (destination e) a) (run e a base) r bytes p q zero in
      demand3 e a base r.value bytes (done_listed e a base r.value bytes h) h

  -- all that is promised of a call whose answer and bytes are those of the written rules
  pub promised : Promised e a base r bytes
  promised = record { answered = p; left = q; keeps = keeps }
