-- The invariant: the bytes before the index are zeros. A turn stores one zero more.
use Rattle.std.proofs.Common.{
  ◌≡◌,
  ℕ,
  ◌+◌,
  ◌-◌,
  ◌++◌,
  [],
  ◌∷◌,
  length,
  drop,
  length-take-le,
  length-drop,
  replicate,
  take,
  set,
  sym,
  ap,
  ◌∙◌,
  add-one,
  arith,
  take_all,
}
use lib.ListN.{length-replicate, replicate-append-replicate}
use lib.Seq.{take-suc-set}
use Rattle.wire.proofs.Splice.{put_mid-splice}
use Rattle.wire.proofs.zero_part.Goals as goal

pub loop-byte-preserved : goal.loop-byte-preserved
loop-byte-preserved c =
    let l = c.loop-byte in
    let next : take (l.byte-index + 1) (set l.byte-items l.byte-index 0) ≡ take l.byte-index l.byte-items ++ (0 ∷ []) =
    rw add-one (take-suc-set l.byte-items l.byte-index 0 (omega arith)) in
    next ∙ ap (λ x. x ++ (0 ∷ [])) l.invariant ∙ replicate-append-replicate l.byte-index 1 0

pub returns : goal.returns
returns c =
    let a = c.args in
    let l = c.loop-byte in
    let size : length (take (a.at + a.n - a.at) (drop a.at a.a.now)) ≡ a.n =
    length-take-le (a.at + a.n - a.at) (drop a.at a.a.now) (rw length-drop (omega arith)) ∙ omega arith in
    let all : l.byte-index ≡ a.n = omega arith in
    let zeros : l.byte-items ≡ replicate a.n 0 =
    sym (take_all l.byte-index l.byte-items (omega arith)) ∙ l.invariant ∙ ap (λ k. replicate k 0) all in
    put_mid-splice _ _ _ _ _ zeros (omega (arith, length-replicate {A = ℕ} a.n 0))
