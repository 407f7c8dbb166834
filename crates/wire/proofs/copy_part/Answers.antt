-- The invariant: the bytes before the index are those of src. A turn copies one more; at the end they are all, and stand over a part of the slice.
use Rattle.std.proofs.Common.{
  ◌≡◌,
  ℕ,
  ◌+◌,
  ◌-◌,
  ◌<◌,
  ◌≤◌,
  List,
  length,
  get_or,
  set,
  take,
  drop,
  sym,
  ◌∙◌,
  add-one,
  arith,
  length-take-le,
  length-drop,
  take_all,
  take-suc,
}
use lib.Seq.{take-suc-set}
use Rattle.wire.proofs.Splice.{put_mid-splice}
use Rattle.wire.proofs.copy_part.Goals as goal

-- the part of n bytes from at on has n bytes
length-part : (a : List ℕ) (at n : ℕ) → at + n ≤ length a → length (take (at + n - at) (drop at a)) ≡ n
length-part a at n h = length-take-le (at + n - at) (drop at a) (rw length-drop (omega arith)) ∙ omega arith

-- one byte more, from place k to place j, both of which are i
copy-next : (p s : List ℕ) (i j k : ℕ) → i < length p → i < length s → j ≡ i → k ≡ i → take i p ≡ take i s
    → take (i + 1) (set p j (get_or s k 0)) ≡ take (i + 1) s
copy-next p s i j k lp ls to from e = rw (to, from, add-one, take-suc-set, take-suc s i 0, e)

pub loop-i-preserved : goal.loop-i-preserved
loop-i-preserved c =
    let l = c.loop-i in
    let s = c.args.src.now in
    let size : length l.part ≡ length s = l.auto.part ∙ length-part c.args.a.now c.args.at (length s) (omega arith) in
    copy-next l.part s l.i _ _ (omega arith) (omega arith) (omega arith) (omega arith) l.invariant

pub returns : goal.returns
returns c =
    let l = c.loop-i in
    let s = c.args.src.now in
    let size : length l.part ≡ length s = l.auto.part ∙ length-part c.args.a.now c.args.at (length s) (omega arith) in
    let copied : l.part ≡ s = sym (take_all l.i l.part (omega arith)) ∙ l.invariant ∙ take_all l.i s (omega arith) in
    put_mid-splice _ _ _ _ _ copied (omega arith)
