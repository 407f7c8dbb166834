-- Laws of a target: where the new base lies, the place of a list in it, and its bytes piece by piece.
use Rattle.std.specs.Prelude.{Err, Ok, Result}
use Rattle.wire.proofs.Apart.{apart}
use Rattle.rules.specs.declared.Refusal.{Refusal}
use mathlib.Core.Path.{◌≡◌, refl, sym, ap, ◌∙◌}
use mathlib.Core.Bool.{Bool, true, false, cond}
use Prim.Native.Nat.{ℕ, ◌+◌, ◌-◌, ◌≤◌, ◌<◌}
use native.Mathlib.Omega.{arith}
use native.Mathlib.Nat.{mod-lt, div-mul-le_self, zero-add}
use mathlib.Core.List.{List, ◌++◌, append_assoc}
use lib.ListN.{length, take, drop, replicate, length-append, length-replicate, replicate-append-replicate}
use lib.Seq.{take_at, drop_at}
use lib.Dec.{ltb}
use borrow.Author.Tests.{ltb-false}
use Rattle.wire.specs.Bytes.{splice}
use Rattle.wire.proofs.Splice.{length-splice, splice-append, splice_all}
use Rattle.rules.specs.declared.Refusal.TheVariants.{Target, Room}
use Rattle.rules.specs.Area.{max_length}
use Rattle.rules.specs.Refusals.{refuses_target}
use Rattle.rules.specs.Outcome.{Outcome, refused, done}
use Rattle.rules.specs.Relocate.{in_block, in_target}
use Rattle.laws.proofs.Passed.{target_reach}
use Rattle.destination.specs.Place.{shift_by, placed}

-- ---- the new base

-- the address in the target base's own block lies below the end of the block behind the target base
pub block_near : (m base target : ℕ) → 0 < m → in_block m base target < target + m
block_near m base target h = omega (arith, mod-lt base h, div-mul-le_self target m)

-- ---- the place of a list

-- what a call comes to whose list has this place, by the bytes that it leaves for each shift
abbrev pub outcome_at : (ℕ → List ℕ) → Result ℕ Refusal → Outcome
outcome_at bytes (Ok by) = done by (bytes by)
outcome_at bytes (Err r) = refused r

-- a call that refuses by 12, then by 14, and else leaves the bytes for its shift, comes to what the place does
pub outcome_placed : (t r : Bool) (by : ℕ) (bytes : ℕ → List ℕ)
    → cond t (refused Target) (cond r (refused Room) (done by (bytes by))) ≡ outcome_at bytes (cond t (Err Target) (cond r (Err Room) (Ok by)))
outcome_placed true r by bytes = refl
outcome_placed false true by bytes = refl
outcome_placed false false by bytes = refl

-- what a place tells of a list of used bytes: it fits there, and the target is not too long
pub record HasRoom (len used by : ℕ) : Type 0 where
  pub room : by + used ≤ len
  pub short : len ≤ max_length

pub placed-room : (m base growth target len used by : ℕ) → placed m base growth target len used ≡ Ok by → HasRoom len used by
placed-room m base growth target len used by h = go (refuses_target target len) (ltb len (shift + used)) refl refl h
  where
    shift : ℕ
    shift = shift_by m base growth target

    go : (t r : Bool) → refuses_target target len ≡ t → ltb len (shift + used) ≡ r
        → cond t (Err Target) (cond r (Err Room) (Ok shift)) ≡ Ok by → HasRoom len used by
    go true r p q k = apart cc
    go false true p q k = apart cc
    go false false p q k =
        let e : by ≡ shift = cc in
        record { room = rw e (ltb-false _ _ q); short = (target_reach target len p).1 }

-- ---- the target's bytes

-- zeros, a list and zeros, one behind the other, that fill the target
pub laid : (t m : List ℕ) (by : ℕ) → by + length m ≤ length t
    → splice (splice (splice t 0 (replicate by 0)) by m) (by + length m) (replicate (length t - by - length m) 0) ≡ in_target (length t) by m
unfolding in_target
laid t m by h =
    let p : List ℕ = replicate by 0 in
    let z : List ℕ = replicate (length t - by - length m) 0 in
    let lp : length p ≡ by = length-replicate by 0 in
    let lz : length z ≡ length t - by - length m = length-replicate _ 0 in
    let lt : length (splice t 0 p) ≡ length t = length-splice t 0 p (omega arith) in
    let l : length (p ++ (m ++ z)) ≡ length t = rw (length-append, length-append) (omega arith) in
    splice-append (splice t 0 p) by m z (omega arith)
    ∙ ap (λ (n : ℕ). splice (splice t 0 p) n (m ++ z)) (sym lp ∙ sym (zero-add (length p)))
    ∙ splice-append t 0 p (m ++ z) (omega arith)
    ∙ splice_all t (p ++ (m ++ z)) l

-- bytes put right before the list that stands in a target
pub laid_before : (len by : ℕ) (m e : List ℕ) → splice (in_target len (by + length m) e) by m ≡ in_target len by (m ++ e)
unfolding in_target splice
laid_before len by m e =
    let o : List ℕ = replicate by 0 in
    let z : List ℕ = replicate (len - (by + length m) - length e) 0 in
    let n : len - (by + length m) - length e ≡ len - by - length (m ++ e) = rw length-append (omega arith) in
    let front : take by (replicate (by + length m) 0 ++ (e ++ z)) ≡ o =
    rw (← replicate-append-replicate, append_assoc) (take_at o (replicate (length m) 0 ++ (e ++ z)) by (length-replicate by 0)) in
    let behind : drop (by + length m) (replicate (by + length m) 0 ++ (e ++ z)) ≡ e ++ z =
    drop_at (replicate (by + length m) 0) (e ++ z) (by + length m) (length-replicate _ 0) in
    rw (front, behind, n, append_assoc)
