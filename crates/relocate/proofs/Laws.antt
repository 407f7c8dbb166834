-- Laws of a relocation: its place in the target, and the list's bytes there.
use Rattle.std.specs.Prelude.{Ok, Result, true}
use mathlib.Core.Path.{◌≡◌, ap, ◌∙◌}
use Prim.Native.Nat.{ℕ, ◌+◌, ◌-◌, ◌^◌, ◌≤◌, ◌<◌}
use native.Mathlib.Omega.{arith}
use native.Mathlib.Nat.{zero-add, suc-add, add_assoc, add-zero}
use mathlib.Core.List.{List, [], ◌∷◌, ◌++◌, append_assoc}
use lib.ListN.{length, take, set, replicate, length-replicate, length-set}
use lib.Seq.{length-take-le, take-append-le, drop-append-le, take-append-add, drop-append-add, set-append_left}
use lib.Dec.{ltb}
use Rattle.wire.specs.Bytes.{le_bytes, splice}
use Rattle.wire.proofs.Range.{Bytes}
use Rattle.wire.proofs.Splice.{length-splice}
use Rattle.wire.proofs.Field.{length-le_bytes}
use Rattle.rules.specs.declared.Header.{Header}
use Rattle.rules.specs.declared.Refusal.{Refusal}
use Rattle.rules.specs.Area.{max_length, down8}
use Rattle.rules.specs.Header.{header_of}
use Rattle.rules.specs.Edition.{current}
use Rattle.rules.specs.Checksum.{checksum_holds, seal}
use Rattle.rules.specs.Refusals.{refuses_target}
use Rattle.rules.specs.Relocate.{new_base, shift, moved, in_target, target_bytes, move_to, relocate}
use Rattle.rules.specs.Edit.{run, to_relocate}
use Rattle.laws.proofs.Check.{Admitted, used-least, used-most}
use Rattle.laws.proofs.Ready.{used_of}
use Rattle.laws.proofs.Lists.{set-splice}
use Rattle.laws.proofs.Moved.{moved_patched}
use Rattle.walk.specs.declared.check.Surveyed.{Surveyed}
use Rattle.walk.specs.declared.wanted.Wanted.{Wanted}
use Rattle.walk.specs.Survey.{survey_of}
use Rattle.walk.proofs.Survey.{accepted, admitted}
use Rattle.plan.specs.Plan.{total_patch}
use Rattle.destination.specs.Place.{placed}
use Rattle.destination.proofs.Laws.{outcome_at, outcome_placed}

-- ---- the call

-- the rule's relocation of any list comes to what the place of its used bytes does
pub rule-placed : (a : List ℕ) (base : ℕ) (target : List ℕ) (target_base : ℕ) (h : Header) → h ≡ header_of a → let len = length target in
    relocate a base target target_base
    ≡ outcome_at (λ (by : ℕ). target_bytes a by len) (placed (2 ^ h.alignment) base 0 target_base len h.used_size)
unfolding relocate move_to shift
rule-placed a base target target_base h e =
    let len : ℕ = length target in
    let by : ℕ = new_base (2 ^ (header_of a).alignment) base target_base - target_base in
    rw (e, add-zero)
    (outcome_placed (refuses_target target_base len) (ltb len (by + (header_of a).used_size)) by (λ (by : ℕ). target_bytes a by len))

-- of a list whose survey for an edit is accepted
module _ (a : List ℕ) (base : ℕ) (w : Wanted) (s : Surveyed) (k : survey_of true a base w ≡ Ok s) where
  admits : Admitted a base s.header
  admits = admitted a base w s k

  -- it lies in its bytes behind its header
  pub read : s.header ≡ header_of a
  read = admits.header

  pub low : 24 ≤ s.header.used_size
  low = rw read (used-least current a base admits.sound)

  pub top : s.header.used_size ≤ length a
  top = rw read (used-most current a base admits.sound)

  pub summed : checksum_holds a ≡ true
  summed = admits.sound.summed

  -- its numbers are small
  pub small : (s.header.alignment ≤ 21) × (s.header.used_size ≤ max_length)
  small = (rw read admits.sound.header.sizes.most, omega (arith, top, admits.sound.header.usable.short))

  -- its relocation comes to what the place p of its used bytes does
  pub relocate-placed : (target : List ℕ) (target_base : ℕ) (p : Result ℕ Refusal)
      → p ≡ placed (2 ^ s.header.alignment) base 0 target_base (length target) s.header.used_size
      → run (to_relocate target target_base) a base ≡ outcome_at (λ (by : ℕ). target_bytes a by (length target)) p
  relocate-placed target target_base p e =
      simp (accepted true a base w s k).checked (rw e (rule-placed a base target target_base s.header read))

-- ---- lists

-- a byte stored in the second of two lists
set-behind : (p q : List ℕ) (n i v : ℕ) → length p ≡ n → set (p ++ q) (n + i) v ≡ p ++ set q i v
set-behind p q n i v e = rw (← e) (go p)
  where
    go : (p : List ℕ) → set (p ++ q) (length p + i) v ≡ p ++ set q i v
    go [] = rw zero-add
    go (x ∷ p) = rw suc-add (ap (λ (r : List ℕ). x ∷ r) (go p))

-- a stretch put into the second of two lists
splice-behind : (p q : List ℕ) (n at : ℕ) (new : List ℕ) → length p ≡ n → splice (p ++ q) (n + at) new ≡ p ++ splice q at new
unfolding splice
splice-behind p q n at new e =
    rw (← e, add_assoc (length p) at (length new), take-append-add p q at, drop-append-add p q (at + length new), append_assoc)

-- a stretch put into the first of two lists
splice_front : (p q : List ℕ) (at : ℕ) (new : List ℕ) → at + length new ≤ length p → splice (p ++ q) at new ≡ splice p at new ++ q
unfolding splice
splice_front p q at new h =
    let l : at ≤ length p = omega arith in
    rw (take-append-le at p q l, drop-append-le (at + length new) p q h) (simp append_assoc)

-- a byte and a stretch behind it, both within the middle one of three lists
within : (p m z : List ℕ) (n i v at : ℕ) (new : List ℕ) → length p ≡ n → i < length m → at + length new ≤ length m
    → splice (set (p ++ (m ++ z)) (n + i) v) (n + at) new ≡ p ++ (splice (set m i v) at new ++ z)
within p m z n i v at new e h l =
    let k : at + length new ≤ length (set m i v) = rw length-set l in
    rw (set-behind p (m ++ z) n i v e, set-append_left m z i v h, splice-behind p (set m i v ++ z) n at new e, splice_front (set m i v) z at new k)

-- ---- the target's bytes

module _ (a : List ℕ) (bytes : Bytes a) (c : checksum_holds a ≡ true) where
  -- the used bytes with a new total and its checksum, as they are written
  abbrev written : ℕ → List ℕ
  written total = splice (set (take (header_of a).used_size a) 4 (total_patch (header_of a) total)) 12 (le_bytes 4 total)

  -- they are what the rule moves
  moved_written : (room : ℕ) → 24 ≤ used_of a → used_of a ≤ length a → moved a room ≡ written (down8 room)
  unfolding moved seal total_patch
  moved_written room h l =
      let m : List ℕ = take (used_of a) a in
      let lm : length m ≡ used_of a = length-take-le (used_of a) a l in
      ap (set (splice m 12 (le_bytes 4 (down8 room))) 4) (moved_patched a bytes c h l (down8 room))
      ∙ set-splice m 12 (le_bytes 4 (down8 room)) 4 (total_patch (header_of a) (down8 room)) (omega arith) (omega arith)

  -- what the checksum byte and the total leave in a target that holds the used bytes
  target_written : (t : List ℕ) (by : ℕ) → 24 ≤ used_of a → used_of a ≤ length a → by + used_of a ≤ length t → let total = down8 (length t - by) in
      splice (set (in_target (length t) by (take (used_of a) a)) (by + 4) (total_patch (header_of a) total)) (by + 12) (le_bytes 4 total)
      ≡ target_bytes a by (length t)
  unfolding target_bytes in_target
  target_written t by k l h =
      let m : List ℕ = take (used_of a) a in
      let total : ℕ = down8 (length t - by) in
      let lm : length m ≡ used_of a = length-take-le (used_of a) a l in
      let ln : length (le_bytes 4 total) ≡ 4 = length-le_bytes 4 total in
      let ls : length (set m 4 (total_patch (header_of a) total)) ≡ length m = length-set m 4 _ in
      let lw : length (written total) ≡ length m = length-splice (set m 4 (total_patch (header_of a) total)) 12 (le_bytes 4 total) (omega arith) ∙ ls in
      rw (moved_written (length t - by) k l, lw)
      (within (replicate by 0) m _ by 4 _ 12 _ (length-replicate by 0) (omega arith) (omega arith))

  -- the same by the header that was read, step by step: the list laid out as d, and the checksum byte x stored in it
  pub target_read : (h : Header) (t d : List ℕ) (by x : ℕ) → h ≡ header_of a → 24 ≤ h.used_size → h.used_size ≤ length a → by + h.used_size ≤ length t
      → let total = down8 (length t - by) in d ≡ in_target (length t) by (take h.used_size a) → x ≡ total_patch h total
      → splice (set d (by + 4) x) (by + 12) (le_bytes 4 total) ≡ target_bytes a by (length t)
  target_read h t d by x e low top l ed ex = rw (ed, ex, e) (target_written t by (rw e at low) (rw e at top) (rw e at l))
