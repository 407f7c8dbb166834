-- A conversion's place in the target, and that the bytes that it writes are those of the rule.
use Rattle.std.specs.Prelude.{Ok, Result, true}
use mathlib.Core.Path.{◌≡◌, ap, ◌∙◌}
use Prim.Native.Nat.{ℕ, ◌+◌, ◌-◌, ◌^◌, ◌≤◌, ◌<◌}
use native.Mathlib.Omega.{arith}
use mathlib.Core.List.{List, ◌++◌}
use lib.ListN.{length, take, drop, set, length-set}
use lib.Seq.{set-append_left}
use lib.Bits.{bit_xor}
use lib.Dec.{ltb}
use Rattle.wire.specs.Bytes.{xor, splice}
use Rattle.wire.proofs.Splice.{splice_all}
use Rattle.rules.specs.declared.Header.{Header}
use Rattle.rules.specs.declared.Refusal.{Refusal}
use Rattle.rules.specs.Area.{max_length, max_alignment}
use Rattle.rules.specs.Header.{header_of, header_bytes, header_size}
use Rattle.rules.specs.Checksum.{seal}
use Rattle.rules.specs.Refusals.{refuses_target}
use Rattle.rules.specs.Relocate.{in_target}
use Rattle.rules.specs.Edition09.{
  edition09,
  growth,
  old_entries,
  grown_header,
  converted,
  grown_base,
  grown_shift,
  converted_bytes,
  convert_to,
  convert,
}
use Rattle.laws.proofs.Check.{AdmittedIn, used-least, used-most}
use Rattle.laws.proofs.Lists.{length_part}
use Rattle.laws.proofs.FreshList.{length-header_bytes}
use Rattle.laws.proofs.Ready.{used_of}
use Rattle.laws.proofs.Grown.{Grown, grown, grown_fresh}
use Rattle.walk.specs.declared.check.Surveyed.{Surveyed}
use Rattle.walk.specs.declared.wanted.Wanted.{Wanted}
use Rattle.walk.specs.Survey.{survey_in}
use Rattle.walk.proofs.Survey.{accepted_in, admitted_in}
use Rattle.destination.specs.Place.{shift_by, placed}
use Rattle.destination.proofs.Laws.{outcome_at, outcome_placed, laid_before}

-- ---- the place

-- the shift is that of what stands eight bytes behind the new base
shift_further : (m base target : ℕ) → grown_base m base target - target ≡ shift_by m base growth target
unfolding grown_base
shift_further m base target = omega arith

-- of a list whose survey for a conversion is accepted
module _ (a : List ℕ) (base : ℕ) (w : Wanted) (s : Surveyed) (k : survey_in edition09 true a base w ≡ Ok s) where
  admits : AdmittedIn edition09 a base s.header
  admits = admitted_in edition09 a base w s k

  -- it lies in its bytes behind its header
  pub read : s.header ≡ header_of a
  read = admits.header

  pub low : 16 ≤ s.header.used_size
  low = rw read (used-least edition09 a base admits.sound)

  pub top : s.header.used_size ≤ length a
  top = rw read (used-most edition09 a base admits.sound)

  -- its numbers are small
  pub small : (s.header.alignment ≤ max_alignment) × (s.header.used_size ≤ max_length)
  small = (rw read admits.sound.header.sizes.most, omega (arith, top, admits.sound.header.usable.short))

  -- its conversion comes to what the place p of its used bytes and the growth does
  pub convert-placed : (target : List ℕ) (target_base : ℕ) (p : Result ℕ Refusal)
      → p ≡ placed (2 ^ s.header.alignment) base growth target_base (length target) (s.header.used_size + growth)
      → convert a base target target_base ≡ outcome_at (λ (by : ℕ). converted_bytes a by (length target)) p
  unfolding convert convert_to grown_shift
  convert-placed target target_base p e =
      let by : ℕ = shift_by (2 ^ (header_of a).alignment) base growth target_base in
      rw ((accepted_in edition09 true a base w s k).checked, e, read, shift_further)
      (outcome_placed (refuses_target target_base (length target)) (ltb (length target) (by + ((header_of a).used_size + growth))) by
      (λ (by : ℕ). converted_bytes a by (length target)))

-- ---- the bytes

-- the new header, its checksum byte still 0
abbrev new_header : List ℕ → ℕ → List ℕ
new_header a room = header_bytes (grown_header (header_of a) room)

-- with the exclusive or of it and of the entries
abbrev sealed_header : List ℕ → ℕ → List ℕ
sealed_header a room = set (new_header a room) 4 (bit_xor (xor (new_header a room)) (xor (old_entries a)))

module _ (a : List ℕ) (byte : (header_of a).alignment < 256) (low : 16 ≤ used_of a) (top : used_of a ≤ length a) where
  -- with the entries behind it, it is what the rule converts to
  sealed : (room : ℕ) → room < 2 ^ 32 → used_of a + growth ≤ room → sealed_header a room ++ old_entries a ≡ converted a room
  unfolding converted seal old_entries
  sealed room short fits =
      let h : List ℕ = new_header a room in
      let e : List ℕ = old_entries a in
      let l : length h ≡ header_size = length-header_bytes (grown_header (header_of a) room) in
      let n : length e ≡ used_of a - 16 = length_part a 16 (used_of a - 16) (omega arith) in
      let g : Grown (header_of a) room (h ++ e) = grown (header_of a) room e byte (omega arith) (omega arith) in
      let u : used_of (h ++ e) ≡ header_size + length e = omega (arith, g.used, n) in
      rw (grown_fresh (header_of a) room e g u, set-append_left h e 4 (bit_xor (xor h) (xor e)) (omega arith))

  -- the entries laid out in a target, and it put before them
  target_written : (len by : ℕ) → len < 2 ^ 32 → by + (used_of a + growth) ≤ len
      → splice (in_target len (by + header_size) (old_entries a)) by (sealed_header a (len - by)) ≡ converted_bytes a by len
  target_written len by short fits =
      let m : List ℕ = sealed_header a (len - by) in
      let l : length m ≡ header_size = length-set (new_header a (len - by)) 4 _ ∙ length-header_bytes (grown_header (header_of a) (len - by)) in
      rw l at (laid_before len by m (old_entries a)) ∙ ap (in_target len by) (sealed (len - by) (omega arith) (omega arith))

-- the same by the header h that was read, step by step: n made of it, its bytes b written over z, the exclusive ors x and y, and the
-- entries laid out as t
pub target_read : (a : List ℕ) (h n : Header) (len by : ℕ) (z b t : List ℕ) (x y : ℕ) → let e = take (h.used_size - 16) (drop 16 a) in
    h ≡ header_of a → h.alignment < 256 → 16 ≤ h.used_size → h.used_size ≤ length a → by + (h.used_size + growth) ≤ len → len < 2 ^ 32
    → n ≡ grown_header h (len - by) → length z ≡ 24 → b ≡ splice z 0 (header_bytes n) → x ≡ xor b → y ≡ xor e → t ≡ in_target len (by + 24) e
    → splice t by (set b 4 (bit_xor x y)) ≡ converted_bytes a by len
unfolding old_entries
target_read a h n len by z b t x y eh byte low top fits short en lz eb ex ey et =
    let w : b ≡ new_header a (len - by) = rw (eb, en, eh) (splice_all z _ (rw lz (length-header_bytes _))) in
    rw (et, ex, ey, w, eh) (target_written a (rw eh at byte) (rw eh at low) (rw eh at top) len by short (rw eh at fits))
