-- What a conversion from edition 0.9 gives: an accepted list of version 1 with a fresh checksum, the same reading, and data addresses
-- that are equal modulo 2^alignment. The entries stand eight bytes further on and are read alike.
use mathlib.Core.Path.{◌≡◌, refl, sym, ap, ◌∙◌, subst}
use Prim.Native.Nat.{ℕ, ◌+◌, ◌-◌, ◌%◌, ◌^◌, ◌≤◌}
use native.Mathlib.Omega.{arith}
use mathlib.Core.Bool.{cond}
use mathlib.Core.List.{List, ◌++◌, map, append_assoc}
use lib.ListN.{length, get_or, replicate, length-append, length-replicate, get_or-append}
use lib.Seq.{get_or-append-add}
use lib.Dec.{ltb}
use borrow.Author.Tests.{ltb-false}
use Rattle.rules.specs.declared.Entry.{Entry}
use Rattle.rules.specs.declared.Refusal.TheVariants.{Target, Room}
use Rattle.rules.specs.declared.DoneAnswer.{DoneAnswer}
use Rattle.rules.specs.Area.{max_address, max_length}
use Rattle.rules.specs.Header.{header_of, header_bytes, header_size, current_version}
use Rattle.rules.specs.Entries.{entries_of}
use Rattle.rules.specs.Checksum.{seal}
use Rattle.rules.specs.Refusals.{refuses_target}
use Rattle.rules.specs.Outcome.{Outcome, refused, done, answer, bytes_after, done_answer}
use Rattle.rules.specs.Demand3.{live_in, reading}
use Rattle.rules.specs.Edition09.{
  edition09,
  admit09,
  growth,
  old_entries,
  grown_header,
  converted,
  converted_bytes,
  grown_base,
  grown_shift,
  convert_to,
  convert,
  ConvertHolds,
  ConvertPromised,
}
use Rattle.laws.proofs.Passed.{target_reach}
use Rattle.laws.proofs.Check.{Usable, Sound, used-least, used-most}
use Rattle.laws.proofs.Row.{Agree, later}
use Rattle.laws.proofs.Lists.{get_or_part}
use Rattle.laws.proofs.Live.{Read, read_agree}
use Rattle.laws.proofs.Power.{power_positive, power_eights, eights_same}
use Rattle.laws.proofs.NewBase.{grown_base-least, grown_base-mod, addresses-later}
use Rattle.laws.proofs.FreshList.{length-header_bytes}
use Rattle.laws.proofs.Ready.{Ready, ready_by, row_sound, used_of}
use Rattle.laws.proofs.Seal.{seal-length}
use Rattle.laws.proofs.Target.{length_target, sealed_target}
use Rattle.laws.proofs.Grown.{old-length, unsealed09, Grown, grown}
use Rattle.laws.proofs.Change.{Settled, settle}
use Rattle.demand3.proofs.InPlace.{passed, admitted_done}
use Rattle.demand3.proofs.Answered.{answered-done}

-- an old list of version 1 that is accepted
module _ (a : List ℕ) (base : ℕ) (s : Sound edition09 a base) (v : (header_of a).version ≡ current_version) (room : ℕ) where
  -- it grows by as much as its header does
  unsealed_length : length (unsealed09 a room) ≡ used_of a + growth
  unsealed_length =
      rw (length-append, length-header_bytes, old-length a base s) (omega (arith, used-least edition09 a base s))

  -- each byte of its entries stands eight bytes further on
  further : (z : List ℕ) → Agree growth a (unsealed09 a room ++ z) edition09.header_size (used_of a)
  unfolding old_entries
  further z i low high =
      let b : List ℕ = header_bytes (grown_header (header_of a) room) in
      let j : ℕ = i - 16 in
      let p : 16 + j ≡ i = omega arith in
      let q : growth + i ≡ length b + j = omega (arith, length-header_bytes (grown_header (header_of a) room)) in
      sym
      (get_or-append (unsealed09 a room) z 0 (growth + i) (omega (arith, unsealed_length))
      ∙ ap (λ (k : ℕ). get_or (unsealed09 a room) k 0) q
      ∙ get_or-append-add b (old_entries a) j 0
      ∙ get_or_part a 16 (used_of a - 16) j (omega arith)
      ∙ ap (λ (k : ℕ). get_or a k 0) p)

  -- with any bytes behind it, it starts with its fields,
  fields : (z : List ℕ) → room ≤ max_length → used_of a + growth ≤ room → Grown (header_of a) room (unsealed09 a room ++ z)
  fields z short fits =
      rw append_assoc
      (grown (header_of a) room (old_entries a ++ z) (omega (arith, s.header.sizes.most)) (omega arith) (omega arith))

  -- it is read as before,
  read : (z : List ℕ) → Read (unsealed09 a room ++ z) header_size (growth + used_of a) (map (later growth) (entries_of a)) (live_in a (entries_of a))
  read z =
      read_agree growth a (unsealed09 a room ++ z) edition09.header_size (used_of a) (entries_of a) (row_sound a base edition09 refl s v)
      (used-most edition09 a base s) (rw length-append (omega (arith, unsealed_length))) (further z)

  -- and it is ready at every base that the room allows
  ready : (z : List ℕ) (new_base : ℕ) → used_of a + growth + length z ≡ room → Usable new_base room
      → Ready (unsealed09 a room ++ z) new_base (map (later growth) (entries_of a))
  ready z new_base fits usable =
      let g = fields z usable.short (omega arith) in
      let l : length (unsealed09 a room ++ z) ≡ room = rw length-append (omega (arith, unsealed_length)) in
      let u : growth + used_of a ≡ used_of a + growth = omega arith in
      ready_by (unsealed09 a room ++ z) new_base (map (later growth) (entries_of a))
      (record {
        usable = rw l usable;
        signed = g.signed;
        version = g.version;
        header = g.header;
        least = rw g.alignment s.header.sizes.least;
        most = rw g.alignment s.header.sizes.most;
        total8 = rw g.total (omega arith);
        used = rw (g.used, g.total) (omega (arith, s.header.sizes.used8));
        total = rw (g.total, l) (omega arith);
        row = rw (g.used, ← u) (read z).row;
      })

-- the list converted into the target, some bytes behind its start
module _ (a : List ℕ) (base : ℕ) (target : List ℕ) (target_base by : ℕ) (s : Sound edition09 a base)
    (v : (header_of a).version ≡ current_version) (same : (target_base + by + growth) % 2 ^ (header_of a).alignment ≡ base % 2 ^ (header_of a).alignment)
    (reach : target_base + length target ≤ max_address) (short : length target ≤ max_length)
    (fits : by + (used_of a + growth) ≤ length target) where
  -- the new base is a multiple of 8, as the old one is
  base8 : (target_base + by) % 8 ≡ 0
  base8 =
      let m8 = power_eights (header_of a).alignment s.header.sizes.least in
      omega (arith, eights_same (target_base + by + growth) base _ m8 same, s.header.usable.base8)

  -- the result of the conversion
  converted_holds : ConvertHolds a base target target_base by (converted_bytes a by (length target))
  unfolding converted reading
  converted_holds =
      let es : List Entry = entries_of a in
      let room : ℕ = length target - by in
      let d : List ℕ = unsealed09 a room in
      let z : List ℕ = replicate (length target - by - length d) 0 in
      let c : List ℕ = d ++ z in
      let ld : length d ≡ used_of a + growth = unsealed_length a base s v room in
      let lz : length z ≡ length target - by - length d = length-replicate (length target - by - length d) 0 in
      let usable : Usable (target_base + by) room = record { base8 = base8; reach = omega arith; short = omega arith } in
      let g = fields a base s v room z (omega arith) (omega arith) in
      let t : Settled c (target_base + by) (map (later growth) es) (seal c) =
      settle c (target_base + by) (map (later growth) es) (ready a base s v room z (target_base + by) (omega arith) usable) in
      record {
        result = rw (sealed_target (length target) by d (omega (arith, used-least edition09 a base s)) (omega (arith, g.used)))
            (record {
              again = t.again;
              flags = t.flags ∙ g.flags;
              checksum = t.checksum;
              live = t.live ∙ (read a base s v room z).live;
              addresses = rw t.walked (addresses-later (2 ^ (header_of a).alignment) base (target_base + by) growth es same);
            });
        size = length_target (length target) by (seal d) (omega (arith, seal-length d));
      }

-- every conversion that is not refused gives such a list
pub convert_holds : (a : List ℕ) (base : ℕ) (target : List ℕ) (target_base value : ℕ) (bytes : List ℕ)
    → convert a base target target_base ≡ done value bytes → ConvertHolds a base target target_base value bytes
unfolding convert convert_to grown_shift
convert_holds a base target target_base value bytes h =
    let al : ℕ = (header_of a).alignment in
    let n : ℕ = grown_base (2 ^ al) base target_base in
    let by : ℕ = n - target_base in
    let len : ℕ = length target in
    let end : Outcome = done by (converted_bytes a by len) in
    let k = admitted_done edition09 a base (admit09 a base) (cond (refuses_target target_base len) (refused Target) (convert_to a by len)) value bytes refl h in
    let k₁ = passed (refuses_target target_base len) Target (convert_to a by len) value bytes k.2 in
    let k₂ = passed (ltb len (by + (used_of a + growth))) Room end value bytes k₁.1 in
    let t = target_reach target_base len k₁.0 in
    let d : end ≡ done value bytes = k₂.1 in
    let x : by ≡ value = cc in
    let b : converted_bytes a by len ≡ bytes = cc in
    let e : target_base + by ≡ n = omega (arith, grown_base-least (2 ^ al) base target_base (power_positive al)) in
    let same : (target_base + by + growth) % 2 ^ al ≡ base % 2 ^ al = rw e (grown_base-mod (2 ^ al) base target_base (power_positive al)) in
    subst (λ (l : List ℕ). ConvertHolds a base target target_base value l) b
    (subst (λ (y : ℕ). ConvertHolds a base target target_base y (converted_bytes a by len)) x
    (converted_holds a base target target_base by k.0 k.1 same t.0 t.1 (ltb-false _ _ k₂.0)))

-- all that is promised of a call whose answer and bytes are those of the written rules
pub convert_promised : (a : List ℕ) (base : ℕ) (target : List ℕ) (target_base : ℕ) (r : DoneAnswer) (bytes : List ℕ)
    → r ≡ done_answer (answer (convert a base target target_base)) → bytes ≡ bytes_after target (convert a base target target_base)
    → ConvertPromised a base target target_base r bytes
convert_promised a base target target_base r bytes p q =
    record {
      answered = p;
      left = q;
      keeps = λ zero.
          convert_holds a base target target_base r.value bytes (answered-done target (convert a base target target_base) r bytes p q zero);
    }
