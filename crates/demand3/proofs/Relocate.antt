-- Demand 3 for relocate.
use mathlib.Core.Path.{◌≡◌, sym, ◌∙◌, subst}
use Prim.Native.Nat.{ℕ, ◌+◌, ◌-◌, ◌%◌, ◌^◌, ◌≤◌, ◌<◌}
use native.Mathlib.Omega.{arith}
use native.Mathlib.Nat.{add-zero}
use mathlib.Core.List.{List, [], ◌∷◌, ◌++◌}
use lib.ListN.{length, take, get_or, replicate, length-append, length-replicate, get_or-append}
use lib.Seq.{length-take-le, get_or-take}
use lib.Dec.{ltb}
use borrow.Author.Tests.{ltb-false}
use Rattle.wire.specs.Bytes.{field}
use Rattle.wire.proofs.Field.{field_cong, field-append, field-splice_same}
use Rattle.rules.specs.declared.Entry.{Entry}
use Rattle.rules.specs.declared.Refusal.TheVariants.{Target, Room}
use Rattle.rules.specs.Area.{down8, max_address, max_length}
use Rattle.rules.specs.Header.{header_of, checksum_at, total_at, with_total}
use Rattle.rules.specs.Entries.{entries_of}
use Rattle.rules.specs.Checksum.{seal}
use Rattle.rules.specs.Refusals.{refuses_target}
use Rattle.rules.specs.Outcome.{Outcome, done}
use Rattle.rules.specs.Relocate.{new_base, shift, moved, target_bytes, move_to, relocate}
use Rattle.rules.specs.Edit.{to_relocate}
use Rattle.rules.specs.Demand3.{AcceptedV1, Holds, live_in, reading, bytes_from}
use Rattle.laws.proofs.Passed.{target_reach}
use Rattle.laws.proofs.Check.{Usable}
use Rattle.laws.proofs.Power.{power_positive, power_eights, eights_same}
use Rattle.laws.proofs.NewBase.{new_base-least, new_base-mod, addresses-later}
use Rattle.laws.proofs.Row.{later-none}
use Rattle.laws.proofs.Live.{read_same}
use Rattle.laws.proofs.Differs.{Outside, outside, number_differs, length_number, seal_differs}
use Rattle.laws.proofs.Seal.{seal-length}
use Rattle.laws.proofs.Target.{length_target, sealed_target}
use Rattle.laws.proofs.Ready.{Ready, ready_of, ready_by, header-size, ready_low, ready_top, used_of}
use Rattle.laws.proofs.Change.{Changed, Settled, settle}
use Rattle.demand3.proofs.InPlace.{passed}

-- the used bytes with the new total
abbrev carry : List ℕ → ℕ → List ℕ
carry a room = with_total (down8 room) (take (used_of a) a)

module _ (a : List ℕ) (base : ℕ) (es : List Entry) (r : Ready a base es) (room : ℕ) where
  -- the used bytes
  used-length : length (take (used_of a) a) ≡ used_of a
  used-length = length-take-le (used_of a) a (ready_top a base es r)

  -- with the new total they are as many
  carry_length : length (carry a room) ≡ used_of a
  carry_length = length_number (take (used_of a) a) total_at 4 (down8 room) (omega (arith, used-length, ready_low a base es r)) ∙ used-length

  -- with any bytes behind them, all but the total is as it was
  carry_byte : (z : List ℕ) (i : ℕ) → i < used_of a → Outside (bytes_from total_at 4 ∷ []) i → get_or (carry a room ++ z) i 0 ≡ get_or a i 0
  carry_byte z i l o =
      get_or-append (carry a room) z 0 i (omega (arith, carry_length))
      ∙ number_differs (take (used_of a) a) total_at 4 (down8 room) (omega (arith, used-length, ready_low a base es r)) i o
      ∙ get_or-take (used_of a) a i 0 l

  -- and so is every field of the header but it
  carry_field : (z : List ℕ) (at k : ℕ) → ((i : ℕ) → at ≤ i → i < at + k → (i < 24) × Outside (bytes_from total_at 4 ∷ []) i)
      → field (carry a room ++ z) at k ≡ field a at k
  carry_field z at k o =
      field_cong (carry a room ++ z) a at at k
      (λ i x.
      let q = o (at + i) (omega arith) (omega arith) in
      carry_byte z (at + i) (omega (arith, q.0, ready_low a base es r)) q.1)

  -- with as many as there is room for, they are ready at every base that the room allows
  carried : (z : List ℕ) (new_base : ℕ) → used_of a + length z ≡ room → Usable new_base room → Changed a (carry a room ++ z) new_base es (live_in a es)
  unfolding header_of
  carried z new_base fits usable =
      let u : ℕ = field a 8 4 in
      let c : List ℕ = carry a room ++ z in
      let s = r.header.sizes in
      let low : 24 ≤ field a 8 4 = ready_low a base es r in
      let ld : length (carry a room) ≡ field a 8 4 = carry_length in
      let lm : length (take u a) ≡ field a 8 4 = used-length in
      let lc : length c ≡ room = length-append (carry a room) z ∙ omega arith in
      let f = carry_field z in
      let t : field c 12 4 ≡ down8 room =
      field-append (carry a room) z 12 4 (omega arith)
      ∙ field-splice_same (take u a) 12 4 (down8 room) (omega arith) (omega (arith, usable.short)) in
      let uc : field c 8 4 ≡ field a 8 4 = f 8 4 (omega arith) in
      let al : field c 7 1 ≡ field a 7 1 = f 7 1 (omega arith) in
      let k = read_same a c 24 u es r.row (ready_top a base es r) (omega arith) (λ i x y. sym (carry_byte z i y (omega arith))) in
      record {
        ready = ready_by c new_base es
            (record {
              usable = rw lc usable;
              signed = f 0 4 (omega arith) ∙ r.header.signed;
              version = f 5 1 (omega arith) ∙ r.version;
              header = f 6 1 (omega arith) ∙ header-size a base es r;
              least = rw al s.least;
              most = rw al s.most;
              total8 = rw t (omega arith);
              used = rw (uc, t) (omega (arith, s.used8));
              total = rw (t, lc) (omega arith);
              row = rw uc k.row;
            });
        live = k.live;
        flags = f 16 4 (omega arith);
      }

-- the list moved by some bytes into the target
module _ (a : List ℕ) (base : ℕ) (target : List ℕ) (target_base by : ℕ) (accepted : AcceptedV1 a base)
    (same : (target_base + by) % 2 ^ (header_of a).alignment ≡ base % 2 ^ (header_of a).alignment)
    (reach : target_base + length target ≤ max_address) (short : length target ≤ max_length) (fits : by + used_of a ≤ length target) where
  -- the new base is a multiple of 8, as the old one is
  base8 : Ready a base (entries_of a) → (target_base + by) % 8 ≡ 0
  base8 r =
      eights_same (target_base + by) base _ (power_eights (header_of a).alignment r.header.sizes.least) same ∙ r.header.usable.base8

  -- the result of the relocation
  moved_holds : Holds (to_relocate target target_base) a base by (target_bytes a by (length target))
  unfolding header_of reading target_bytes moved
  moved_holds =
      let es : List Entry = entries_of a in
      let r : Ready a base es = ready_of a base accepted in
      let room : ℕ = length target - by in
      let d : List ℕ = carry a room in
      let z : List ℕ = replicate (length target - by - length d) 0 in
      let c : List ℕ = d ++ z in
      let ld : length d ≡ used_of a = carry_length a base es r room in
      let ls : length (seal d) ≡ used_of a = seal-length d ∙ ld in
      let lz : length z ≡ length target - by - length d = length-replicate (length target - by - length d) 0 in
      let usable : Usable (target_base + by) room = record { base8 = base8 r; reach = omega arith; short = omega arith } in
      let k : Changed a c (target_base + by) es (live_in a es) = carried a base es r room z (target_base + by) (omega arith) usable in
      let t : Settled c (target_base + by) es (seal c) = settle c (target_base + by) es k.ready in
      let used : used_of c ≡ used_of a = carry_field a base es r room z 8 4 (omega arith) in
      record {
        result = rw (sealed_target (length target) by d (omega (arith, ready_low a base es r)) (omega arith))
            (record {
              again = t.again;
              checksum = t.checksum;
              flags = t.flags ∙ k.flags;
              live = t.live ∙ k.live;
              others = λ i l h.
                  let q = outside (bytes_from checksum_at 1 ∷ bytes_from total_at 4 ∷ []) i h in
                  seal_differs c i (q.0, tt) ∙ carry_byte a base es r room z i l q.1;
              addresses = rw t.walked
                  (rw later-none at (addresses-later (2 ^ (header_of a).alignment) base (target_base + by) 0 es (rw add-zero same)));
            });
        size = length_target (length target) by (seal d) (omega arith);
      }

-- Demand 3 for relocate
pub relocate_holds : (a : List ℕ) (base : ℕ) (target : List ℕ) (target_base value : ℕ) (bytes : List ℕ) → AcceptedV1 a base
    → relocate a base target target_base ≡ done value bytes → Holds (to_relocate target target_base) a base value bytes
unfolding relocate move_to shift
relocate_holds a base target target_base value bytes accepted h =
    let m : ℕ = 2 ^ (header_of a).alignment in
    let n : ℕ = new_base m base target_base in
    let by : ℕ = n - target_base in
    let len : ℕ = length target in
    let end : Outcome = done by (target_bytes a by len) in
    let k₁ = passed (refuses_target target_base len) Target (move_to a by len) value bytes h in
    let k₂ = passed (ltb len (by + used_of a)) Room end value bytes k₁.1 in
    let t = target_reach target_base len k₁.0 in
    let d : end ≡ done value bytes = k₂.1 in
    let v : by ≡ value = cc in
    let b : target_bytes a by len ≡ bytes = cc in
    let low : target_base ≤ n = new_base-least m base target_base (power_positive (header_of a).alignment) in
    let e : target_base + by ≡ n = omega arith in
    let same : (target_base + by) % m ≡ base % m = rw e (new_base-mod m base target_base (power_positive (header_of a).alignment)) in
    subst (λ (l : List ℕ). Holds (to_relocate target target_base) a base value l) b
    (subst (λ (x : ℕ). Holds (to_relocate target target_base) a base x (target_bytes a by len)) v
    (moved_holds a base target target_base by accepted same t.0 t.1 (ltb-false _ _ k₂.0)))
