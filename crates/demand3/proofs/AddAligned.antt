-- Demand 3 for add aligned.
use mathlib.Core.Path.{◌≡◌, refl, ◌∙◌}
use mathlib.Core.Logic.{inr}
use Prim.Native.Nat.{ℕ, ◌+◌, ◌-◌, ◌%◌, ◌^◌, ◌≤◌, ◌<◌, max}
use native.Mathlib.Omega.{arith}
use native.Mathlib.Nat.{mod-lt}
use mathlib.Core.Bool.{Bool, true, false, ◌&&◌, cond}
use mathlib.Core.List.{List, [], ◌∷◌}
use lib.ListN.{length, replicate, length-append}
use lib.Dec.{leb, ltb, eqb}
use Rattle.rules.specs.Area.{max_alignment}
use Rattle.wire.specs.Bytes.{field, le_bytes}
use Rattle.wire.proofs.Field.{field-splice_same, field-splice-other, length-le_bytes}
use Rattle.rules.specs.declared.Entry.{Entry}
use Rattle.rules.specs.declared.Refusal.TheVariants.{Tag, Shape, Align, Room}
use Rattle.rules.specs.Header.{header_of, least_alignment, with_alignment}
use Rattle.rules.specs.Entries.{entry_header, entries_of}
use Rattle.rules.specs.Checksum.{seal}
use Rattle.rules.specs.Refusals.{refuses_tag, refuses_tag_add, refuses_align}
use Rattle.rules.specs.Tags.{refuses_shape}
use Rattle.rules.specs.Outcome.{Outcome, refused, done}
use Rattle.rules.specs.Add.{entry_bytes, append, room}
use Rattle.rules.specs.AddAligned.{
  misalignment,
  void_bytes,
  padding_void,
  aligned_bytes,
  aligned_offset,
  append_aligned,
  add_aligned_at_end,
  add_aligned,
}
use Rattle.rules.specs.Edit.{to_add_aligned}
use Rattle.rules.specs.Demand3.{AcceptedV1, Holds}
use Rattle.laws.proofs.Walk.{neither}
use Rattle.laws.proofs.Passed.{tag_range, align_range}
use Rattle.laws.proofs.Power.{power_positive, power_eights, eights-mod}
use Rattle.laws.proofs.EntryBytes.{length-void_bytes}
use Rattle.laws.proofs.Live.{Read, read_none}
use Rattle.laws.proofs.Ready.{Ready, ready_of, ready_low, ready_top, used_of}
use Rattle.laws.proofs.Written.{Written, written_left, written_void, entry_of}
use Rattle.laws.proofs.Change.{put_alignment}
use Rattle.demand3.proofs.InPlace.{passed}
use Rattle.demand3.proofs.Add.{AtEnd, at_end_lem, end_holds}

-- the same with another alignment
raised : (a c new : List ℕ) (x : ℕ) → AtEnd a c new → 24 ≤ used_of a → used_of a ≤ length a → least_alignment ≤ x → x ≤ max_alignment
    → AtEnd a (with_alignment x c) new
unfolding header_of
raised a c new x k low top least most =
    let l : length c ≡ length a = k.put.size in
    let al : field (with_alignment x c) 7 1 ≡ x = field-splice_same c 7 1 x (omega arith) (omega arith) in
    record {
      put = put_alignment k.put low x (omega arith);
      used = field-splice-other c 7 (le_bytes 1 x) 8 4 (omega arith) (inr (rw length-le_bytes (omega arith))) ∙ k.used;
      fits = k.fits;
      least = rw al least;
      most = rw al most;
    }

-- what is left up to the next multiple of m, without eight bytes, is a multiple of 8
padding8 : (m x : ℕ) → m % 8 ≡ 0 → 0 < m → x % 8 ≡ 0 → (m - x % m - 8) % 8 ≡ 0
padding8 m x m8 pos x8 =
    let a8 : x % m % 8 ≡ 0 = eights-mod x m m8 ∙ x8 in
    let l : x % m < m = mod-lt x pos in
    omega arith

-- the padding that stands at p is a void or nothing
padding-void : (c : List ℕ) (p exponent x : ℕ) → least_alignment ≤ exponent → x % 8 ≡ 0 → length (padding_void exponent (x % 2 ^ exponent)) < 2 ^ 32
    → Written c p (padding_void exponent (x % 2 ^ exponent))
    → (xs : List Entry) × Read c p (p + length (padding_void exponent (x % 2 ^ exponent))) xs []
unfolding padding_void void_bytes
padding-void c p exponent x least x8 short w = go (eqb (x % 2 ^ exponent) 0) short w
  where
    m : ℕ
    m = 2 ^ exponent - x % 2 ^ exponent - 8

    go : (b : Bool) → length (cond b [] (void_bytes m)) < 2 ^ 32 → Written c p (cond b [] (void_bytes m))
        → (xs : List Entry) × Read c p (p + length (cond b [] (void_bytes m))) xs []
    go true s y = ([], read_none c p (p + 0) (omega arith))
    go false s y =
        let l : length (void_bytes m) ≡ 8 + m = length-void_bytes m in
        let m8 : m % 8 ≡ 0 = padding8 (2 ^ exponent) x (power_eights exponent least) (power_positive exponent) x8 in (
          entry_of p 0 m ∷ [],
          written_void c p m (p + length (void_bytes m)) (omega arith) m8 (omega arith) (written_left c p (entry_header 0 m) (replicate m 0) y),
        )

module _ (a : List ℕ) (base tag value : ℕ) (content : List ℕ) (exponent : ℕ) (bytes : List ℕ) (accepted : AcceptedV1 a base) where
  -- the padding void, if any, and the entry at used_size
  aligned-end : 0 < tag → tag < 2 ^ 24 → least_alignment ≤ exponent → exponent ≤ max_alignment
      → ltb (room a) (length (aligned_bytes a base tag content exponent)) ≡ false
      → seal (append_aligned a exponent (aligned_bytes a base tag content exponent)) ≡ bytes
      → Holds (to_add_aligned tag content exponent) a base value bytes
  unfolding append_aligned aligned_bytes
  aligned-end solid low least most enough is =
      let r : Ready a base (entries_of a) = ready_of a base accepted in
      let z = r.header.sizes in
      let u : ℕ = used_of a in
      let at : ℕ = base + used_of a + 8 in
      let pad : List ℕ = padding_void exponent (misalignment a base exponent) in
      let new : List ℕ = aligned_bytes a base tag content exponent in
      let x : ℕ = max (header_of a).alignment exponent in
      let k : AtEnd a (append_aligned a exponent new) new =
      raised a (append a new) new x (at_end_lem a base (entries_of a) new r enough) (ready_low a base (entries_of a) r)
      (ready_top a base (entries_of a) r) (omega arith) (omega (arith, z.most)) in
      let c : List ℕ = append_aligned a exponent new in
      let ln : length new ≡ length pad + length (entry_bytes tag content) = length-append pad (entry_bytes tag content) in
      let short : length pad < 2 ^ 32 = omega (arith, k.fits, z.total, r.header.usable.short) in
      let b = padding-void c u exponent at least (omega (arith, r.header.usable.base8, z.used8)) short
      (written_left c u pad (entry_bytes tag content) k.put.written) in
      end_holds (to_add_aligned tag content exponent) a base tag value content bytes c pad b.0 solid low accepted k b.1 refl refl is refl tt

  -- Demand 3 for add aligned
  pub add-aligned_holds : add_aligned a base tag content exponent ≡ done value bytes → Holds (to_add_aligned tag content exponent) a base value bytes
  unfolding add_aligned add_aligned_at_end
  add-aligned_holds h =
      let n : ℕ = length (aligned_bytes a base tag content exponent) in
      let end : Outcome = done (aligned_offset a base exponent) (seal (append_aligned a exponent (aligned_bytes a base tag content exponent))) in
      let x : Outcome = add_aligned_at_end a base tag content exponent in
      let y : Outcome = cond (refuses_align exponent) (refused Align) x in
      let k₁ = passed (refuses_tag_add tag) Tag (cond (refuses_shape tag (length content)) (refused Shape) y) value bytes h in
      let k₂ = passed (refuses_shape tag (length content)) Shape y value bytes k₁.1 in
      let k₃ = passed (refuses_align exponent) Align x value bytes k₂.1 in
      let k₄ = passed (ltb (room a) n) Room end value bytes k₃.1 in
      let t = tag_range tag (neither (refuses_tag tag) (leb 0x800000 tag && leb tag 0xffefff) k₁.0).0 in
      let e = align_range exponent k₃.0 in
      let d : end ≡ done value bytes = k₄.1 in
      let b : seal (append_aligned a exponent (aligned_bytes a base tag content exponent)) ≡ bytes = cc in
      aligned-end t.0 t.1 e.0 e.1 k₄.0 b
