-- Demand 3 for add: behind the last entry, or in the place of a void.
use Rattle.std.specs.Prelude.{None, Option, Some}
use mathlib.Core.Path.{◌≡◌, refl, sym, ◌∙◌}
use mathlib.Core.Logic.{inl}
use Prim.Native.Nat.{ℕ, ◌+◌, ◌^◌, ◌≤◌, ◌<◌}
use native.Mathlib.Omega.{arith}
use mathlib.Core.Bool.{Bool, false, ◌&&◌, cond}
use mathlib.Core.List.{List, [], ◌∷◌, ◌++◌, append-nil}
use lib.ListN.{length, length-append}
use lib.Dec.{leb, ltb}
use borrow.Author.Tests.{ltb-false}
use Rattle.rules.specs.Area.{max_length, max_alignment}
use Rattle.wire.specs.Bytes.{field, splice}
use Rattle.wire.proofs.Field.{field-splice_same, field-splice-other}
use Rattle.rules.specs.declared.Entry.{Entry}
use Rattle.rules.specs.declared.Refusal.TheVariants.{Tag, Shape, Room}
use Rattle.rules.specs.Header.{header_of, entry_header_size, least_alignment}
use Rattle.rules.specs.Entries.{entries_of, live_count}
use Rattle.rules.specs.Checksum.{seal}
use Rattle.rules.specs.Refusals.{refuses_tag, refuses_tag_add}
use Rattle.rules.specs.Tags.{refuses_shape}
use Rattle.rules.specs.Outcome.{Outcome, refused, done}
use Rattle.rules.specs.Add.{entry_span, entry_bytes, taken_void, append, room, add_in_void, add_at_end, add_at, add}
use Rattle.rules.specs.Edit.{Edit, to_add, in_place, destination}
use Rattle.rules.specs.Demand3.{AcceptedV1, Holds, Live, live_in, reading, changed, put_in, old_used_to_new, header_stretches, stretches, KeepsAddresses}
use Rattle.laws.proofs.Walk.{neither}
use Rattle.laws.proofs.Passed.{tag_range}
use Rattle.laws.proofs.EntryBytes.{length-entry_bytes}
use Rattle.laws.proofs.Live.{live-length, Read, read_none, read_append, put_in_lem}
use Rattle.laws.proofs.Seal.{seal-field}
use Rattle.laws.proofs.Ready.{Ready, ready_of, ready_low, used_of, total_of}
use Rattle.laws.proofs.Written.{written_right, written_entry}
use Rattle.laws.proofs.Change.{Put, put_splice, put_used, change_end}
use Rattle.demand3.proofs.InPlace.{passed, in_place_holds}
use Rattle.demand3.proofs.AddVoid.{filling, add-void_holds}

-- ---- behind the last entry

-- c is a with the bytes new behind its last entry, for which there is room
pub record AtEnd (a c new : List ℕ) : Type 0 where
  pub put : Put a c (used_of a) new
  pub used : used_of c ≡ used_of a + length new
  pub fits : used_of a + length new ≤ total_of a
  pub least : least_alignment ≤ (header_of c).alignment
  pub most : (header_of c).alignment ≤ max_alignment

-- bytes for which a check has found room are appended so
pub at_end_lem : (a : List ℕ) (base : ℕ) (es : List Entry) (new : List ℕ) → Ready a base es → ltb (room a) (length new) ≡ false → AtEnd a (append a new) new
unfolding append header_of
at_end_lem a base es new r enough =
    let u : ℕ = field a 8 4 in
    let d : List ℕ = splice a u new in
    let z = r.header.sizes in
    let low : 24 ≤ field a 8 4 = ready_low a base es r in
    let top : field a 12 4 ≤ length a = z.total in
    let left : length new ≤ room a = ltb-false (room a) (length new) enough in
    let fits : field a 8 4 + length new ≤ field a 12 4 = omega (arith, z.used) in
    let t : Put a d u new = put_splice a u new (omega arith) in
    let l : length d ≡ length a = t.size in
    let al : field (append a new) 7 1 ≡ field a 7 1 =
    field-splice-other d 8 _ 7 1 (omega arith) (inl (omega arith)) ∙ field-splice-other a u new 7 1 (omega arith) (inl (omega arith)) in
    record {
      put = put_used t low (u + length new) (omega arith);
      used = field-splice_same d 8 4 (u + length new) (omega arith) (omega (arith, r.header.usable.short));
      fits = fits;
      least = rw al z.least;
      most = rw al z.most;
    }

-- an entry behind all the live ones
put_last : (a : List ℕ) (es : List Entry) (x : Live) → live_in a es ++ (x ∷ []) ≡ put_in (live_count es) x (live_in a es)
put_last a es x =
    let k : put_in (live_count es) x (live_in a es ++ []) ≡ live_in a es ++ (x ∷ []) = put_in_lem (live_count es) x (live_in a es) [] (live-length a es) in
    sym (rw (append-nil (live_in a es)) at k)

-- an entry, with the voids xs before it, is appended, and the list sealed
pub end_holds : (e : Edit) (a : List ℕ) (base tag value : ℕ) (content bytes c pad : List ℕ) (xs : List Entry) → 0 < tag → tag < 2 ^ 24
    → AcceptedV1 a base → AtEnd a c (pad ++ entry_bytes tag content) → Read c (used_of a) (used_of a + length pad) xs []
    → destination e ≡ in_place → stretches e a (seal c) ≡ old_used_to_new a (seal c) ∷ header_stretches → seal c ≡ bytes
    → changed e a (reading a) ≡ put_in (live_count (entries_of a)) (record { tag = tag; content = content }) (reading a)
    → KeepsAddresses e a base (seal c) base → Holds e a base value bytes
unfolding header_of reading
end_holds e a base tag value content bytes c pad xs solid low accepted k before d s is live addresses =
    let r : Ready a base (entries_of a) = ready_of a base accepted in
    let v : ℕ = field a 8 4 + length pad in
    let t : Put a c (used_of a) (pad ++ entry_bytes tag content) = k.put in
    let le : length (entry_bytes tag content) ≡ entry_span (length content) = length-entry_bytes tag content in
    let ln : length (pad ++ entry_bytes tag content) ≡ length pad + length (entry_bytes tag content) = length-append pad (entry_bytes tag content) in
    let used : field c 8 4 ≡ field a 8 4 + length (pad ++ entry_bytes tag content) = k.used in
    let short : field a 12 4 ≤ max_length = omega (arith, r.header.sizes.total, r.header.usable.short) in
    let q : v + entry_span (length content) ≡ field c 8 4 = omega arith in
    let w = written_right c (used_of a) pad (entry_bytes tag content) (length pad) refl t.written in
    let x = rw q at (written_entry c v tag content solid low (omega (arith, k.fits)) (omega (arith, k.fits, t.size, r.header.sizes.total)) w) in
    in_place_holds e a base value bytes d is (rw (s, seal-field c 8 4 (omega arith), used)) (ready_low a base (entries_of a) r) t
    (change_end (entries_of a) r t k.least k.most (rw used k.fits) r.row (read_append before x))
    (rw live (put_last a (entries_of a) (record { tag = tag; content = content }))) addresses

-- ---- add

-- Demand 3 for add
pub add_holds : (a : List ℕ) (base tag value : ℕ) (content : List ℕ) (use_voids : Bool) (bytes : List ℕ) → AcceptedV1 a base
    → add a tag content use_voids ≡ done value bytes → Holds (to_add tag content use_voids) a base value bytes
unfolding add add_in_void add_at_end
add_holds a base tag value content use_voids bytes accepted h =
    let x : Outcome = add_at a tag content (taken_void use_voids (length content) a) in
    let k₁ = passed (refuses_tag_add tag) Tag (cond (refuses_shape tag (length content)) (refused Shape) x) value bytes h in
    let k₂ = passed (refuses_shape tag (length content)) Shape x value bytes k₁.1 in
    let t = tag_range tag (neither (refuses_tag tag) (leb 0x800000 tag && leb tag 0xffefff) k₁.0).0 in
    go (taken_void use_voids (length content) a) refl t.0 t.1 k₂.1
  where
    go : (o : Option Entry) → taken_void use_voids (length content) a ≡ o → 0 < tag → tag < 2 ^ 24 → add_at a tag content o ≡ done value bytes
        → Holds (to_add tag content use_voids) a base value bytes
    go (Some e) f s l y =
        let b : seal (splice a e.at (filling tag content e.data_size)) ≡ bytes = cc in
        add-void_holds a base tag value content use_voids bytes e s l f b accepted
    go None f s l y =
        let end : Outcome = done (used_of a + entry_header_size) (seal (append a (entry_bytes tag content))) in
        let k = passed (ltb (room a) (entry_span (length content))) Room end value bytes y in
        let d : done (used_of a + entry_header_size) (seal (append a (entry_bytes tag content))) ≡ done value bytes = k.1 in
        let b : seal (append a (entry_bytes tag content)) ≡ bytes = cc in
        let new : List ℕ = entry_bytes tag content in
        let t = at_end_lem a base (entries_of a) new (ready_of a base accepted) (rw (length-entry_bytes tag content) k.0) in
        end_holds (to_add tag content use_voids) a base tag value content bytes (append a new) [] [] s l accepted t
        (read_none _ (used_of a) (used_of a + 0) (omega arith)) refl (rw f) b (rw f) tt
