-- The walk that joins voids: what it has still to write, at each place where it stands. And the checksum worked out afresh.
use Rattle.std.specs.Prelude.{Ok}
use mathlib.Core.Path.{◌≡◌, refl, sym, ap, ◌∙◌}
use Prim.Native.Nat.{ℕ, ◌+◌, ◌-◌, ◌%◌, ◌≤◌, ◌<◌}
use native.Mathlib.Omega.{arith}
use mathlib.Core.Bool.{Bool, true, false, cond}
use mathlib.Core.List.{List, [], ◌∷◌}
use lib.ListN.{length, take, get_or, replicate}
use lib.Seq.{length-take-le, get_or-take}
use lib.Dec.{eqb}
use lib.Bits.{bit_xor}
use borrow.Author.Tests.{eq-eqb, ne_eqb, eqb-true, eqb-false, le-ltb}
use Rattle.wire.specs.Bytes.{le_bytes, xor, splice}
use Rattle.wire.proofs.Splice.{splice-nil, length-splice, get_or-splice-behind}
use Rattle.rules.specs.declared.Entry.{Entry}
use Rattle.rules.specs.Header.{header_of, header_size}
use Rattle.rules.specs.Edition.{current}
use Rattle.rules.specs.Entries.{entry_at, is_void, span, entries_of, live_ones}
use Rattle.rules.specs.Checksum.{fresh_checksum, seal}
use Rattle.rules.specs.Outcome.{done}
use Rattle.rules.specs.Edit.{run as run_edit, to_tidy}
use Rattle.rules.specs.Add.{entry_span}
use Rattle.rules.specs.Tidy.{void_before, tidied, write_voids, end_of, tidy_used, tidy_bytes, tidy}
use Rattle.walk.specs.declared.check.Surveyed.{Surveyed}
use Rattle.walk.specs.declared.wanted.Wanted.{Wanted}
use Rattle.walk.specs.Survey.{survey_of}
use Rattle.walk.proofs.Survey.{accepted, admitted}
use Rattle.plan.specs.Plan.{whole_void}
use Rattle.plan.proofs.Laws.{void_span_le, length-whole_void}
use Rattle.laws.proofs.Check.{Admitted, used-most}
use Rattle.laws.proofs.Row.{Regular, Row, Same, row_le, place_of}
use Rattle.laws.proofs.Live.{read_same}
use Rattle.laws.proofs.Ready.{used_of, Ready, ready_sound}
use Rattle.laws.proofs.Written.{entry_of}
use Rattle.laws.proofs.Xor.{xor-without}
use Rattle.laws.proofs.Seal.{fresh}
use Rattle.laws.proofs.Tidy.{before_joined}
use Rattle.laws.proofs.Tiles.{entry_is}
use Rattle.laws.proofs.Cleared.{Cleared, cleared}

-- ---- the walk

-- the void that will stand from the end of the last live entry up to a place
abbrev run : ℕ → ℕ → Entry
run end at = entry_of end 0 (at - end - 8)

-- the entries from a place on, with that void in front where the place is further on
abbrev pending : ℕ → ℕ → List Entry → List Entry
pending end at es = cond (eqb end at) es (run end at ∷ es)

-- the walk over a₀ stands at a place of a, with the entries es ahead of it
pub record Stands (used : ℕ) (a₀ a : List ℕ) (end at : ℕ) (es : List Entry) : Type 0 where
  pub row : Row a at used es
  pub order : end ≤ at
  pub eights : (end % 8 ≡ 0) × (at % 8 ≡ 0)
  pub size : length a ≡ length a₀
  pub top : used ≤ length a
  pub ends : end_of end (live_ones es) ≡ tidy_used a₀
  pub bytes : write_voids (tidied (pending end at es)) a ≡ write_voids (tidied (entries_of a₀)) a₀

-- with some entries
abbrev pub Left : ℕ → List ℕ → List ℕ → ℕ → ℕ → Type 0
Left used a₀ a end at = (es : List Entry) × Stands used a₀ a end at es

-- before the first entry
pub left-first : (used : ℕ) (a : List ℕ) → Row a 24 used (entries_of a) → used ≤ length a → Left used a a 24 24
left-first used a r l = (
  entries_of a,
  record {
    row = r;
    order = omega arith;
    eights = (refl, refl);
    size = refl;
    top = l;
    ends = refl;
    bytes = refl;
  },
)

-- where nothing is left
pub left-last : (used : ℕ) (a₀ a : List ℕ) (end : ℕ) → Left used a₀ a end used
    → (end ≡ tidy_used a₀) × (a ≡ write_voids (tidied (entries_of a₀)) a₀)
unfolding live_ones end_of write_voids tidied
left-last used a₀ a end ([], s) = (s.ends, go (eqb end used) s.bytes)
  where
    go : (b : Bool) → write_voids (tidied (cond b [] (run end used ∷ []))) a ≡ write_voids (tidied (entries_of a₀)) a₀
        → a ≡ write_voids (tidied (entries_of a₀)) a₀
    go true h = h
    go false h = h
left-last used a₀ a end (e ∷ es, s) =
    let l : used + span e ≤ used = row_le a (used + span e) used es s.row.2 in
    absurd (omega (arith, s.row.1.header))

-- a void in front of a live entry stays
before_live : (d e : Entry) (ts : List Entry) → is_void e ≡ false → void_before d (e ∷ ts) ≡ d ∷ (e ∷ ts)
before_live d e ts v = rw v

-- a live entry is not written
write_live : (e : Entry) (ts : List Entry) (a : List ℕ) → is_void e ≡ false → write_voids (e ∷ ts) a ≡ write_voids ts a
unfolding write_voids
write_live e ts a v = rw v

module _ (end at : ℕ) (e : Entry) (es : List Entry) (order : end ≤ at) (end8 : end % 8 ≡ 0) (at8 : at % 8 ≡ 0) (place : e.at ≡ at) (r : Regular e) where
  -- a void is joined with those before it
  pending-void : is_void e ≡ true → tidied (pending end (at + span e) es) ≡ tidied (pending end at (e ∷ es))
  unfolding tidied
  pending-void v = rw (ne_eqb end (at + span e) (λ x. omega (arith, r.header))) (go (eqb end at) refl)
    where
      s : span e ≡ 8 + e.data_size
      s = omega (arith, r.header, r.eights v)

      go : (b : Bool) → eqb end at ≡ b → void_before (run end (at + span e)) (tidied es) ≡ tidied (cond b (e ∷ es) (run end at ∷ (e ∷ es)))
      go true h =
          let x : end ≡ at = eqb-true end at h in
          let n : at + span e - end - 8 ≡ e.data_size = omega (arith, s) in
          let is = entry_is e.at e.tag_id e.hdr_size e.data_size end (place ∙ sym x) (eqb-true _ _ v) r.header in
          rw (v, n) (ap (λ (f : Entry). void_before f (tidied es)) (sym is))
      go false h =
          let x : end ≡ at → ⊥ = eqb-false end at h in
          let n : at + span e - end - 8 ≡ at - end - 8 + span e = omega (arith, x) in
          rw (v, n) (sym (before_joined (run end at) e (tidied es) v))

  -- a live entry ends the run before it, which is written
  pending-live : (a : List ℕ) → is_void e ≡ false
      → write_voids (tidied es) (splice a end (whole_void (at - end))) ≡ write_voids (tidied (pending end at (e ∷ es))) a
  unfolding tidied write_voids whole_void
  pending-live a v = go (eqb end at) refl
    where
      go : (b : Bool) → eqb end at ≡ b
          → write_voids (tidied es) (splice a end (whole_void (at - end))) ≡ write_voids (tidied (cond b (e ∷ es) (run end at ∷ (e ∷ es)))) a
      go true h =
          let x : end ≡ at = eqb-true end at h in
          let n : at - end ≡ 0 = omega arith in
          rw (v, n, splice-nil a end) (sym (write_live e (tidied es) a v))
      go false h =
          let x : end ≡ at → ⊥ = eqb-false end at h in
          rw (v, le-ltb (at - end) 8 (omega (arith, x)))
          (sym (ap (λ (ts : List Entry). write_voids ts a) (before_live (run end at) e (tidied es) v) ∙ write_live e (tidied es) _ v))

module _ (used : ℕ) (a₀ a : List ℕ) (end at : ℕ) (before : at < used) where
  -- the entry at the place takes so many bytes
  spanned : (e : Entry) → Regular e → span e ≡ entry_span e.data_size
  spanned e r = omega (arith, r.header)

  -- which lie before the end of the list
  left-fits : Left used a₀ a end at → at + entry_span (entry_at a at).data_size ≤ used
  left-fits ([], s) = absurd (omega (arith, s.row))
  left-fits (e ∷ es, s) = rw (← s.row.0, ← spanned e s.row.1) (row_le a (at + span e) used es s.row.2)

  -- a void there is left for the run's end
  left-void : Left used a₀ a end at → (entry_at a at).tag_id ≡ 0 → Left used a₀ a end (at + entry_span (entry_at a at).data_size)
  unfolding live_ones
  left-void ([], s) v = absurd (omega (arith, s.row))
  left-void (e ∷ es, s) v =
      let r : Regular e = s.row.1 in
      let is : e ≡ entry_at a at = s.row.0 in
      let w : is_void e ≡ true = eq-eqb e.tag_id 0 (rw is v) in
      rw (← is, ← spanned e r) (
        es,
        record {
          row = s.row.2;
          order = omega (arith, s.order);
          eights = (s.eights.0, omega (arith, s.eights.1));
          size = s.size;
          top = s.top;
          ends = rw w at s.ends;
          bytes = ap (λ (ts : List Entry). write_voids ts a)
              (pending-void end at e es s.order s.eights.0 s.eights.1 (place_of a at is) r w) ∙ s.bytes;
        },
      )

  -- before a live entry the run is written
  left-live : Left used a₀ a end at → ((entry_at a at).tag_id ≡ 0 → ⊥) → let next = at + entry_span (entry_at a at).data_size in
      Left used a₀ (splice a end (whole_void (at - end))) next next
  unfolding live_ones end_of
  left-live ([], s) v = absurd (omega (arith, s.row))
  left-live (e ∷ es, s) v =
      let r : Regular e = s.row.1 in
      let is : e ≡ entry_at a at = s.row.0 in
      let place : e.at ≡ at = place_of a at is in
      let w : is_void e ≡ false = ne_eqb e.tag_id 0 (λ x. v (rw (← is) x)) in
      let new : List ℕ = whole_void (at - end) in
      let b : List ℕ = splice a end new in
      let high : at + span e ≤ used = row_le a (at + span e) used es s.row.2 in
      let ln : length new ≤ at - end = rw (length-whole_void (at - end)) (void_span_le (at - end)) in
      let lb : length b ≡ length a = length-splice a end new (omega (arith, s.order, s.top)) in
      let same : Same a b (at + span e) used = λ i x y. sym (get_or-splice-behind a end new (omega (arith, s.order, s.top)) i (omega (arith, s.order))) in
      rw (← is, ← spanned e r) (
        es,
        record {
          row = (read_same a b (at + span e) used es s.row.2 s.top (omega (arith, s.top)) same).row;
          order = omega arith;
          eights = (omega (arith, s.eights.1), omega (arith, s.eights.1));
          size = lb ∙ s.size;
          top = omega (arith, s.top);
          ends = rw (w, place) at s.ends;
          bytes = rw (eq-eqb (at + span e) (at + span e) refl)
              (pending-live end at e es s.order s.eights.0 s.eights.1 place r a w ∙ s.bytes);
        },
      )

  -- the same by the entry f that is read there and the n bytes that it takes
  module _ (f : Entry) (n : ℕ) (read : f ≡ entry_at a at) (taken : n ≡ entry_span f.data_size) (l : Left used a₀ a end at) where
    pub step-fits : at + n ≤ used
    step-fits = rw (taken, read) (left-fits l)

    pub step-void : f.tag_id ≡ 0 → Left used a₀ a end (at + n)
    step-void v = rw (taken, read) (left-void l (rw read at v))

    pub step-live : (f.tag_id ≡ 0 → ⊥) → (b : List ℕ) → b ≡ splice a end (whole_void (at - end)) → Left used a₀ b (at + n) (at + n)
    step-live v b w = rw (taken, read, w) (left-live l (rw read at v))

-- ---- the tidy list

-- of a list whose survey for an edit is accepted
module _ (a : List ℕ) (base : ℕ) (w : Wanted) (s : Surveyed) (k : survey_of true a base w ≡ Ok s) where
  admits : Admitted a base s.header
  admits = admitted a base w s k

  ready : Ready a base (entries_of a)
  ready = ready_sound a base admits.sound admits.version

  -- its entries stand in a row up to its used size
  pub rowed : Row a 24 s.header.used_size (entries_of a) × (s.header.used_size ≤ length a)
  rowed = rw admits.header (ready.row, used-most current a base admits.sound)

  -- behind a header of 24 bytes
  pub long : 24 ≤ length a
  long = admits.sound.header.long

  -- it is tidied as the rule has it
  pub ruled : run_edit to_tidy a base ≡ done (tidy_used a) (seal (tidy_bytes a))
  unfolding tidy
  ruled = simp (accepted true a base w s k).checked

  -- the rule's list
  clear : Cleared a (tidy_bytes a) base (tidy_used a) (entries_of a)
  clear = cleared a base ready

  module _ (u : ℕ) (e : u ≡ tidy_used a) where
    -- the new used size does not exceed the old one, which lies within the area
    pub bounds : (u ≤ s.header.used_size) × (s.header.used_size ≤ length a)
    bounds = rw (e, admits.header) (clear.most, used-most current a base admits.sound)

    -- the voids joined as d, zeros in what is given back, which makes it z, and the new used size make the rule's list
    pub written : (d z c : List ℕ) → d ≡ write_voids (tidied (entries_of a)) a → z ≡ splice d u (replicate (s.header.used_size - u) 0)
        → c ≡ splice z 8 (le_bytes 4 u) → c ≡ tidy_bytes a
    unfolding tidy_bytes
    written d z c ed ez ec = rw (ec, ez, ed, e, admits.header)

    -- what its checksum asks for
    pub sealable : (c : List ℕ) → c ≡ tidy_bytes a
        → (s.header.flags ≡ (header_of c).flags) × (u ≡ used_of c) × (header_size ≤ u) × (u ≤ length c)
    sealable c w = rw (w, admits.header) (sym clear.changed.flags, e ∙ sym clear.used, rw e clear.low, rw e clear.inside)

-- ---- the checksum

module _ (a : List ℕ) (flags : ℕ) (f : flags ≡ (header_of a).flags) where
  -- with has_checksum it is the exclusive or of all used bytes and byte 4
  pub fresh_summed : (used : ℕ) → used ≡ used_of a → 24 ≤ used → used ≤ length a → eqb (flags % 2) 1 ≡ true
      → bit_xor (xor (take used a)) (get_or a 4 0) ≡ fresh_checksum a
  unfolding header_of
  fresh_summed used u low top h =
      let l : length (take used a) ≡ used = length-take-le used a top in
      sym (fresh a ∙ rw (← f, ← u, h, xor-without (take used a) 4 (omega arith), get_or-take used a 4 0 (omega arith)))

  -- without it 0
  pub fresh_unsummed : eqb (flags % 2) 1 ≡ false → 0 ≡ fresh_checksum a
  unfolding header_of
  fresh_unsummed h = sym (fresh a ∙ rw (← f, h))
