-- A list that is ready to be sealed: everything that an accepted version 1 list keeps to, but for the checksum.
use Rattle.std.specs.Prelude.{Ok}
use mathlib.Core.Path.{◌≡◌, refl, sym, ap, ◌∙◌, subst}
use Prim.Native.Nat.{ℕ, ◌%◌, ◌≤◌}
use native.Mathlib.Omega.{arith}
use mathlib.Core.Bool.{true, false}
use mathlib.Core.List.{List}
use lib.ListN.{length}
use Rattle.rules.specs.Area.{max_alignment}
use Rattle.rules.specs.declared.Entry.{Entry}
use Rattle.rules.specs.declared.Facts.{Facts}
use Rattle.rules.specs.Header.{header_of, header_size, signature, current_version, least_alignment}
use Rattle.rules.specs.Edition.{Edition, current}
use Rattle.rules.specs.Entries.{entries, walk_from, first_entry, walk, entries_of}
use Rattle.rules.specs.Checksum.{checksum_holds}
use Rattle.rules.specs.Demand3.{AcceptedV1}
use Rattle.laws.proofs.Check.{Usable, SoundHeader, Sound, sound, accepts, facts_of, entries_row}
use Rattle.laws.proofs.Row.{absurd_bool, exact, Row, row_le, row_eights, row_of_walk, walk_of_row}

-- used_size
abbrev pub used_of : List ℕ → ℕ
used_of a = (header_of a).used_size

-- total_size
abbrev pub total_of : List ℕ → ℕ
total_of a = (header_of a).total_size

-- the checks 1 to 6 and 8 of a version 1 list with the entries es
pub record Ready (c : List ℕ) (base : ℕ) (es : List Entry) : Type 0 where
  pub header : SoundHeader current base (length c) (header_of c)
  pub version : (header_of c).version ≡ current_version
  pub row : Row c header_size (used_of c) es

module _ (c : List ℕ) (base : ℕ) (es : List Entry) (r : Ready c base es) where
  -- its header has 24 bytes
  pub header-size : (header_of c).hdr_size ≡ header_size
  header-size = exact (header_of c).version header_size _ r.version r.header.sizes.header

  -- its used bytes are no fewer
  pub ready_low : header_size ≤ used_of c
  ready_low = row_le c header_size (used_of c) es r.row

  -- and lie within the list
  pub ready_top : used_of c ≤ length c
  ready_top = omega (arith, r.header.sizes.used, r.header.sizes.total)

-- ---- accepted lists

module _ (a : List ℕ) (base : ℕ) where
  -- a sound list of version 1 is accepted
  pub accepted : Sound current a base → (header_of a).version ≡ current_version → AcceptedV1 a base
  accepted s v =
      record { facts = facts_of (header_of a) s.row; accepted = accepts current false a base s (λ e. v); version = v }

  -- its entries stand in a row behind its edition's header
  pub row_sound : (ed : Edition) → ed.header_size % 8 ≡ 0 → Sound ed a base → (header_of a).version ≡ current_version
      → Row a ed.header_size (used_of a) (entries_of a)
  unfolding walk
  row_sound ed eights s v =
      let own : ℕ = ed.header_size in
      let z : (header_of a).hdr_size ≡ own = exact _ own _ v s.header.sizes.header in
      let first : first_entry (header_of a) ≡ own = rw z (omega arith) in
      let w : walk_from 1 a (used_of a) own ≡ entries s.row = rw (v, first) at s.walked in
      subst (Row a own (used_of a)) (sym (entries_row a s.row s.walked)) (row_of_walk a (used_of a) own s.row w)

  -- and a current one is ready
  pub ready_sound : Sound current a base → (header_of a).version ≡ current_version → Ready a base (entries_of a)
  ready_sound s v = record { header = s.header; version = v; row = row_sound current refl s v }

  -- an accepted version 1 list is ready
  pub ready_of : AcceptedV1 a base → Ready a base (entries_of a)
  ready_of h =
      let s : Sound current a base = (sound current false a base h.facts h.accepted).0 in
      let k : Ok h.facts ≡ Ok (facts_of (header_of a) s.row) =
      sym h.accepted ∙ accepts current false a base s (λ e. absurd_bool (sym e)) in
      let f : h.facts ≡ facts_of (header_of a) s.row = cc in
      ready_sound s (sym (ap (λ (x : Facts). x.version) f) ∙ h.version)

  -- a ready list whose checksum holds is accepted, with its row for its entries
  pub ready_accepted : (es : List Entry) → Ready a base es → checksum_holds a ≡ true → AcceptedV1 a base × (entries_of a ≡ es)
  unfolding walk
  ready_accepted es r h =
      let w : walk a ≡ entries es = rw (r.version, header-size a base es r) (walk_of_row a (used_of a) header_size es r.row) in
      let s : Sound current a base = record { header = r.header; summed = h; row = es; walked = w } in
      (accepted s r.version, entries_row a es w)

-- ---- by its numbers

-- what a version 1 header's numbers and the row behind it have to be
pub record Numbers (c : List ℕ) (base : ℕ) (es : List Entry) : Type 0 where
  pub usable : Usable base (length c)
  pub signed : (header_of c).signature ≡ signature
  pub version : (header_of c).version ≡ current_version
  pub header : (header_of c).hdr_size ≡ header_size
  pub least : least_alignment ≤ (header_of c).alignment
  pub most : (header_of c).alignment ≤ max_alignment
  pub total8 : total_of c % 8 ≡ 0
  pub used : used_of c ≤ total_of c
  pub total : total_of c ≤ length c
  pub row : Row c header_size (used_of c) es

-- then the list is ready
pub ready_by : (c : List ℕ) (base : ℕ) (es : List Entry) → Numbers c base es → Ready c base es
ready_by c base es n =
    let low : header_size ≤ used_of c = row_le c header_size (used_of c) es n.row in
    let long : header_size ≤ length c = omega (arith, n.used, n.total) in
    record {
      header = record {
        usable = n.usable;
        long = long;
        signed = n.signed;
        versioned = λ e. omega (arith, n.version);
        sizes = record {
          header = rw (n.version, n.header);
          least = n.least;
          most = n.most;
          used8 = row_eights c header_size (used_of c) es n.row (omega arith);
          total8 = n.total8;
          first = rw n.header low;
          used = n.used;
          total = n.total;
        };
      };
      version = n.version;
      row = n.row;
    }
