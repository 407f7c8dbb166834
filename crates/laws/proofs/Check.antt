-- What an accepted check tells of a list, and that no more is asked of one.
use Rattle.std.specs.Prelude.{Err, None, Ok, Option, Result, Some}
use mathlib.Core.Path.{◌≡◌, refl, sym, ap, ◌∙◌}
use Prim.Native.Nat.{ℕ, ◌+◌, ◌%◌, ◌≤◌}
use native.Mathlib.Omega.{arith}
use mathlib.Core.Bool.{Bool, true, false, not, ◌&&◌, ◌||◌, cond}
use mathlib.Core.List.{List}
use lib.ListN.{length}
use lib.Dec.{leb, ltb}
use borrow.Author.Tests.{ltb-false, leb-true, eqb-true, eqb-false, not-false, le-ltb, le-leb, eq-eqb, ne_eqb}
use Rattle.wire.proofs.Apart.{apart}
use Rattle.rules.specs.declared.Entry.{Entry}
use Rattle.rules.specs.declared.Header.{Header}
use Rattle.rules.specs.declared.Extent.{Extent}
use Rattle.rules.specs.declared.Facts.{Facts}
use Rattle.rules.specs.declared.Refusal.{Refusal}
use Rattle.rules.specs.Area.{multiple8, usable, max_length, max_alignment, max_address}
use Rattle.rules.specs.Header.{header_of, current_version, least_alignment}
use Rattle.rules.specs.Edition.{Edition, current}
use Rattle.rules.specs.Entries.{
  Walk,
  entries,
  broken,
  wrong_header_size,
  first_entry,
  walk,
  seen,
  entries_of,
  live_count,
  void_count,
  occurrence,
}
use Rattle.rules.specs.Refusals.{
  refuses_area,
  refuses_short,
  refuses_signature,
  refuses_version,
  refuses_readonly,
  outside_alignment,
  refuses_sizes,
  refuses_checksum,
  refuses_tag,
}
use Rattle.rules.specs.Check.{walked, fields_refusal, header_refusal, unless, checks_of}
use Rattle.rules.specs.declared.Refusal.TheVariants.{Checksum, Tag}
use Rattle.rules.specs.Find.{found_at, after_check, find_of}
use Rattle.laws.proofs.Walk.{header-least, neither, All, Inside, walk_inside, occurrence-inside}

-- ---- tests

-- both of two tests hold
both_true : (x y : Bool) → (x && y) ≡ true → (x ≡ true) × (y ≡ true)
both_true true y h = (refl, h)
both_true false y h = apart cc

-- where the answer is not the one that a test gives, the test failed and the answer is the next one
pub past : {A : Type 0} (b : Bool) (x y z : A) → (x ≡ z → ⊥) → cond b x y ≡ z → (b ≡ false) × (y ≡ z)
past true x y z n h = absurd (n h)
past false x y z n h = (refl, h)

-- what a usable area keeps to
pub record Usable (base len : ℕ) : Type 0 where
  pub base8 : base % 8 ≡ 0
  pub reach : base + len ≤ max_address
  pub short : len ≤ max_length

-- an area that is not refused keeps to all of it
pub usable_of : (base len : ℕ) → refuses_area base len ≡ false → Usable base len
usable_of base len r =
    let u = both_true (multiple8 base && leb (base + len) max_address) (leb len max_length) (not-false (usable base len) r) in
    let b = both_true (multiple8 base) (leb (base + len) max_address) u.0 in
    record { base8 = eqb-true _ _ b.0; reach = leb-true _ _ b.1; short = leb-true _ _ u.1 }

-- what sizes that are not refused keep to, own being the edition's header size
pub record Sizes (own : ℕ) (h : Header) (len : ℕ) : Type 0 where
  pub header : wrong_header_size h.version own h.hdr_size ≡ false
  pub least : least_alignment ≤ h.alignment
  pub most : h.alignment ≤ max_alignment
  pub used8 : h.used_size % 8 ≡ 0
  pub total8 : h.total_size % 8 ≡ 0
  pub first : first_entry h ≤ h.used_size
  pub used : h.used_size ≤ h.total_size
  pub total : h.total_size ≤ len

-- sizes that are not refused keep to all of it
sizes_of : (ed : Edition) (h : Header) (len : ℕ) → refuses_sizes ed h len ≡ false → Sizes ed.header_size h len
sizes_of ed h len r =
    let w : Bool = wrong_header_size h.version ed.header_size h.hdr_size in
    let o : Bool = outside_alignment h.alignment in
    let u₈ : Bool = multiple8 h.used_size in
    let t₈ : Bool = multiple8 h.total_size in
    let f : Bool = ltb h.used_size (first_entry h) in
    let u : Bool = ltb h.total_size h.used_size in
    let p₁ = neither (w || o || not u₈ || not t₈ || f || u) (ltb len h.total_size) r in
    let p₂ = neither (w || o || not u₈ || not t₈ || f) u p₁.0 in
    let p₃ = neither (w || o || not u₈ || not t₈) f p₂.0 in
    let p₄ = neither (w || o || not u₈) (not t₈) p₃.0 in
    let p₅ = neither (w || o) (not u₈) p₄.0 in
    let p₆ = neither w o p₅.0 in
    let p₇ = neither (ltb h.alignment least_alignment) (ltb max_alignment h.alignment) p₆.1 in
    record {
      header = p₆.0;
      least = ltb-false _ _ p₇.0;
      most = ltb-false _ _ p₇.1;
      used8 = eqb-true _ _ (not-false u₈ p₅.1);
      total8 = eqb-true _ _ (not-false t₈ p₄.1);
      first = ltb-false _ _ p₃.1;
      used = ltb-false _ _ p₂.1;
      total = ltb-false _ _ p₁.1;
    }

-- an edit that is not refused is of a list of version 1
current_of : (editing : Bool) (version : ℕ) → (editing && ltb current_version version) ≡ false → (version ≡ 0 → ⊥) → editing ≡ true
    → version ≡ current_version
current_of true version h n e =
    let l : version ≤ current_version = ltb-false current_version version h in
    omega (arith, n)
current_of false version h n e = apart cc

-- an edit of a list of version 1 is not refused
current_holds : (editing : Bool) (version : ℕ) → (editing ≡ true → version ≡ current_version) → (editing && ltb current_version version) ≡ false
current_holds true version h = let e : version ≡ current_version = h refl in le-ltb current_version version (omega arith)
current_holds false version h = refl

-- ---- checks 1 to 6

-- everything that they tell of a header at a base in an area of len bytes
pub record SoundHeader (ed : Edition) (base len : ℕ) (h : Header) : Type 0 where
  pub usable : Usable base len
  pub long : ed.header_size ≤ len
  pub signed : h.signature ≡ ed.signature
  pub versioned : h.version ≡ 0 → ⊥
  pub sizes : Sizes ed.header_size h len

module _ (ed : Edition) (editing : Bool) (base len : ℕ) (h : Header) where
  -- what a header that is not refused tells; of an edit also that the version is 1
  pub header-sound : header_refusal ed editing base len h ≡ None → SoundHeader ed base len h × (editing ≡ true → h.version ≡ current_version)
  unfolding header_refusal fields_refusal
  header-sound k =
      let never : (r : Refusal) → Some r ≡ None → ⊥ = λ r e. (apart cc) in
      let p₁ = past (refuses_area base len) _ _ _ (never _) k in
      let p₂ = past (refuses_short ed len) _ _ _ (never _) p₁.1 in
      let p₃ = past (refuses_signature ed h) _ _ _ (never _) p₂.1 in
      let p₄ = past (refuses_version h) _ _ _ (never _) p₃.1 in
      let p₅ = past (refuses_readonly editing h) _ _ _ (never _) p₄.1 in
      let p₆ = past (refuses_sizes ed h len) _ _ _ (never _) p₅.1 in
      let n = eqb-false h.version 0 p₄.0 in (
        record {
          usable = usable_of base len p₁.0;
          long = ltb-false _ _ p₂.0;
          signed = eqb-true _ _ (not-false _ p₃.0);
          versioned = n;
          sizes = sizes_of ed h len p₆.0;
        },
        current_of editing h.version p₅.0 n,
      )

  -- and a header that keeps to all of it is not refused
  pub header-passes : SoundHeader ed base len h → (editing ≡ true → h.version ≡ current_version) → header_refusal ed editing base len h ≡ None
  unfolding header_refusal fields_refusal
  header-passes s v =
      simp (
        eq-eqb _ _ s.usable.base8,
        le-leb _ _ s.usable.reach,
        le-leb _ _ s.usable.short,
        le-ltb _ _ s.long,
        eq-eqb _ _ s.signed,
        ne_eqb _ _ s.versioned,
        current_holds editing _ v,
        s.sizes.header,
        le-ltb _ _ s.sizes.least,
        le-ltb _ _ s.sizes.most,
        eq-eqb _ _ s.sizes.used8,
        eq-eqb _ _ s.sizes.total8,
        le-ltb _ _ s.sizes.first,
        le-ltb _ _ s.sizes.used,
        le-ltb _ _ s.sizes.total,
      )

-- ---- the check

-- everything that an accepted check of an edition's list tells
pub record Sound (ed : Edition) (a : List ℕ) (base : ℕ) : Type 0 where
  pub header : SoundHeader ed base (length a) (header_of a)
  pub summed : ed.summed a ≡ true
  pub row : List Entry
  pub walked : walk a ≡ entries row

-- the facts that an accepted check answers of a header and the entries behind it
abbrev pub facts_of : Header → List Entry → Facts
facts_of h es =
    record {
      version = h.version;
      used = h.used_size;
      total = h.total_size;
      alignment = h.alignment;
      live = live_count es;
      voids = void_count es;
    }

-- an accepted walk is not broken
accepted-walk : (h : Header) (w : Walk) (f : Facts) → walked h w ≡ Ok f → w ≡ entries (seen w)
accepted-walk h (entries es) f k = refl
accepted-walk h (broken at) f k = apart cc

-- the answer behind a refusal that did not come
not_refused : (o : Option Refusal) (x : Result Facts Refusal) (f : Facts) → unless o x ≡ Ok f → (o ≡ None) × (x ≡ Ok f)
not_refused (Some r) x f k = apart cc
not_refused None x f k = (refl, k)

module _ (ed : Edition) (editing : Bool) (a : List ℕ) (base : ℕ) where
  -- what an accepted check tells; of an admission to an edit also that the version is 1
  pub sound : (f : Facts) → checks_of ed editing a base ≡ Ok f
      → Sound ed a base × (editing ≡ true → (header_of a).version ≡ current_version)
  unfolding checks_of
  sound f k =
      let never : Err Checksum ≡ Ok f → ⊥ = λ e. (apart cc) in
      let p = not_refused (header_refusal ed editing base (length a) (header_of a)) _ f k in
      let q = past (refuses_checksum ed a) _ _ _ never p.1 in
      let s = header-sound ed editing base (length a) (header_of a) p.0 in (
        record {
          header = s.0;
          summed = not-false (ed.summed a) q.0;
          row = seen (walk a);
          walked = accepted-walk (header_of a) (walk a) f q.1;
        },
        s.1,
      )

  -- a list that keeps to all of it is accepted
  pub accepts : (s : Sound ed a base) → (editing ≡ true → (header_of a).version ≡ current_version)
      → checks_of ed editing a base ≡ Ok (facts_of (header_of a) s.row)
  unfolding checks_of
  accepts s v = simp (header-passes ed editing base (length a) (header_of a) s.header v, s.summed, s.walked)

-- the entries of a list are those of its walk
pub entries_row : (a : List ℕ) (row : List Entry) → walk a ≡ entries row → entries_of a ≡ row
unfolding entries_of
entries_row a row h = ap seen h

-- ---- the entries of an accepted list

module _ (ed : Edition) (a : List ℕ) (base : ℕ) (s : Sound ed a base) where
  -- each entry lies behind the header and before used_size
  pub row_inside : All (Inside (first_entry (header_of a)) (header_of a).used_size) s.row
  unfolding walk
  row_inside = walk_inside (header_of a).version a (header_of a).used_size (first_entry (header_of a)) s.row s.walked

  -- so does each occurrence of a tag
  pub occurs_inside : (tag n : ℕ) (e : Entry) → occurrence tag n (entries_of a) ≡ Some e
      → Inside (first_entry (header_of a)) (header_of a).used_size e
  occurs_inside tag n e h = occurrence-inside _ tag n s.row e row_inside (ap (occurrence tag n) (sym (entries_row a s.row s.walked)) ∙ h)

-- the data that find answers lies within the area
pub find-within : (ed : Edition) (a : List ℕ) (base tag n : ℕ) (x : Extent) → find_of ed a base tag n ≡ Ok x → x.offset + x.size ≤ length a
unfolding find_of
find-within ed a base tag n x h = go (checks_of ed false a base) refl h
  where
    at_entry : (s : Sound ed a base) (o : Option Entry) → occurrence tag n (entries_of a) ≡ o → found_at o ≡ Ok x → x.offset + x.size ≤ length a
    at_entry s (Some e) p k =
        let i = occurs_inside ed a base s tag n e p in
        let o : e.at + e.hdr_size ≡ x.offset = cc in
        let z : e.data_size ≡ x.size = cc in
        omega arith
    at_entry s None p k = apart cc

    go : (c : Result Facts Refusal) → checks_of ed false a base ≡ c
        → after_check c (cond (refuses_tag tag) (Err Tag) (found_at (occurrence tag n (entries_of a)))) ≡ Ok x
        → x.offset + x.size ≤ length a
    go (Ok f) p k =
        let never : Err Tag ≡ Ok x → ⊥ = λ e. (apart cc) in
        at_entry (sound ed false a base f p).0 (occurrence tag n (entries_of a)) refl (past (refuses_tag tag) _ _ _ never k).1
    go (Err r) p k = apart cc

-- ---- the sizes of an accepted list

module _ (ed : Edition) (a : List ℕ) (base : ℕ) (s : Sound ed a base) where
  -- its entries start behind a header's bytes
  pub first-least : ed.header_size ≤ first_entry (header_of a)
  first-least =
      let z = s.header.sizes in
      let k : ed.header_size ≤ (header_of a).hdr_size = header-least (header_of a).version ed.header_size _ z.header in
      omega arith

  -- and its used bytes are no fewer
  pub used-least : ed.header_size ≤ (header_of a).used_size
  used-least = omega (arith, first-least, s.header.sizes.first)

  -- and lie within the area
  pub used-most : (header_of a).used_size ≤ length a
  used-most = omega (arith, s.header.sizes.used, s.header.sizes.total)

-- ---- a list that is admitted to an edit or a conversion, with its header

pub record AdmittedIn (ed : Edition) (a : List ℕ) (base : ℕ) (h : Header) : Type 0 where
  pub header : h ≡ header_of a
  pub sound : Sound ed a base
  pub version : (header_of a).version ≡ current_version

-- a current one
abbrev pub Admitted : List ℕ → ℕ → Header → Type 0
Admitted a base h = AdmittedIn current a base h
