-- Laws of the edits: where the entries of an admitted list stand, that each plan is well-formed, and that it comes to what the rules say.
use Rattle.std.specs.Prelude.{Err, IsOk, None, Ok, Result, Some}
use mathlib.Core.Path.{◌≡◌, refl, sym, ap, ◌∙◌, subst}
use Prim.Native.Nat.{ℕ, ◌+◌, ◌-◌, ◌%◌, ◌^◌, ◌≤◌, ◌<◌, max}
use native.Mathlib.Omega.{arith}
use native.Mathlib.Nat.{mod-lt}
use mathlib.Core.Bool.{Bool, true, false, cond}
use mathlib.Core.List.{List, [], ◌∷◌, ◌++◌, append_assoc, append-nil}
use lib.ListN.{length, length-append}
use lib.Pow.{pow_mono}
use lib.Dec.{ltb, eqb}
use borrow.Author.Tests.{ltb-true, ltb-false, le-leb, lt-leb, lt-ltb, le-ltb, eqb-false}
use Rattle.wire.proofs.Apart.{apart}
use Rattle.wire.proofs.Range.{Bytes}
use Rattle.rules.specs.declared.Header.{Header}
use Rattle.rules.specs.declared.Entry.{Entry}
use Rattle.rules.specs.declared.Facts.{Facts}
use Rattle.rules.specs.declared.Refusal.{Refusal}
use Rattle.rules.specs.declared.Refusal.TheVariants.{Tag, Shape, Align, Room}
use Rattle.rules.specs.declared.Refusal.TheVariants as refusal
use Rattle.rules.specs.Area.{align8, max_length, max_alignment}
use Rattle.rules.specs.Header.{header_of, header_size}
use Rattle.rules.specs.Edition.{current}
use Rattle.rules.specs.Entries.{entries_of, occurrence}
use Rattle.rules.specs.Checksum.{seal}
use Rattle.rules.specs.Refusals.{refuses_tag, refuses_tag_add, refuses_align}
use Rattle.rules.specs.Tags.{refuses_shape}
use Rattle.rules.specs.Check.{admit}
use Rattle.rules.specs.Outcome.{Outcome, refused, done, after_admission}
use Rattle.rules.specs.Add.{entry_bytes, remainder, void_behind, first_fit, add_in_void, add_at_end, add, room}
use Rattle.rules.specs.AddAligned.{void_bytes, padding_void, aligned_bytes, add_aligned_at_end, add_aligned}
use Rattle.rules.specs.Void.{void_at, void}
use Rattle.rules.specs.Edit.{Edit, to_add, to_add_aligned, to_void, act, run}
use Rattle.laws.proofs.Check.{sound, used-least, used-most, Admitted}
use Rattle.laws.proofs.Passed.{tag_range, align_range}
use Rattle.laws.proofs.Row.{row_eights}
use Rattle.laws.proofs.Walk.{neither}
use Rattle.laws.proofs.Live.{Parts, first_fit_lem, occurs}
use Rattle.laws.proofs.Ready.{Ready, ready_sound}
use Rattle.laws.proofs.Change.{Placed, placed}
use Rattle.laws.proofs.Power.{power_positive, power_eights, eights-mod}
use Rattle.laws.proofs.Patch.{edited, in_place_lem, appended, appended_aligned}
use Rattle.laws.proofs.EntryBytes.{length-entry_bytes}
use Rattle.plan.specs.declared.Plan.{Plan}
use Rattle.plan.specs.Plan.{whole_void, void_header, void_span, stretch_of, with_checksum, outcome_of, WellFormed, Decides}
use Rattle.plan.proofs.Laws.{length-whole_void, header_span_le, no_header, some-header, after_sealed}
use Rattle.edit.specs.Decide.{
  plan_in_void,
  plan_at_end,
  plan_void,
  padding_for,
  judged_add,
  end_outcome,
  add_place,
  planned_by,
  content_of,
  bare_for,
  planned_for,
}

-- ---- admission

-- what the checks tell of a list that they admit, whose header is h
pub admitted : (a : List ℕ) (base : ℕ) (h : Header) → h ≡ header_of a → IsOk (admit a base) → Admitted a base h
admitted a base h e k = go (admit a base) refl k
  where
    go : (c : Result Facts Refusal) → admit a base ≡ c → IsOk c → Admitted a base h
    go (Ok f) p k = let z = sound current true a base f p in record { header = e; sound = z.0; version = z.1 refl }
    go (Err r) p k = apart cc

-- an edit of it comes to what its rule says
runs : (e : Edit) (a : List ℕ) (base : ℕ) → IsOk (admit a base) → run e a base ≡ act e a base
runs e a base k = go (admit a base) k
  where
    go : (c : Result Facts Refusal) → IsOk c → after_admission c (act e a base) ≡ act e a base
    go (Ok f) k = refl
    go (Err r) k = apart cc

-- ---- where the entries of an admitted list stand

module _ (a : List ℕ) (base : ℕ) (h : Header) (m : Admitted a base h) where
  -- each of them behind the header and before used_size, at a multiple of 8
  stands : (e : Entry) (k : Parts (entries_of a) e) → Placed a k.before e k.behind × (e.at % 8 ≡ 0)
  stands e k =
      let r : Ready a base (k.before ++ (e ∷ k.behind)) = subst (Ready a base) k.whole (ready_sound a base m.sound m.version) in
      let p : Placed a k.before e k.behind = placed a base k.before e k.behind r in
      (p, row_eights a header_size e.at k.before p.front (omega arith))

  -- the first void that fits has room for the data rounded up to a multiple of 8
  pub void-room : (n : ℕ) (e : Entry) → first_fit n (entries_of a) ≡ Some e
      → (header_size ≤ e.at) × (e.at % 8 ≡ 0) × (align8 n ≤ e.data_size) × (e.at + (8 + e.data_size) ≤ (header_of a).used_size)
  void-room n e f =
      let k = first_fit_lem n (entries_of a) e f in
      let s = stands e k.0 in
      let p = s.0 in
      let z : e.hdr_size ≡ 8 = p.regular.header in
      let v : e.data_size % 8 ≡ 0 = p.regular.eights k.1 in
      let l : n ≤ e.data_size = k.2 in
      let g = p.high in
      (p.low, s.1, omega arith, omega arith)

  -- an occurrence of a tag has room for the void that takes its place
  entry_room : (tag n : ℕ) (e : Entry) → 0 < tag → occurrence tag n (entries_of a) ≡ Some e
      → (header_size ≤ e.at) × (e.at % 8 ≡ 0) × (e.at + (8 + align8 e.data_size) ≤ (header_of a).used_size)
  entry_room tag n e t f =
      let s = stands e (occurs tag n (entries_of a) e (λ z. omega arith) f).parts in
      let p = s.0 in
      let z : e.hdr_size ≡ 8 = p.regular.header in
      let g = p.high in
      (p.low, s.1, omega arith)

-- ---- decisions

-- what a refusal comes to: no plan is asked for
pub decides_refused : (a content : List ℕ) (o : Outcome) (r : Refusal) (q : Plan) → o ≡ refused r
    → Decides a content o (Err r) × (Err r ≡ planned_by a content o q)
unfolding outcome_of
decides_refused a content o r q h = (record { comes = sym h; writable = tt }, rw h)

-- the outcome that a plan stands for: the edited area with the checksum worked out afresh
abbrev planned : List ℕ → List ℕ → Plan → Outcome
planned a content p = done p.value (seal (edited a p.alignment p.used_size p.at (stretch_of p content)))

-- a plan, with its checksum, decides on an outcome, and is what an edit that comes to it has decided
abbrev Decided : List ℕ → List ℕ → Outcome → Plan → Type 0
Decided a content o p =
    Decides a content o (Ok (with_checksum a content p)) × (Ok (with_checksum a content p) ≡ planned_by a content o p)

-- a well-formed one does on every outcome that it stands for
decides_plan : (a content : List ℕ) (base : ℕ) (h : Header) (p : Plan) (o : Outcome) → Admitted a base h → Bytes a
    → WellFormed h (length a) (length content) p → planned a content p ≡ o → Decided a content o p
unfolding outcome_of with_checksum
decides_plan a content base h p o m b w e =
    let v : WellFormed (header_of a) (length a) (length content) p =
    subst (λ (x : Header). WellFormed x (length a) (length content) p) m.header w in (
      record {
        comes = ap (done p.value) (after_sealed p a content b m.sound.summed (used-most current a base m.sound) v) ∙ e;
        writable = record {
          low = v.low;
          eights = v.eights;
          old = v.old;
          used = v.used;
          inside = v.inside;
          padding = v.padding;
          tag = v.tag;
          alignment = v.alignment;
          small = v.small;
        };
      },
      rw (← e),
    )

-- ---- the bytes that the plans write

-- what is left of a void of v bytes of data is written as the rule has it
remainder-void : (v n : ℕ) → void_header (remainder v n) ≡ void_behind v n
unfolding void_behind
remainder-void v n = go (ltb (remainder v n) 8) refl
  where
    go : (b : Bool) → ltb (remainder v n) 8 ≡ b → void_header (remainder v n) ≡ void_behind v n
    go true t =
        let h : remainder v n < 8 = ltb-true (remainder v n) 8 t in
        no_header (remainder v n) h ∙ rw (lt-leb 8 (remainder v n) h)
    go false t =
        let h : 8 ≤ remainder v n = ltb-false (remainder v n) 8 t in
        some-header (remainder v n) h ∙ rw (le-leb 8 (remainder v n) h)

-- the bytes of the plan are the rule's
stretch_in_void : (h : Header) (e : Entry) (tag : ℕ) (content : List ℕ)
    → stretch_of (plan_in_void h e tag (length content)) content ≡ entry_bytes tag content ++ void_behind e.data_size (length content)
unfolding stretch_of entry_bytes whole_void
stretch_in_void h e tag content = simp (append_assoc, remainder-void)

-- and of the plan at used_size
stretch_at_end : (h : Header) (padding alignment tag : ℕ) (content : List ℕ)
    → stretch_of (plan_at_end h padding alignment tag (length content)) content ≡ whole_void padding ++ entry_bytes tag content
unfolding stretch_of entry_bytes void_header
stretch_at_end h padding alignment tag content = simp append-nil

-- and of the plan of a void
stretch_void : (h : Header) (e : Entry) → stretch_of (plan_void h e) [] ≡ void_bytes (align8 e.data_size)
unfolding stretch_of void_bytes whole_void void_header
stretch_void h e = simp append-nil

-- ---- the plans

module _ (a : List ℕ) (base : ℕ) (h : Header) (m : Admitted a base h) where
  -- the header that was read is the list's
  same_used : h.used_size ≡ (header_of a).used_size
  same_used = ap (λ (x : Header). x.used_size) m.header

  same_total : h.total_size ≡ (header_of a).total_size
  same_total = ap (λ (x : Header). x.total_size) m.header

  same_alignment : h.alignment ≡ (header_of a).alignment
  same_alignment = ap (λ (x : Header). x.alignment) m.header

  -- its used bytes start with a header and end within the area
  used_range : (header_size ≤ (header_of a).used_size) × ((header_of a).used_size ≤ length a) × (length a ≤ max_length)
  used_range = (used-least current a base m.sound, used-most current a base m.sound, m.sound.header.usable.short)

  -- there is as much room as the header says
  same_room : h.total_size - h.used_size ≡ room a
  same_room = rw (same_used, same_total)

  -- an entry in the place of the first void that fits
  pub in_void_formed : (e : Entry) (tag n : ℕ) → first_fit n (entries_of a) ≡ Some e → tag < 2 ^ 24
      → WellFormed h (length a) n (plan_in_void h e tag n)
  in_void_formed e tag n f t =
      let k = void-room a base h m n e f in
      let u = same_used in
      let r = used_range in
      let i = same_alignment in
      let g = header_span_le (remainder e.data_size n) in
      record {
        low = k.0;
        eights = k.1;
        old = omega arith;
        used = omega arith;
        inside = omega arith;
        padding = refl;
        tag = t;
        alignment = omega (arith, m.sound.header.sizes.most);
        small = omega arith;
      }

  -- an entry at used_size, with room enough
  pub at_end_formed : (padding alignment tag n : ℕ) → padding ≡ void_span padding → alignment < 256 → tag < 2 ^ 24
      → padding + 8 + align8 n ≤ h.total_size - h.used_size → WellFormed h (length a) n (plan_at_end h padding alignment tag n)
  at_end_formed padding alignment tag n v z t f =
      let u = same_used in
      let e = same_total in
      let r = used_range in
      let s = m.sound.header.sizes in
      record {
        low = omega arith;
        eights = rw u s.used8;
        old = omega arith;
        used = omega arith;
        inside = omega arith;
        padding = v;
        tag = t;
        alignment = z;
        small = omega arith;
      }

  -- a void in the place of an occurrence of a tag
  pub void_formed : (tag n : ℕ) (e : Entry) → 0 < tag → occurrence tag n (entries_of a) ≡ Some e → WellFormed h (length a) 0 (plan_void h e)
  void_formed tag n e t f =
      let k = entry_room a base h m tag n e t f in
      let u = same_used in
      let r = used_range in
      let i = same_alignment in
      record {
        low = k.0;
        eights = k.1;
        old = omega arith;
        used = omega arith;
        inside = omega arith;
        padding = refl;
        tag = omega arith;
        alignment = omega (arith, m.sound.header.sizes.most);
        small = omega arith;
      }

  -- without room the add at used_size is refused
  pub no_room : (padding alignment tag : ℕ) (content : List ℕ) → h.total_size - h.used_size < padding + 8 + align8 (length content)
      → end_outcome a padding alignment tag content ≡ refused Room
  unfolding end_outcome
  no_room padding alignment tag content l = rw (lt-ltb _ _ (rw same_room at l))

  module _ (b : Bytes a) where
    -- the first comes to the rule's add into that void
    in_void-comes : (e : Entry) (tag : ℕ) (content : List ℕ)
        → planned a content (plan_in_void h e tag (length content)) ≡ add_in_void a tag content e
    unfolding add_in_void
    in_void-comes e tag content =
        let x : List ℕ = entry_bytes tag content ++ void_behind e.data_size (length content) in
        rw (stretch_in_void h e tag content, same_used, same_alignment, in_place_lem a e.at x b m.sound.header.long)

    -- the second to the add at used_size
    at_end-comes : (padding alignment tag : ℕ) (content : List ℕ) → padding + 8 + align8 (length content) ≤ h.total_size - h.used_size
        → planned a content (plan_at_end h padding alignment tag (length content)) ≡ end_outcome a padding alignment tag content
    unfolding end_outcome
    at_end-comes padding alignment tag content f =
        rw (stretch_at_end h padding alignment tag content, same_used, le-ltb (room a) (padding + 8 + align8 (length content)) (rw same_room at f))

    -- the third to the rule's void
    void-comes : (e : Entry) → planned a [] (plan_void h e) ≡ void_at a (Some e)
    void-comes e =
        let x : List ℕ = void_bytes (align8 e.data_size) in
        rw (stretch_void h e, same_used, same_alignment, in_place_lem a e.at x b m.sound.header.long)

    -- so each decides on what it comes to
    pub in_void-decided : (e : Entry) (tag : ℕ) (content : List ℕ) → first_fit (length content) (entries_of a) ≡ Some e → tag < 2 ^ 24
        → Decided a content (add_in_void a tag content e) (plan_in_void h e tag (length content))
    in_void-decided e tag content f t =
        decides_plan a content base h _ _ m b (in_void_formed e tag (length content) f t) (in_void-comes e tag content)

    pub at_end-decided : (padding alignment tag : ℕ) (content : List ℕ) → padding ≡ void_span padding → alignment < 256 → tag < 2 ^ 24
        → padding + 8 + align8 (length content) ≤ h.total_size - h.used_size
        → Decided a content (end_outcome a padding alignment tag content) (plan_at_end h padding alignment tag (length content))
    at_end-decided padding alignment tag content v z t f =
        decides_plan a content base h _ _ m b (at_end_formed padding alignment tag (length content) v z t f)
        (at_end-comes padding alignment tag content f)

    pub void-decided : (tag n : ℕ) (e : Entry) → 0 < tag → occurrence tag n (entries_of a) ≡ Some e
        → Decided a [] (void_at a (Some e)) (plan_void h e)
    void-decided tag n e t f = decides_plan a [] base h _ _ m b (void_formed tag n e t f) (void-comes e)

    -- an add at used_size has no padding and leaves the alignment
    pub add-end : (tag : ℕ) (content : List ℕ) → add_at_end a tag content ≡ end_outcome a 0 h.alignment tag content
    unfolding add_at_end end_outcome whole_void
    add-end tag content =
        let l : length (entry_bytes tag content) ≡ align8 (8 + length content) = length-entry_bytes tag content in
        let n : 0 + 8 + align8 (length content) ≡ align8 (8 + length content) = omega arith in
        let u : (header_of a).used_size + 0 + 8 ≡ (header_of a).used_size + 8 = omega arith in
        let w : (header_of a).used_size + 0 + 8 + align8 (length content) ≡ (header_of a).used_size + length (entry_bytes tag content) = omega arith in
        let r = used_range in
        rw (n, w, u, same_alignment, appended a (entry_bytes tag content) b r.0 r.1)

-- ---- the padding

module _ (base used exponent : ℕ) (h : 3 ≤ exponent) (b : base % 8 ≡ 0) (u : used % 8 ≡ 0) where
  -- where the data would not be aligned, 8 bytes or more bring it there
  padding-least : eqb ((base + used + 8) % 2 ^ exponent) 0 ≡ false → 8 ≤ 2 ^ exponent - (base + used + 8) % 2 ^ exponent
  padding-least t =
      let x : ℕ = base + used + 8 in
      let m : ℕ = 2 ^ exponent in
      let n = eqb-false (x % m) 0 t in
      let m8 : m % 8 ≡ 0 = power_eights exponent h in
      let x8 : x % m % 8 ≡ 0 = eights-mod x m m8 ∙ omega arith in
      let l : x % m < m = mod-lt x (power_positive exponent) in
      omega (arith, n)

  -- so the padding takes no byte, or 8 or more
  pub padding-span : padding_for base used exponent ≡ void_span (padding_for base used exponent)
  unfolding padding_for
  padding-span = go (eqb ((base + used + 8) % 2 ^ exponent) 0) refl
    where
      go : (t : Bool) → eqb ((base + used + 8) % 2 ^ exponent) 0 ≡ t → padding_for base used exponent ≡ void_span (padding_for base used exponent)
      go true t = rw t
      go false t = rw (t, le-ltb _ 8 (padding-least t))

  -- and is written as the rule's padding void
  padding-whole : padding_void exponent ((base + used + 8) % 2 ^ exponent) ≡ whole_void (padding_for base used exponent)
  unfolding padding_void padding_for whole_void
  padding-whole = go (eqb ((base + used + 8) % 2 ^ exponent) 0) refl
    where
      go : (t : Bool) → eqb ((base + used + 8) % 2 ^ exponent) 0 ≡ t
          → padding_void exponent ((base + used + 8) % 2 ^ exponent) ≡ whole_void (padding_for base used exponent)
      go true t = rw t
      go false t = rw (t, le-ltb _ 8 (padding-least t))

-- the padding is no more than the alignment, which is at most the largest
pub padding-small : (base used exponent : ℕ) → exponent ≤ max_alignment → padding_for base used exponent ≤ 2 ^ max_alignment
unfolding padding_for
padding-small base used exponent h = go (eqb ((base + used + 8) % 2 ^ exponent) 0) refl
  where
    go : (t : Bool) → eqb ((base + used + 8) % 2 ^ exponent) 0 ≡ t → padding_for base used exponent ≤ 2 ^ max_alignment
    go true t = rw t (omega arith)
    go false t = let m : 2 ^ exponent ≤ 2 ^ max_alignment = pow_mono h in rw t (omega arith)

-- the aligned add at used_size has that padding and raises the alignment
aligned-end : (a : List ℕ) (base : ℕ) (h : Header) (tag : ℕ) (content : List ℕ) (exponent : ℕ) → Admitted a base h → 3 ≤ exponent
    → add_aligned_at_end a base tag content exponent
    ≡ end_outcome a (padding_for base h.used_size exponent) (max h.alignment exponent) tag content
unfolding add_aligned_at_end aligned_bytes end_outcome
aligned-end a base h tag content exponent m k =
    let s = m.sound.header in
    let u : ℕ = (header_of a).used_size in
    let q : ℕ = padding_for base u exponent in
    let w : padding_void exponent ((base + u + 8) % 2 ^ exponent) ≡ whole_void q = padding-whole base u exponent k s.usable.base8 s.sizes.used8 in
    let v : q ≡ void_span q = padding-span base u exponent k s.usable.base8 s.sizes.used8 in
    let lv : length (whole_void q) ≡ q = length-whole_void q ∙ sym v in
    let le : length (entry_bytes tag content) ≡ align8 (8 + length content) = length-entry_bytes tag content in
    let new : List ℕ = whole_void q ++ entry_bytes tag content in
    let ln : length new ≡ q + 8 + align8 (length content) = rw (length-append, lv, le) (omega arith) in
    let sum : u + length new ≡ u + q + 8 + align8 (length content) = omega arith in
    let r = used_range a base h m in
    rw (same_used a base h m, same_alignment a base h m, w, ln, lv, appended_aligned a exponent new r.0 r.1, sum)

-- ---- the decisions

-- what is refused is decided: by the checks,
pub not_admitted : (e : Edit) (a : List ℕ) (base : ℕ) (r : Refusal) → admit a base ≡ Err r
    → Decides a (content_of e) (run e a base) (Err r) × (Err r ≡ planned_for e a base)
not_admitted e a base r k = decides_refused a (content_of e) (run e a base) r (bare_for e a base) (rw k)

-- by checks 9 and 10 of an add
abbrev behind : Result Unit Refusal → Outcome → Outcome
behind (Ok x) o = o
behind (Err r) o = refused r

judged : (tag n : ℕ) (o : Outcome)
    → cond (refuses_tag_add tag) (refused Tag) (cond (refuses_shape tag n) (refused Shape) o) ≡ behind (judged_add tag n) o
judged tag n o = go (refuses_tag_add tag) (refuses_shape tag n)
  where
    go : (t s : Bool) → cond t (refused Tag) (cond s (refused Shape) o) ≡ behind (cond t (Err Tag) (cond s (Err Shape) (Ok tt))) o
    go true s = refl
    go false true = refl
    go false false = refl

-- which leave a tag of three bytes
pub judged_tag : (tag n : ℕ) → Ok tt ≡ judged_add tag n → tag < 2 ^ 24
judged_tag tag n k = go (refuses_tag_add tag) refl k
  where
    go : (t : Bool) → refuses_tag_add tag ≡ t → Ok (tt {0}) ≡ cond t (Err Tag) (cond (refuses_shape tag n) (Err Shape) (Ok (tt {0}))) → tag < 2 ^ 24
    go true p k = apart cc
    go false p k = (tag_range tag (neither (refuses_tag tag) _ p).0).1

module _ (a : List ℕ) (base : ℕ) (k : IsOk (admit a base)) where
  -- by the edit's own rule
  ruled_out : (e : Edit) (r : Refusal) → act e a base ≡ refused r
      → Decides a (content_of e) (run e a base) (Err r) × (Err r ≡ planned_for e a base)
  ruled_out e r q = decides_refused a (content_of e) (run e a base) r (bare_for e a base) (runs e a base k ∙ q)

  module _ (tag : ℕ) (content : List ℕ) where
    pub add-refused : (use_voids : Bool) (r : Refusal) → Err r ≡ judged_add tag (length content)
        → Decides a content (run (to_add tag content use_voids) a base) (Err r) × (Err r ≡ planned_for (to_add tag content use_voids) a base)
    unfolding add
    add-refused use_voids r q = ruled_out (to_add tag content use_voids) r (judged tag (length content) _ ∙ rw (← q))

    pub aligned-refused : (exponent : ℕ) (r : Refusal) → Err r ≡ judged_add tag (length content)
        → Decides a content (run (to_add_aligned tag content exponent) a base) (Err r)
        × (Err r ≡ planned_for (to_add_aligned tag content exponent) a base)
    unfolding add_aligned
    aligned-refused exponent r q = ruled_out (to_add_aligned tag content exponent) r (judged tag (length content) _ ∙ rw (← q))

    -- what is left to an add that passes them
    pub add-placed : (use_voids : Bool) → Ok tt ≡ judged_add tag (length content)
        → run (to_add tag content use_voids) a base ≡ add_place a tag content use_voids
    unfolding add
    add-placed use_voids q = runs (to_add tag content use_voids) a base k ∙ judged tag (length content) _ ∙ rw (← q)

    aligned-left : (exponent : ℕ) → Ok tt ≡ judged_add tag (length content)
        → run (to_add_aligned tag content exponent) a base
        ≡ cond (refuses_align exponent) (refused Align) (add_aligned_at_end a base tag content exponent)
    unfolding add_aligned
    aligned-left exponent q = runs (to_add_aligned tag content exponent) a base k ∙ judged tag (length content) _ ∙ rw (← q)

    pub align-refused : (exponent : ℕ) → Ok tt ≡ judged_add tag (length content) → refuses_align exponent ≡ true
        → Decides a content (run (to_add_aligned tag content exponent) a base) (Err Align)
        × (Err Align ≡ planned_for (to_add_aligned tag content exponent) a base)
    align-refused exponent q t =
        decides_refused a content _ Align (bare_for (to_add_aligned tag content exponent) a base) (aligned-left exponent q ∙ rw t)

    pub aligned-placed : (h : Header) (exponent : ℕ) → h ≡ header_of a → Ok tt ≡ judged_add tag (length content) → refuses_align exponent ≡ false
        → run (to_add_aligned tag content exponent) a base
        ≡ end_outcome a (padding_for base h.used_size exponent) (max h.alignment exponent) tag content
    aligned-placed h exponent e q t =
        let r = align_range exponent t in
        aligned-left exponent q ∙ rw t (aligned-end a base h tag content exponent (admitted a base h e k) r.0)

  -- a void's tests, and what is left to it
  module _ (tag n : ℕ) where
    pub void-refused : refuses_tag tag ≡ true
        → Decides a [] (run (to_void tag n) a base) (Err Tag) × (Err Tag ≡ planned_for (to_void tag n) a base)
    unfolding void
    void-refused t = ruled_out (to_void tag n) Tag (rw t)

    pub void-placed : refuses_tag tag ≡ false → run (to_void tag n) a base ≡ void_at a (occurrence tag n (entries_of a))
    unfolding void
    void-placed t = runs (to_void tag n) a base k ∙ rw t

    pub void-none : refuses_tag tag ≡ false → occurrence tag n (entries_of a) ≡ None
        → Decides a [] (run (to_void tag n) a base) (Err refusal.None) × (Err refusal.None ≡ planned_for (to_void tag n) a base)
    void-none t o = decides_refused a [] _ refusal.None (bare_for (to_void tag n) a base) (void-placed t ∙ rw o)
