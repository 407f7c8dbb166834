-- Laws of the area that a plan makes, byte by byte: of an entry's header, of the plan's stretch, of the header fields, and of the whole.
use mathlib.Core.Path.{◌≡◌, refl, sym, ◌∙◌}
use Prim.Native.Nat.{ℕ, zero, suc, ◌+◌, ◌-◌, ◌/◌, ◌%◌, ◌≤◌, ◌<◌}
use native.Mathlib.Omega.{arith}
use mathlib.Core.Logic.{◌⊎◌, inl, inr}
use mathlib.Core.Bool.{Bool, true, false, ◌&&◌}
use mathlib.Core.List.{List, [], ◌∷◌, ◌++◌}
use lib.ListN.{length, get_or, set, replicate, length-set, length-replicate, get_or-append}
use lib.Dec.{leb, ltb}
use borrow.Author.Tests.{leb-true, leb-false, ltb-true, ltb-false}
use lib.Seq.{get_or-append-add, get_or-set_other, get_or-set_same}
use Rattle.std.specs.Int.{w32, to_le_bytes}
use Rattle.std.proofs.lemmas.Bool.{cases_lt}
use Rattle.wire.specs.Bytes.{le_bytes, splice}
use Rattle.wire.proofs.Field.{length-le_bytes}
use Rattle.wire.proofs.Splice.{splice-set, length-splice, get_or-splice_before, get_or-splice_in, get_or-splice-behind}
use Rattle.rules.specs.Header.{header_size}
use Rattle.rules.specs.Entries.{entry_header}
use Rattle.laws.proofs.EntryBytes.{length-entry_header}
use Rattle.journal.proofs.Clearing.{and_left, and_right}
use Rattle.plan.specs.declared.Plan.{Plan}
use Rattle.plan.specs.Plan.{void_header, whole_void, void_span, stretch_of, stretch_length, fields_after, after}
use Rattle.plan.proofs.Laws.{whole-void, header_span_le, length-whole_void, length-stretch_of}
use Rattle.words.specs.Words.{Writable}

-- ---- a test of two bounds

-- where it holds, i is low or more and under high
pub between : (low high i : ℕ) → (leb low i && ltb i high) ≡ true → (low ≤ i) × (i < high)
between low high i t =
    (leb-true low i (and_left (leb low i) (ltb i high) t), ltb-true i high (and_right (leb low i) (ltb i high) t))

-- where it fails, i is under low, or high or more
pub apart : (low high i : ℕ) → (leb low i && ltb i high) ≡ false → (i < low) ⊎ (high ≤ i)
apart low high i = go (leb low i) refl
  where
    go : (b : Bool) → leb low i ≡ b → (b && ltb i high) ≡ false → (i < low) ⊎ (high ≤ i)
    go true e t = inr (ltb-false i high t)
    go false e t = inl (leb-false low i e)

-- ---- lists

-- two lists, of which the first has n bytes: a byte of the first
pub get_or_front : (x y : List ℕ) (n k : ℕ) → length x ≡ n → k < n → get_or (x ++ y) k 0 ≡ get_or x k 0
get_or_front x y n k e h = get_or-append x y 0 k (omega arith)

-- and one of the second
pub get_or_back : (x y : List ℕ) (n k : ℕ) → length x ≡ n → n ≤ k → get_or (x ++ y) k 0 ≡ get_or y (k - n) 0
get_or_back x y n k e h =
    let f : length x + (k - n) ≡ k = omega arith in
    rw f at (get_or-append-add x y (k - n) 0)

-- what is behind a list counts 0, so zeros there change nothing
get_or-zeros : (x : List ℕ) (n k : ℕ) → get_or (x ++ replicate n 0) k 0 ≡ get_or x k 0
get_or-zeros [] zero k = refl
get_or-zeros [] (suc n) zero = refl
get_or-zeros [] (suc n) (suc k) = get_or-zeros [] n k
get_or-zeros (b ∷ x) n zero = refl
get_or-zeros (b ∷ x) n (suc k) = get_or-zeros x n k

-- a byte outside a splice
get_or-splice_outside : (a : List ℕ) (at : ℕ) (new : List ℕ) → at ≤ length a
    → (i : ℕ) → (i < at) ⊎ (at + length new ≤ i) → get_or (splice a at new) i 0 ≡ get_or a i 0
get_or-splice_outside a at new l i (inl h) = get_or-splice_before a at new l i h
get_or-splice_outside a at new l i (inr h) = get_or-splice-behind a at new l i h

-- ---- a number's bytes

-- the library's are those of the rules
pub library_bytes : (n : ℕ) → to_le_bytes w32 n ≡ le_bytes 4 n
unfolding le_bytes
library_bytes n =
    let two : n / 65536 ≡ n / 256 / 256 = omega arith in
    let three : n / 16777216 ≡ n / 256 / 256 / 256 = omega arith in
    rw (two, three) refl

-- ---- an entry's header

-- a byte of the tag
pub header-tag : (tag size k : ℕ) → k < 3 → get_or (entry_header tag size) k 0 ≡ get_or (le_bytes 4 tag) k 0
unfolding entry_header le_bytes
header-tag tag size zero h = refl
header-tag tag size (suc zero) h = refl
header-tag tag size (suc (suc zero)) h = refl
header-tag tag size (suc (suc (suc k))) h = absurd (omega arith)

-- and one of the size
pub header-size : (tag size k : ℕ) → 4 ≤ k → get_or (entry_header tag size) k 0 ≡ get_or (le_bytes 4 size) (k - 4) 0
unfolding entry_header le_bytes
header-size tag size k h = get_or_back (le_bytes 3 tag ++ le_bytes 1 8) (le_bytes 4 size) 4 k refl h

-- ---- the stretch

-- the entry's header, the zeros, and what follows the data
abbrev head : Plan → List ℕ
head p = entry_header p.tag_id p.data_size

abbrev zeros : Plan → List ℕ
zeros p = replicate p.zeros 0

abbrev tail : Plan → List ℕ
tail p = zeros p ++ void_header p.behind

module _ (p : Plan) (content : List ℕ) (k : ℕ) (e : p.padding ≡ void_span p.padding) where
  length-padding : length (whole_void p.padding) ≡ p.padding
  length-padding = length-whole_void p.padding ∙ sym e

  -- byte k is in the padding void
  pub in_padding : k < p.padding → get_or (stretch_of p content) k 0 ≡ get_or (void_header p.padding) k 0
  unfolding stretch_of
  in_padding h =
      get_or_front (whole_void p.padding) (head p ++ (content ++ tail p)) p.padding k length-padding h
      ∙ rw whole-void (get_or-zeros (void_header p.padding) (p.padding - 8) k)

  -- it is behind it
  module _ (h : p.padding ≤ k) where
    from_head : get_or (stretch_of p content) k 0 ≡ get_or (head p ++ (content ++ tail p)) (k - p.padding) 0
    unfolding stretch_of
    from_head = get_or_back (whole_void p.padding) (head p ++ (content ++ tail p)) p.padding k length-padding h

    length_head : length (head p) ≡ 8
    length_head = length-entry_header p.tag_id p.data_size

    -- in the entry's header
    pub in_head : k - p.padding < 8
        → get_or (stretch_of p content) k 0 ≡ get_or (entry_header p.tag_id p.data_size) (k - p.padding) 0
    in_head g = from_head ∙ get_or_front (head p) (content ++ tail p) 8 (k - p.padding) length_head g

    -- behind that too
    module _ (g : 8 ≤ k - p.padding) where
      from_data : get_or (stretch_of p content) k 0 ≡ get_or (content ++ tail p) (k - p.padding - 8) 0
      from_data = from_head ∙ get_or_back (head p) (content ++ tail p) 8 (k - p.padding) length_head g

      -- in the data
      pub in_data : k - p.padding - 8 < length content → get_or (stretch_of p content) k 0 ≡ get_or content (k - p.padding - 8) 0
      in_data f = from_data ∙ get_or-append content (tail p) 0 (k - p.padding - 8) f

      -- behind that too
      module _ (f : length content ≤ k - p.padding - 8) where
        from-zeros : get_or (stretch_of p content) k 0 ≡ get_or (tail p) (k - p.padding - 8 - length content) 0
        from-zeros = from_data ∙ get_or_back content (tail p) (length content) (k - p.padding - 8) refl f

        -- in the zeros
        pub in_zeros : k - p.padding - 8 - length content < p.zeros → get_or (stretch_of p content) k 0 ≡ 0
        in_zeros d =
            let i : ℕ = k - p.padding - 8 - length content in
            from-zeros
            ∙ get_or_front (zeros p) (void_header p.behind) p.zeros i (length-replicate p.zeros 0) d
            ∙ get_or-zeros [] p.zeros i

        -- in the header of the void behind, or behind the stretch, which counts 0
        pub in_behind : p.zeros ≤ k - p.padding - 8 - length content
            → get_or (stretch_of p content) k 0 ≡ get_or (void_header p.behind) (k - p.padding - 8 - length content - p.zeros) 0
        in_behind d =
            let i : ℕ = k - p.padding - 8 - length content in
            from-zeros ∙ get_or_back (zeros p) (void_header p.behind) p.zeros i (length-replicate p.zeros 0) d

-- ---- the area with the plan's header fields

-- with the checksum byte and the alignment, one byte each
abbrev pub stored : Plan → List ℕ → List ℕ
stored p a = set (set a 4 p.checksum) 7 (p.alignment % 256)

module _ (p : Plan) (a : List ℕ) (l : header_size ≤ length a) where
  length-stored : length (stored p a) ≡ length a
  length-stored = simp length-set

  -- and with used_size
  fields_are : fields_after p a ≡ splice (stored p a) 8 (le_bytes 4 p.used_size)
  unfolding fields_after le_bytes
  fields_are = rw (splice-set (set a 4 p.checksum) 7 (p.alignment % 256) (rw length-set (omega arith)))

  -- as many bytes as before
  length_fields : length (fields_after p a) ≡ length a
  length_fields =
      rw fields_are
      (length-splice (stored p a) 8 (le_bytes 4 p.used_size) (rw (length-le_bytes, length-stored) (omega arith)) ∙ length-stored)

  -- a byte of used_size
  pub fields_used : (i : ℕ) → 8 ≤ i → i < 12 → get_or (fields_after p a) i 0 ≡ get_or (le_bytes 4 p.used_size) (i - 8) 0
  fields_used i h g =
      let e : 8 + (i - 8) ≡ i = omega arith in
      rw fields_are
      (rw e at (get_or-splice_in (stored p a) 8 (le_bytes 4 p.used_size) (rw length-stored (omega arith)) (i - 8) (rw length-le_bytes (omega arith))))

  -- and another one
  fields_stored : (i : ℕ) → (i < 8) ⊎ (12 ≤ i) → get_or (fields_after p a) i 0 ≡ get_or (stored p a) i 0
  fields_stored i h =
      rw fields_are
      (get_or-splice_outside (stored p a) 8 (le_bytes 4 p.used_size) (rw length-stored (omega arith)) i (rw length-le_bytes h))

  -- the checksum byte
  pub fields_checksum : get_or (fields_after p a) 4 0 ≡ p.checksum
  fields_checksum =
      fields_stored 4 (inl (omega arith))
      ∙ get_or-set_other (set a 4 p.checksum) 7 4 (p.alignment % 256) 0 (λ e. omega arith)
      ∙ get_or-set_same a 4 p.checksum 0 (omega arith)

  -- the alignment
  pub fields_alignment : p.alignment < 256 → get_or (fields_after p a) 7 0 ≡ p.alignment
  fields_alignment h =
      let m : p.alignment % 256 ≡ p.alignment = omega arith in
      fields_stored 7 (inl (omega arith))
      ∙ get_or-set_same (set a 4 p.checksum) 7 (p.alignment % 256) 0 (rw length-set (omega arith))
      ∙ m

  -- a byte as it was
  pub fields_kept : (i : ℕ) → (i ≡ 4 → ⊥) → (i ≡ 7 → ⊥) → (8 ≤ i → 12 ≤ i) → get_or (fields_after p a) i 0 ≡ get_or a i 0
  fields_kept i f s o =
      fields_stored i (elim (cases_lt i 8) [ inl l ↦ inl l | inr l ↦ inr (o l) ])
      ∙ get_or-set_other (set a 4 p.checksum) 7 i (p.alignment % 256) 0 s
      ∙ get_or-set_other a 4 i p.checksum 0 f

-- ---- the area that the plan makes

module _ (p : Plan) (a content : List ℕ) (w : Writable p (length a) (length content)) where
  header : header_size ≤ length a
  header = omega arith

  length_stretch : length (stretch_of p content) ≡ stretch_length p (length content)
  length_stretch = length-stretch_of p content w.padding

  within : p.at + stretch_length p (length content) ≤ length (fields_after p a)
  within = rw (length_fields p a header) (omega (arith, (header_span_le p.behind).0))

  -- as many bytes as before
  pub length-after : length (after p a content) ≡ length a
  unfolding after
  length-after = length-splice (fields_after p a) p.at (stretch_of p content) (rw length_stretch within) ∙ length_fields p a header

  -- a byte of the stretch
  pub after_in : (i : ℕ) → p.at ≤ i → i < p.at + stretch_length p (length content)
      → get_or (after p a content) i 0 ≡ get_or (stretch_of p content) (i - p.at) 0
  unfolding after
  after_in i h g =
      let e : p.at + (i - p.at) ≡ i = omega arith in
      rw e at (get_or-splice_in (fields_after p a) p.at (stretch_of p content) (omega (arith, within)) (i - p.at) (rw length_stretch (omega arith)))

  -- and one outside it
  pub after_fields : (i : ℕ) → (i < p.at) ⊎ (p.at + stretch_length p (length content) ≤ i)
      → get_or (after p a content) i 0 ≡ get_or (fields_after p a) i 0
  unfolding after
  after_fields i h = get_or-splice_outside (fields_after p a) p.at (stretch_of p content) (omega (arith, within)) i (rw length_stretch h)

  -- which is as it was, behind the header fields
  pub after_outside : (i : ℕ) → 12 ≤ i → (i < p.at) ⊎ (p.at + stretch_length p (length content) ≤ i)
      → get_or (after p a content) i 0 ≡ get_or a i 0
  after_outside i g h =
      after_fields i h ∙ fields_kept p a header i (λ e. omega arith) (λ e. omega arith) (λ e. g)
