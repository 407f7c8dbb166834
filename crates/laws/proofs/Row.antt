-- A row: entries of version 1, one behind the other, from one place of a list of bytes to another. The walk of version 1 gives
-- exactly the rows. A row depends only on the bytes that it covers, and rows join and part at any of their entries.
use mathlib.Core.Path.{◌≡◌, refl, ap, ◌∙◌}
use Prim.Native.Nat.{ℕ, ◌+◌, ◌-◌, ◌%◌, ◌≤◌, ◌<◌}
use native.Mathlib.Omega.{arith}
use native.Mathlib.Nat.{add_assoc, add-zero, zero-add}
use mathlib.Core.Bool.{Bool, true, false, not, ◌&&◌, ◌||◌}
use mathlib.Core.List.{List, [], ◌∷◌, ◌++◌, map}
use lib.ListN.{get_or}
use lib.Dec.{ltb, eqb}
use borrow.Author.Tests.{eq-eqb, eqb-true, le-ltb, not-false}
use Rattle.wire.proofs.Apart.{apart}
use Rattle.wire.specs.Bytes.{field}
use Rattle.wire.proofs.Field.{field_cong}
use Rattle.rules.specs.declared.Entry.{Entry}
use Rattle.rules.specs.Area.{multiple8}
use Rattle.rules.specs.Header.{entry_header_size}
use Rattle.rules.specs.Entries.{entries, follow, entry_at, is_void, span, wrong_header_size, bad_entry, walk_from}
use Rattle.laws.proofs.Walk.{neither, walk_end, walk-next, Unbroken, ends, goes, unbroken}

-- a test does not both hold and fail
pub absurd_bool : {A : Type 0} → true ≡ false → A
absurd_bool h = apart cc

-- a header size that is not wrong in version 1 is `own`
pub exact : (version own size : ℕ) → version ≡ 1 → wrong_header_size version own size ≡ false → size ≡ own
exact version own size v h = go (eqb size own) refl (rw v at h)
  where
    go : (s : Bool) → eqb size own ≡ s → (not s || false) ≡ false → size ≡ own
    go true p k = eqb-true size own p
    go false p k = absurd_bool k

-- an entry that keeps the rules of version 1, wherever it stands
pub record Regular (e : Entry) : Type 0 where
  pub header : e.hdr_size ≡ entry_header_size
  pub eights : is_void e ≡ true → e.data_size % 8 ≡ 0

-- an entry that is not bad is regular
regular_of : (left : ℕ) (e : Entry) → bad_entry 1 left e ≡ false → Regular e
regular_of left e h =
    let w : Bool = wrong_header_size 1 entry_header_size e.hdr_size in
    let p = neither (w || ltb left (span e)) (is_void e && not (multiple8 e.data_size)) h in
    let q = exact 1 entry_header_size e.hdr_size refl (neither w (ltb left (span e)) p.0).0 in
    record { header = q; eights = λ t. eqb-true _ _ (not-false _ (rw t at p.1)) }

-- and the other way round
regular_keeps : (left : ℕ) (e : Entry) → Regular e → span e ≤ left → bad_entry 1 left e ≡ false
regular_keeps left e f l = rw (eq-eqb _ _ f.header, le-ltb left (span e) l) (go (is_void e) f.eights)
  where
    go : (v : Bool) → (v ≡ true → e.data_size % 8 ≡ 0) → (v && not (multiple8 e.data_size)) ≡ false
    go false h = refl
    go true h = rw (eq-eqb _ _ (h refl))

-- the entries es stand in a from place p on, and end at place q
abbrev pub Row : List ℕ → ℕ → ℕ → List Entry → Type 0
Row a p q [] = p ≡ q
Row a p q (e ∷ es) = (e ≡ entry_at a p) × Regular e × Row a (p + span e) q es

-- an entry of a row stands where it was read
pub place_of : (a : List ℕ) (p : ℕ) {e : Entry} → e ≡ entry_at a p → e.at ≡ p
unfolding entry_at
place_of a p h = ap (λ (x : Entry). x.at) h

-- a row does not end before it starts
pub row_le : (a : List ℕ) (p q : ℕ) (es : List Entry) → Row a p q es → p ≤ q
row_le a p q [] h = omega arith
row_le a p q (e ∷ es) h = omega (arith, row_le a (p + span e) q es h.2)

-- a walk that is not broken gives a row
row_unbroken : (a : List ℕ) (u : ℕ) {p : ℕ} {es : List Entry} → Unbroken 1 a u p es → Row a p u es
row_unbroken a u (ends e) = e
row_unbroken a u {p} (goes b s) = (refl, regular_of (u - p) (entry_at a p) b, row_unbroken a u s)

-- so does one that gives entries
pub row_of_walk : (a : List ℕ) (u p : ℕ) (es : List Entry) → walk_from 1 a u p ≡ entries es → Row a p u es
row_of_walk a u p es w = row_unbroken a u (unbroken 1 a u p es w)

-- a row is what the walk gives
pub walk_of_row : (a : List ℕ) (u p : ℕ) (es : List Entry) → Row a p u es → walk_from 1 a u p ≡ entries es
walk_of_row a u p [] h = rw h (walk_end 1 a u)
walk_of_row a u p (e ∷ es) h =
    let f : Regular (entry_at a p) = rw h.0 at h.1 in
    let r : Row a (p + span (entry_at a p)) u es = rw h.0 at h.2 in
    let l : p + span (entry_at a p) ≤ u = row_le a _ u es r in
    let b : 8 ≤ span (entry_at a p) = omega (arith, f.header) in
    walk-next 1 a u p (omega arith) (regular_keeps (u - p) (entry_at a p) f (omega arith))
    ∙ ap (follow (entry_at a p)) (walk_of_row a u (p + span (entry_at a p)) es r)
    ∙ rw h.0

-- one row behind another
pub row_append : (a : List ℕ) (p q u : ℕ) (xs ys : List Entry) → Row a p q xs → Row a q u ys → Row a p u (xs ++ ys)
row_append a p q u [] ys h k = rw h k
row_append a p q u (e ∷ xs) ys h k = (h.0, h.1, row_append a (p + span e) q u xs ys h.2 k)

-- a row parts at any of its entries
pub row_split : (a : List ℕ) (p u : ℕ) (xs ys : List Entry) → Row a p u (xs ++ ys) → (q : ℕ) × Row a p q xs × Row a q u ys
row_split a p u [] ys h = (p, refl, h)
row_split a p u (e ∷ xs) ys h =
    let k = row_split a (p + span e) u xs ys h.2 in
    (k.0, (h.0, h.1, k.1), k.2)

-- a row from a multiple of 8 on ends at one
pub row_eights : (a : List ℕ) (p q : ℕ) (es : List Entry) → Row a p q es → p % 8 ≡ 0 → q % 8 ≡ 0
row_eights a p q [] h k = rw (← h) k
row_eights a p q (e ∷ es) h k = row_eights a (p + span e) q es h.2 (omega arith)

-- ---- rows of two lists

-- the bytes of a from p up to q are those of b, d bytes further on
abbrev pub Agree : ℕ → List ℕ → List ℕ → ℕ → ℕ → Type 0
Agree d a b p q = (i : ℕ) → p ≤ i → i < q → get_or a i 0 ≡ get_or b (d + i) 0

-- an entry that stands d bytes further on
abbrev pub later : ℕ → Entry → Entry
later d e = record { at = d + e.at; tag_id = e.tag_id; hdr_size = e.hdr_size; data_size = e.data_size }

module _ (d : ℕ) (a b : List ℕ) where
  -- an entry's fields are those of its eight header bytes
  entry_agree : (p : ℕ) → Agree d a b p (p + 8) → later d (entry_at a p) ≡ entry_at b (d + p)
  unfolding entry_at
  entry_agree p h =
      let tag : field a p 3 ≡ field b (d + p) 3 = rw (add-zero p, add-zero (d + p)) at (number 0 3 (omega arith)) in
      rw (tag, number 3 1 (omega arith), number 4 4 (omega arith))
    where
      number : (o k : ℕ) → o + k ≤ 8 → field a (p + o) k ≡ field b (d + p + o) k
      number o k l =
          field_cong a b (p + o) (d + p + o) k
          (λ i x. rw (add_assoc d p o, add_assoc d (p + o) i) (h (p + o + i) (omega arith) (omega arith)))

  -- a row depends only on the bytes that it covers
  pub row_agree : (p q : ℕ) (es : List Entry) → Agree d a b p q → Row a p q es → Row b (d + p) (d + q) (map (later d) es)
  row_agree p q [] g h = ap (λ (x : ℕ). d + x) h
  row_agree p q (e ∷ es) g h =
      let l : p + span e ≤ q = row_le a (p + span e) q es h.2 in
      let f : e.hdr_size ≡ 8 = h.1.header in
      let r = row_agree (p + span e) q es (λ i x y. g i (omega arith) y) h.2 in (
        ap (later d) h.0 ∙ entry_agree p (λ i x y. g i x (omega arith)),
        record { header = f; eights = h.1.eights },
        rw (add_assoc d p (span e)) r,
      )

-- no bytes further on is where it was
pub later-none : (es : List Entry) → map (later 0) es ≡ es
later-none [] = refl
later-none (e ∷ es) = rw (zero-add, later-none es)

-- a and b have the same bytes from p up to q
abbrev pub Same : List ℕ → List ℕ → ℕ → ℕ → Type 0
Same a b p q = (i : ℕ) → p ≤ i → i < q → get_or a i 0 ≡ get_or b i 0
