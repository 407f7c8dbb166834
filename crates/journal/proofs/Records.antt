-- What the journal's stores leave: no commit before the last of them, and then the words and the commit.
use mathlib.Core.Path.{◌≡◌, refl, sym, subst, ap, ap₂, ◌∙◌}
use Prim.Native.Nat.{ℕ, zero, suc, ◌+◌, ◌*◌, ◌%◌, ◌^◌, ◌≤◌, ◌<◌}
use native.Mathlib.Omega.{arith}
use native.Mathlib.Nat.{add-zero}
use mathlib.Core.Logic.{inl, inr}
use mathlib.Core.List.{List, [], ◌∷◌, ◌++◌}
use lib.ListN.{length, take, get_or, set, replicate, length-append, get_or-append}
use lib.Seq.{get_or-set_other, get_or-set_same}
use Rattle.wire.specs.Bytes.{field, le_bytes, splice}
use Rattle.wire.proofs.Field.{length-le_bytes, field_cong, field-le_bytes}
use Rattle.wire.proofs.Splice.{length-splice, get_or-splice_before, get_or-splice_in}
use Rattle.journal.specs.Journal.{
  Store,
  in_journal,
  Memory,
  store,
  store_all,
  rising,
  kind,
  part,
  Word,
  word_at,
  body_of,
  record_stores,
  journal_stores,
}
use Rattle.journal.proofs.Stores.{
  stores-append,
  Front,
  within,
  beyond,
  front,
  length-journal,
  length-rising,
  All,
  all_take,
  all_append,
  IsJournal,
  rising-journal,
  splice-journal,
}
use Rattle.journal.proofs.Clearing.{Safe}
use Rattle.journal.proofs.Recovery.{Committed}

-- ---- parts

-- equal bytes give equal parts
pub part_cong : (k : ℕ) (l r : List ℕ) (at to : ℕ) → ((t : ℕ) → t < k → get_or l (at + t) 0 ≡ get_or r (to + t) 0) → part l at k ≡ part r to k
part_cong zero l r at to h = refl
part_cong (suc k) l r at to h =
    ap₂ {C = List ℕ} (λ x xs. x ∷ xs) (simp add-zero at (h 0 (omega arith)))
    (part_cong k l r (at + 1) (to + 1)
    (λ t g. let e : at + 1 + t ≡ at + suc t = omega arith in let f : to + 1 + t ≡ to + suc t = omega arith in rw (e, f) (h (suc t) (omega arith))))

part_self : (bs : List ℕ) → part bs 0 (length bs) ≡ bs
part_self [] = refl
part_self (b ∷ bs) =
    ap {B = List ℕ} (λ xs. b ∷ xs)
    (part_cong (length bs) (b ∷ bs) bs 1 0 (λ t g. let e : 1 + t ≡ suc t = omega arith in let f : 0 + t ≡ t = omega arith in rw (e, f) refl)
    ∙ part_self bs)

-- ---- words

-- a word of an area of so many bytes
pub record Fine (len : ℕ) (w : Word) : Type 0 where
  pub eights : w.offset % 8 ≡ 0
  pub inside : w.offset + 8 ≤ len
  pub eight : length w.bytes ≡ 8

abbrev pub AllFine : ℕ → List Word → Type 0
AllFine len [] = Unit {0}
AllFine len (w ∷ ws) = Fine len w × AllFine len ws

-- ---- a record

pub length_body : (offset : ℕ) (bytes : List ℕ) → length bytes ≡ 8 → length (body_of offset bytes) ≡ 15
length_body offset bytes e =
    let a : length (le_bytes 4 offset ++ bytes) ≡ length (le_bytes 4 offset) + length bytes = length-append (le_bytes 4 offset) bytes in
    omega (arith, a, length-le_bytes 4 offset, e)

rising_safe : (c i r : ℕ) (bs : List ℕ) → 1 ≤ r → r + length bs ≤ 16 → All (Safe c) (rising in_journal (16 * i + r) bs)
rising_safe c i r [] h g = tt
rising_safe c i r (b ∷ bs) h g =
    let e : 16 * i + r + 1 ≡ 16 * i + (r + 1) = omega arith in
    (inl (λ z. omega (arith, z)), rw e (rising_safe c i (r + 1) bs (omega arith) (omega arith)))

body_safe : (c i offset : ℕ) (bytes : List ℕ) → length bytes ≡ 8 → All (Safe c) (rising in_journal (16 * i + 1) (body_of offset bytes))
body_safe c i offset bytes e = rising_safe c i 1 (body_of offset bytes) (omega arith) (omega (arith, length_body offset bytes e))

record_safe : (c i k offset : ℕ) (bytes : List ℕ) → length bytes ≡ 8 → k ≤ c → All (Safe c) (record_stores i k offset bytes)
record_safe c i k offset bytes e h =
    all_append (Safe c) (rising in_journal (16 * i + 1) (body_of offset bytes)) (in_journal (16 * i) k ∷ []) (body_safe c i offset bytes e) (inr h, tt)

pub record_journal : (i k offset : ℕ) (bytes : List ℕ) → All IsJournal (record_stores i k offset bytes)
record_journal i k offset bytes =
    all_append IsJournal (rising in_journal (16 * i + 1) (body_of offset bytes)) (in_journal (16 * i) k ∷ [])
    (rising-journal (16 * i + 1) (body_of offset bytes)) (tt, tt)

length_record : (i k offset : ℕ) (bytes : List ℕ) → length bytes ≡ 8 → length (record_stores i k offset bytes) ≡ 16
length_record i k offset bytes e =
    let bs : List ℕ = body_of offset bytes in
    let r : List Store = rising in_journal (16 * i + 1) bs in
    let n : length r ≡ length bs = length-rising in_journal (16 * i + 1) bs in
    let q : length (r ++ (in_journal (16 * i) k ∷ [])) ≡ length r + 1 = length-append r (in_journal (16 * i) k ∷ []) in
    omega (arith, length_body offset bytes e)

-- ---- the journal's stores

pub only-journal : (i : ℕ) (ws : List Word) → All IsJournal (journal_stores i ws)
only-journal i [] = record_journal i 2 0 (replicate 8 0)
only-journal i (w ∷ ws) =
    all_append IsJournal (record_stores i 1 w.offset w.bytes) (journal_stores (i + 1) ws) (record_journal i 1 w.offset w.bytes)
    (only-journal (i + 1) ws)

pub journal_safe : (len i : ℕ) (ws : List Word) → AllFine len ws → All (Safe 2) (journal_stores i ws)
journal_safe len i [] f = record_safe 2 i 2 0 (replicate 8 0) refl (omega arith)
journal_safe len i (w ∷ ws) f =
    all_append (Safe 2) (record_stores i 1 w.offset w.bytes) (journal_stores (i + 1) ws)
    (record_safe 2 i 1 w.offset w.bytes f.0.eight (omega arith)) (journal_safe len (i + 1) ws f.1)

pub count_journal : (len i : ℕ) (ws : List Word) → AllFine len ws → length (journal_stores i ws) ≡ 16 * (length ws + 1)
count_journal len i [] f = length_record i 2 0 (replicate 8 0) refl
count_journal len i (w ∷ ws) f =
    length-append (record_stores i 1 w.offset w.bytes) (journal_stores (i + 1) ws)
    ∙ ap₂ (λ (a b : ℕ). a + b) (length_record i 1 w.offset w.bytes f.0.eight) (count_journal len (i + 1) ws f.1)
    ∙ omega arith

-- the commit's record without its kind
commit_safe : (i k : ℕ) → k < 16 → All (Safe 1) (take k (record_stores i 2 0 (replicate 8 0)))
commit_safe i k h = go (front k r (in_journal (16 * i) 2 ∷ []))
  where
    r : List Store
    r = rising in_journal (16 * i + 1) (body_of 0 (replicate 8 0))

    n : length r ≡ 15
    n = length-rising in_journal (16 * i + 1) (body_of 0 (replicate 8 0)) ∙ length_body 0 (replicate 8 0) refl

    safe : All (Safe 1) r
    safe = body_safe 1 i 0 (replicate 8 0) refl

    go : Front k r (in_journal (16 * i) 2 ∷ []) → All (Safe 1) (take k (r ++ (in_journal (16 * i) 2 ∷ [])))
    go (within e g) = rw e (all_take (Safe 1) k r safe)
    go (beyond zero e g) = rw e (all_append (Safe 1) r [] safe tt)
    go (beyond (suc t) e g) = absurd (omega (arith, g, n))

-- before the last store there is no commit
pub no_commit_yet : (len : ℕ) (ws : List Word) (i k : ℕ) → AllFine len ws → k < 16 * (length ws + 1) → All (Safe 1) (take k (journal_stores i ws))
no_commit_yet len [] i k f h = commit_safe i k (omega arith)
no_commit_yet len (w ∷ ws) i k f h = go (front k r (journal_stores (i + 1) ws)) (λ n g. no_commit_yet len ws (i + 1) n f.1 g)
  where
    r : List Store
    r = record_stores i 1 w.offset w.bytes

    safe : All (Safe 1) r
    safe = record_safe 1 i 1 w.offset w.bytes f.0.eight (omega arith)

    go : Front k r (journal_stores (i + 1) ws) → ((n : ℕ) → n < 16 * (length ws + 1) → All (Safe 1) (take n (journal_stores (i + 1) ws)))
        → All (Safe 1) (take k (r ++ journal_stores (i + 1) ws))
    go (within e g) ih = rw e (all_take (Safe 1) k r safe)
    go (beyond n e g) ih =
        rw e (all_append (Safe 1) r (take n (journal_stores (i + 1) ws)) safe
        (ih n (omega (arith, g, length_record i 1 w.offset w.bytes f.0.eight))))

-- ---- a record after its stores

module _ (i k offset : ℕ) (bytes : List ℕ) (m : Memory) (e8 : length bytes ≡ 8) (room : 16 * i + 16 ≤ length m.journal) where
  -- the journal afterwards
  after : List ℕ
  after = (store_all (record_stores i k offset bytes) m).journal

  -- and before the kind is stored
  filled : List ℕ
  filled = splice m.journal (16 * i + 1) (body_of offset bytes)

  body_room : 16 * i + 1 + length (body_of offset bytes) ≤ length m.journal
  body_room = omega (arith, length_body offset bytes e8)

  filled_length : length filled ≡ length m.journal
  unfolding filled
  filled_length = length-splice m.journal (16 * i + 1) (body_of offset bytes) body_room

  after-set : after ≡ set filled (16 * i) k
  unfolding after filled
  after-set =
      ap (λ (z : Memory). z.journal)
      (stores-append (rising in_journal (16 * i + 1) (body_of offset bytes)) (in_journal (16 * i) k ∷ []) m
      ∙ ap (store (in_journal (16 * i) k)) (splice-journal (16 * i + 1) (body_of offset bytes) m body_room))

  after-kind : kind after i ≡ k
  after-kind = rw after-set (get_or-set_same filled (16 * i) k 0 (rw filled_length (omega arith)))

  after_byte : (t : ℕ) → t < 15 → get_or after (16 * i + 1 + t) 0 ≡ get_or (body_of offset bytes) t 0
  unfolding filled
  after_byte t g =
      let b : List ℕ = body_of offset bytes in
      rw (after-set, get_or-set_other filled (16 * i) (16 * i + 1 + t) k 0 (λ z. omega (arith, z)))
      (get_or-splice_in m.journal (16 * i + 1) b (omega arith) t (omega (arith, length_body offset bytes e8)))

  pub after-below : (p : ℕ) → p < 16 * i → get_or (store_all (record_stores i k offset bytes) m).journal p 0 ≡ get_or m.journal p 0
  unfolding after filled
  after-below p h =
      rw (after-set, get_or-set_other filled (16 * i) p k 0 (λ z. omega (arith, z)))
      (get_or-splice_before m.journal (16 * i + 1) (body_of offset bytes) (omega arith) p (omega arith))

  -- the word is read as it was stored
  after_word_lem : offset < 2 ^ 32 → word_at after i ≡ record { offset = offset; bytes = bytes }
  unfolding le_bytes
  after_word_lem lt =
      ap₂ {C = Word} (λ (o : ℕ) (b : List ℕ). record { offset = o; bytes = b }) (place ∙ field-le_bytes 4 offset lt)
      (eight ∙ rw e8 at (part_self bytes))
    where
      body_low : (t : ℕ) → t < 4 → get_or (body_of offset bytes) (3 + t) 0 ≡ get_or (le_bytes 4 offset) t 0
      body_low t g =
          let e : 3 + t ≡ suc (suc (suc t)) = omega arith in
          rw e (get_or-append (le_bytes 4 offset) bytes 0 t (omega (arith, length-le_bytes 4 offset)))

      place : field after (16 * i + 4) 4 ≡ field (le_bytes 4 offset) 0 4
      place = field_cong after (le_bytes 4 offset) (16 * i + 4) 0 4
          (λ t g. let z : 16 * i + 4 + t ≡ 16 * i + 1 + (3 + t) = omega arith in let y : 0 + t ≡ t = omega arith in
          rw (z, y) (after_byte (3 + t) (omega arith) ∙ body_low t g))

      body_high : (t : ℕ) → t < 8 → get_or (body_of offset bytes) (7 + t) 0 ≡ get_or bytes t 0
      body_high t g = let e : 7 + t ≡ suc (suc (suc (suc (suc (suc (suc t)))))) = omega arith in rw e refl

      eight : part after (16 * i + 8) 8 ≡ part bytes 0 8
      eight = part_cong 8 after bytes (16 * i + 8) 0
          (λ t g. let z : 16 * i + 8 + t ≡ 16 * i + 1 + (7 + t) = omega arith in let y : 0 + t ≡ t = omega arith in
          rw (z, y) (after_byte (7 + t) (omega arith) ∙ body_high t g))

-- ---- the journal after its stores

-- records in front are kept
journal-below : (len : ℕ) (ws : List Word) (i : ℕ) (m : Memory) → AllFine len ws → 16 * (i + length ws + 1) ≤ length m.journal
    → (p : ℕ) → p < 16 * i → get_or (store_all (journal_stores i ws) m).journal p 0 ≡ get_or m.journal p 0
journal-below len [] i m f r p h = after-below i 2 0 (replicate 8 0) m refl (omega arith) p h
journal-below len (w ∷ ws) i m f r p h =
    let ss : List Store = record_stores i 1 w.offset w.bytes in
    rw (stores-append ss (journal_stores (i + 1) ws) m)
    (journal-below len ws (i + 1) (store_all ss m) f.1 (rw (length-journal ss m) (omega arith)) p (omega arith)
    ∙ after-below i 1 w.offset w.bytes m f.0.eight (omega arith) p h)

-- the words and the commit are there
pub journal_committed : (len : ℕ) (ws : List Word) (i : ℕ) (m : Memory) → AllFine len ws → len ≤ 2 ^ 32
    → 16 * (i + length ws + 1) ≤ length m.journal → Committed (store_all (journal_stores i ws) m).journal i ws
unfolding after
journal_committed len [] i m f b h = after-kind i 2 0 (replicate 8 0) m refl (omega arith)
journal_committed len (w ∷ ws) i m f b h =
    let ss : List Store = record_stores i 1 w.offset w.bytes in
    let m' : Memory = store_all ss m in
    let z : List ℕ = (store_all (journal_stores (i + 1) ws) m').journal in
    let n : length m'.journal ≡ length m.journal = length-journal ss m in
    let same : (p : ℕ) → p < 16 * (i + 1) → get_or z p 0 ≡ get_or m'.journal p 0 = journal-below len ws (i + 1) m' f.1 (rw n (omega arith)) in
    subst (λ (x : Memory). Committed x.journal i (w ∷ ws)) (sym (stores-append ss (journal_stores (i + 1) ws) m)) (
      same (16 * i) (omega arith) ∙ after-kind i 1 w.offset w.bytes m f.0.eight (omega arith),
      ap₂ {C = Word} (λ (o : ℕ) (b : List ℕ). record { offset = o; bytes = b })
          (field_cong z m'.journal (16 * i + 4) (16 * i + 4) 4 (λ k g. same (16 * i + 4 + k) (omega arith)))
          (part_cong 8 z m'.journal (16 * i + 8) (16 * i + 8) (λ k g. same (16 * i + 8 + k) (omega arith)))
          ∙ after_word_lem i 1 w.offset w.bytes m f.0.eight (omega arith) (omega (arith, f.0.inside)),
      journal_committed len ws (i + 1) m' f.1 b (rw n (omega arith)),
    )
