-- The steps of an edit and of a recovery store exactly the bytes that the rules prescribe, one a step, and then stand at the end.
use mathlib.Core.Path.{◌≡◌, refl, sym, ap, ◌∙◌, subst}
use Prim.Native.Nat.{ℕ, zero, suc, ◌+◌, ◌-◌, ◌*◌, ◌/◌, ◌%◌, ◌^◌, ◌≤◌, ◌<◌}
use native.Mathlib.Omega.{arith}
use native.Mathlib.Nat.{add-zero}
use mathlib.Core.Bool.{Bool, true, false, ◌&&◌, cond}
use mathlib.Core.List.{List, [], ◌∷◌, ◌++◌}
use lib.ListN.{length, get_or, replicate, length-set}
use lib.Dec.{ltb, eqb}
use Rattle.std.specs.Prelude.{Some}
use borrow.Author.Tests.{lt-ltb, le-ltb, le-leb, eq-eqb, ne_eqb}
use Rattle.wire.specs.Bytes.{field, le_bytes}
use Rattle.journal.specs.Journal.{
  Store,
  in_journal,
  in_area,
  Memory,
  memory,
  store,
  store_all,
  rising,
  records,
  kind,
  part,
  Word,
  word_at,
  words_from,
  changed_words,
  body_of,
  record_stores,
  journal_stores,
  apply_stores,
  clear_stores,
  edit_stores,
}
use Rattle.journal.proofs.Stores.{length-area, same_records, journal_kept, area_kept, rising-area, rising-journal}
use Rattle.journal.proofs.Recovery.{Committed, apply_area}
use Rattle.journal.proofs.Records.{AllFine, length_body, record_journal, only-journal, journal_committed}
use Rattle.journal.proofs.Words.{get_or_part, Next, done, more, next}
use Rattle.journal.proofs.PowerCut.{changed_fine}
use Rattle.plan.specs.Plan.{after}
use Rattle.words.specs.Words.{next_offset}
use Rattle.steps.specs.declared.Steps.{Steps}
use Rattle.steps.specs.declared.Store.TheVariants.{Journal, Area}
use Rattle.steps.specs.declared.Step.{Step}
use Rattle.steps.specs.Steps.{
  writing,
  committing,
  applying,
  clearing,
  stand,
  stopped,
  plan_of,
  can_write,
  stored,
  to_word,
  after_word,
  word_step,
  commit_step,
  after_apply,
  apply_step,
  clear_step,
  step_of,
}
use Rattle.steps.specs.Survives.{Goes}

module _ (content : List ℕ) where
  goes_on : (l r : List Store) (s t u : Steps) (m : Memory) → Goes content s m l t → Goes content t (store_all l m) r u → Goes content s m (l ++ r) u
  goes_on [] r s t u m a b = rw a b
  goes_on (x ∷ l) r s t u m a b = (a.0, goes_on l r (step_of content s m).next t u (store x m) a.1 b)

  -- one more step
  goes_one : (s n t : Steps) (m : Memory) (x : Store) (l : List Store) (d : Step) → step_of content s m ≡ d → stored d.store ≡ x ∷ [] → d.next ≡ n
      → Goes content n (store x m) l t → Goes content s m (x ∷ l) t
  goes_one s n t m x l d e f h k = rw e (f, rw h k)

-- ---- clearing

module _ (content : List ℕ) (s : Steps) where
  goes_clear : (k i w : ℕ) (m : Memory) → i + suc k ≡ records m.journal
      → Goes content (stand s clearing i 0 w) m (clear_stores i (suc k)) (stopped s.done)
  unfolding step_of clear_step
  goes_clear zero i w m e =
      goes_one content (stand s clearing i 0 w) (stopped s.done) (stopped s.done) m (in_journal (16 * i) 0) []
      (record { store = Some (Journal (16 * i) 0); next = stopped s.done })
      (rw (lt-ltb i (records m.journal) (omega arith), le-ltb (i + 1) (records m.journal) (omega arith))) refl refl refl
  goes_clear (suc k) i w m e =
      goes_one content (stand s clearing i 0 w) (stand s clearing (i + 1) 0 w) (stopped s.done) m (in_journal (16 * i) 0) (clear_stores (i + 1) (suc k))
      (record { store = Some (Journal (16 * i) 0); next = stand s clearing (i + 1) 0 w })
      (rw (lt-ltb i (records m.journal) (omega arith), lt-ltb (i + 1) (records m.journal) (omega arith))) refl refl
      (goes_clear k (i + 1) w (store (in_journal (16 * i) 0) m) (rw length-set (omega arith)))

  pub clear_all : (n w : ℕ) (m : Memory) → 0 < n → records m.journal ≡ n → Goes content (stand s clearing 0 0 w) m (clear_stores 0 n) (stopped s.done)
  clear_all zero w m h r = absurd (omega arith)
  clear_all (suc k) w m h r = goes_clear k 0 w m (omega (arith, r))

-- ---- applying

module _ (content : List ℕ) (s : Steps) where
  early_byte : (i b x : ℕ) (j : List ℕ) → b < 7 → after_apply (stand s applying i b x) j ≡ stand s applying i (b + 1) x
  unfolding after_apply
  early_byte i b x j k = simp (lt-ltb b 7 k)

  last_byte : (i x : ℕ) (j : List ℕ) → (kind j (i + 1) ≡ 1 → ⊥) → after_apply (stand s applying i 7 x) j ≡ stand s clearing 0 0 x
  unfolding after_apply
  last_byte i x j k = go (ltb (i + 1) (records j))
    where
      go : (b : Bool) → cond (b && eqb (kind j (i + 1)) 1) (stand s applying (i + 1) 0 x) (stand s clearing 0 0 x) ≡ stand s clearing 0 0 x
      go true = simp (ne_eqb (kind j (i + 1)) 1 k)
      go false = refl

  next_word : (i x : ℕ) (j : List ℕ) → kind j (i + 1) ≡ 1 → i + 1 < records j → after_apply (stand s applying i 7 x) j ≡ stand s applying (i + 1) 0 x
  unfolding after_apply
  next_word i x j k h = simp (lt-ltb (i + 1) (records j) h, eq-eqb (kind j (i + 1)) 1 k)

  -- a byte of a word that is applied
  applied : ℕ → ℕ → Steps → Step
  applied at v n = record { store = Some (Area at v); next = n }

  apply_step_lem : (i b x : ℕ) (m : Memory) → i < records m.journal → b < 8 → field m.journal (16 * i + 4) 4 + 8 ≤ length m.area
      → step_of content (stand s applying i b x) m
      ≡ applied (field m.journal (16 * i + 4) 4 + b) (get_or m.journal (16 * i + 8 + b) 0) (after_apply (stand s applying i b x) m.journal)
  unfolding step_of apply_step applied
  apply_step_lem i b x m h k l =
      simp (lt-ltb i (records m.journal) h, lt-ltb b 8 k, le-leb (field m.journal (16 * i + 4) 4 + 8) (length m.area) l)

  goes_bytes : (i x b : ℕ) (rest : List ℕ) (m : Memory) → i < records m.journal → field m.journal (16 * i + 4) 4 + 8 ≤ length m.area
      → b + length rest ≡ 8 → 0 < length rest → ((t : ℕ) → t < length rest → get_or rest t 0 ≡ get_or m.journal (16 * i + 8 + (b + t)) 0)
      → Goes content (stand s applying i b x) m (rising in_area (field m.journal (16 * i + 4) 4 + b) rest)
      (after_apply (stand s applying i 7 x) m.journal)
  unfolding applied
  goes_bytes i x b [] m h l e z f = absurd (omega arith)
  goes_bytes i x b (v ∷ []) m h l e z f =
      let b7 : b ≡ 7 = omega arith in
      let j : List ℕ = m.journal in
      let o : ℕ = field j (16 * i + 4) 4 in
      let q : v ≡ get_or j (16 * i + 8 + b) 0 = rw add-zero at (f 0 (omega arith)) in
      let t : Steps = after_apply (stand s applying i 7 x) j in
      goes_one content (stand s applying i b x) t t m (in_area (o + b) v) []
      (applied (o + b) (get_or j (16 * i + 8 + b) 0) (after_apply (stand s applying i b x) j))
      (apply_step_lem i b x m h (omega arith) l) (rw q refl) (ap (λ (k : ℕ). after_apply (stand s applying i k x) j) b7) refl
  goes_bytes i x b (v ∷ v' ∷ rest) m h l e z f =
      let j : List ℕ = m.journal in
      let o : ℕ = field j (16 * i + 4) 4 in
      let q : v ≡ get_or j (16 * i + 8 + b) 0 = rw add-zero at (f 0 (omega arith)) in
      let m' : Memory = store (in_area (o + b) v) m in
      let p : o + b + 1 ≡ o + (b + 1) = omega arith in
      goes_one content (stand s applying i b x) (stand s applying i (b + 1) x) (after_apply (stand s applying i 7 x) j) m (in_area (o + b) v)
      (rising in_area (o + b + 1) (v' ∷ rest)) (applied (o + b) (get_or j (16 * i + 8 + b) 0) (after_apply (stand s applying i b x) j))
      (apply_step_lem i b x m h (omega arith) l) (rw q refl) (early_byte i b x j (omega arith))
      (rw p (goes_bytes i x (b + 1) (v' ∷ rest) m' h (rw length-set l) (omega arith) (omega arith)
      (λ t k. f (suc t) (omega arith) ∙ ap (λ (n : ℕ). get_or j (16 * i + 8 + n) 0) (omega arith))))

  -- a whole word
  goes_word : (i x : ℕ) (w : Word) (m : Memory) → i < records m.journal → word_at m.journal i ≡ w → w.offset + 8 ≤ length m.area
      → Goes content (stand s applying i 0 x) m (rising in_area w.offset w.bytes) (after_apply (stand s applying i 7 x) m.journal)
  goes_word i x w m h e l =
      let j : List ℕ = m.journal in
      let o : ℕ = field j (16 * i + 4) 4 in
      let eo : o ≡ w.offset = ap (λ (v : Word). v.offset) e in
      let eb : part j (16 * i + 8) 8 ≡ w.bytes = ap (λ (v : Word). v.bytes) e in
      let z : o + 0 ≡ w.offset = add-zero o ∙ eo in
      let r : Goes content (stand s applying i 0 x) m (rising in_area (o + 0) (part j (16 * i + 8) 8)) (after_apply (stand s applying i 7 x) j) =
      goes_bytes i x 0 (part j (16 * i + 8) 8) m h (omega arith) refl (omega arith)
      (λ t k. get_or_part 8 j (16 * i + 8) t k ∙ ap (λ (n : ℕ). get_or j (16 * i + 8 + n) 0) (let q : t ≡ 0 + t = omega arith in q)) in
      rw (← z, ← eb) r

  pub goes_apply : (w : Word) (ws : List Word) (i x len : ℕ) (m : Memory) → Committed m.journal i (w ∷ ws) → i + suc (length ws) < records m.journal
      → AllFine len (w ∷ ws) → length m.area ≡ len → Goes content (stand s applying i 0 x) m (apply_stores (w ∷ ws)) (stand s clearing 0 0 x)
  goes_apply w [] i x len m h n f e =
      goes_on content (rising in_area w.offset w.bytes) [] (stand s applying i 0 x) (stand s clearing 0 0 x) (stand s clearing 0 0 x) m
      (rw (last_byte i x m.journal (λ z. let q : ◌≡◌ {A = ℕ} 1 2 = sym z ∙ h.2 in omega arith)) at
      (goes_word i x w m (omega arith) h.1 (omega (arith, f.0.inside)))) refl
  goes_apply w (v ∷ ws) i x len m h n f e =
      let r : List Store = rising in_area w.offset w.bytes in
      let k : (store_all r m).journal ≡ m.journal = journal_kept r m (rising-area w.offset w.bytes) in
      let h' : Committed (store_all r m).journal (i + 1) (v ∷ ws) = subst (λ (l : List ℕ). Committed l (i + 1) (v ∷ ws)) (sym k) h.2 in
      goes_on content r (apply_stores (v ∷ ws)) (stand s applying i 0 x) (stand s applying (i + 1) 0 x) (stand s clearing 0 0 x) m
      (rw (next_word i x m.journal h.2.0 (omega arith)) at (goes_word i x w m (omega arith) h.1 (omega (arith, f.0.inside))))
      (goes_apply v ws (i + 1) x len (store_all r m) h' (rw k (omega arith)) f.1 (length-area r m ∙ e))

  -- where the words and the commit are in the journal: apply, then clear
  pub goes_tail : (w : Word) (ws : List Word) (n len : ℕ) (m : Memory) → Committed m.journal 0 (w ∷ ws) → AllFine len (w ∷ ws) → length m.area ≡ len
      → suc (length ws) < n → records m.journal ≡ n
      → Goes content (stand s applying 0 0 0) m (apply_stores (w ∷ ws) ++ clear_stores 0 n) (stopped s.done)
  goes_tail w ws n len m h f a k r =
      let p : List Store = apply_stores (w ∷ ws) in
      let e : (store_all p m).journal ≡ m.journal = journal_kept p m (apply_area (w ∷ ws)) in
      goes_on content p (clear_stores 0 n) (stand s applying 0 0 0) (stand s clearing 0 0 0) (stopped s.done) m
      (goes_apply w ws 0 0 len m h (omega (arith, r)) f a) (clear_all content s n 0 (store_all p m) (omega arith) (rw e r))

-- ---- writing a record

-- a byte of a record, at its place
written : ℕ → ℕ → ℕ → Steps → Step
written i k v n = record { store = Some (Journal (16 * i + k) v); next = n }

module _ (content : List ℕ) (S : ℕ → Steps) (i n : ℕ) (old body : List ℕ)
    (h : (b : ℕ) (m : Memory) → b < 15 → m.area ≡ old → records m.journal ≡ n → step_of content (S b) m ≡ written i (b + 1) (get_or body b 0) (S (b + 1)))
  where
    -- its bytes 1 to 15
    goes_body : (rest : List ℕ) (b : ℕ) (m : Memory) → b + length rest ≡ 15 → ((t : ℕ) → t < length rest → get_or rest t 0 ≡ get_or body (b + t) 0)
        → m.area ≡ old → records m.journal ≡ n → Goes content (S b) m (rising in_journal (16 * i + 1 + b) rest) (S 15)
    unfolding written
    goes_body [] b m e f a r = ap S (let q : b ≡ 15 = omega arith in q)
    goes_body (v ∷ rest) b m e f a r =
        let q : v ≡ get_or body b 0 = rw add-zero at (f 0 (omega arith)) in
        let p : 16 * i + 1 + b ≡ 16 * i + (b + 1) = omega arith in
        let p' : 16 * i + 1 + b + 1 ≡ 16 * i + 1 + (b + 1) = omega arith in
        goes_one content (S b) (S (b + 1)) (S 15) m (in_journal (16 * i + 1 + b) v) (rising in_journal (16 * i + 1 + b + 1) rest)
        (written i (b + 1) (get_or body b 0) (S (b + 1))) (h b m (omega arith) a r) (rw (q, p) refl) refl
        (rw p' (goes_body rest (b + 1) (store (in_journal (16 * i + 1 + b) v) m) (omega arith)
        (λ t k. f (suc t) (omega arith) ∙ ap (λ (z : ℕ). get_or body z 0) (omega arith)) a (rw length-set r)))

-- and its kind
goes_record : (content : List ℕ) (S : ℕ → Steps) (t : Steps) (i k offset n : ℕ) (bytes old : List ℕ) (m : Memory) → length bytes ≡ 8
    → ((b : ℕ) (m : Memory) → b < 15 → m.area ≡ old → records m.journal ≡ n
    → step_of content (S b) m ≡ written i (b + 1) (get_or (body_of offset bytes) b 0) (S (b + 1)))
    → ((m : Memory) → m.area ≡ old → records m.journal ≡ n → step_of content (S 15) m ≡ written i 0 k t)
    → m.area ≡ old → records m.journal ≡ n → Goes content (S 0) m (record_stores i k offset bytes) t
unfolding written
goes_record content S t i k offset n bytes old m e8 h l a r =
    let body : List ℕ = body_of offset bytes in
    let z : 16 * i + 1 + 0 ≡ 16 * i + 1 = omega arith in
    let y : 16 * i + 0 ≡ 16 * i = omega arith in
    let ss : List Store = rising in_journal (16 * i + 1) body in
    let m' : Memory = store_all ss m in
    goes_on content ss (in_journal (16 * i) k ∷ []) (S 0) (S 15) t m
    (rw z at (goes_body content S i n old body h body 0 m (omega (arith, length_body offset bytes e8))
    (λ t q. ap (λ (x : ℕ). get_or body x 0) (let w : t ≡ 0 + t = omega arith in w)) a r))
    (goes_one content (S 15) t t m' (in_journal (16 * i) k) [] (written i 0 k t)
    (l m' (area_kept ss m (rising-journal (16 * i + 1) body) ∙ a) (same_records ss m ∙ r)) (rw y refl) refl refl)

-- ---- the commit record

all_zero_lem : (n b : ℕ) → ◌≡◌ {A = ℕ} (get_or (replicate n 0) b 0) 0
all_zero_lem zero b = refl
all_zero_lem (suc n) zero = refl
all_zero_lem (suc n) (suc b) = all_zero_lem n b

commit_zero : (b : ℕ) → ◌≡◌ {A = ℕ} (get_or (body_of 0 (replicate 8 0)) b 0) 0
unfolding le_bytes
commit_zero b = all_zero_lem 15 b

-- once it is written, the words are applied; where there are none, the kinds are cleared
abbrev after_all : Steps → ℕ → Steps
after_all s n = cond (eqb n 0) (stand s clearing 0 0 0) (stand s applying 0 0 0)

module _ (content : List ℕ) (s : Steps) where
  commit_step_lem : (i b : ℕ) (m : Memory) → b < 15 → i < records m.journal
      → step_of content (stand s committing i b 0) m ≡ written i (b + 1) (get_or (body_of 0 (replicate 8 0)) b 0) (stand s committing i (b + 1) 0)
  unfolding step_of commit_step written
  commit_step_lem i b m k h =
      simp (lt-ltb i (records m.journal) h, lt-ltb b 16 (omega arith), lt-ltb b 15 k)
      (ap (λ (z : ℕ). written i (b + 1) z (stand s committing i (b + 1) 0)) (sym (commit_zero b)))

  commit_last : (i : ℕ) (m : Memory) → i < records m.journal → step_of content (stand s committing i 15 0) m ≡ written i 0 2 (after_all s i)
  unfolding step_of commit_step written
  commit_last i m h = simp (lt-ltb i (records m.journal) h)

  goes_commit : (i n : ℕ) (old : List ℕ) (m : Memory) → i < n → m.area ≡ old → records m.journal ≡ n
      → Goes content (stand s committing i 0 0) m (journal_stores i []) (after_all s i)
  goes_commit i n old m h a r =
      goes_record content (λ (b : ℕ). stand s committing i b 0) (after_all s i) i 2 0 n (replicate 8 0) old m refl
      (λ b m b15 a r. commit_step_lem i b m b15 (omega (arith, r))) (λ m a r. commit_last i m (omega (arith, r))) a r

-- ---- the word records

-- wherever a state stands, it carries the same plan
pub same_plan : (s : Steps) (phase index byte word len n : ℕ) → can_write (stand s phase index byte word) len n ≡ can_write s len n
unfolding can_write
same_plan s phase index byte word len n = refl

module _ (content : List ℕ) (s : Steps) (old : List ℕ) (can : can_write s (length old) (length content) ≡ true) where
  -- the area that the plan makes
  new : List ℕ
  new = after (plan_of s) old content

  word_tests : (i b w : ℕ) (m : Memory) → m.area ≡ old → b < 16 → i < records m.journal → w % 8 ≡ 0 → w + 8 ≤ length old
      → step_of content (stand s writing i b w) m
      ≡ record {
        store = Some (Journal (16 * i + cond (ltb b 15) (b + 1) 0) (get_or (1 ∷ body_of w (part new w 8)) (cond (ltb b 15) (b + 1) 0) 0));
        next = after_word (stand s writing i b w) old new;
      }
  unfolding step_of word_step new
  word_tests i b w m a k h e l =
      rw (
        a,
        lt-ltb i (records m.journal) h,
        lt-ltb b 16 k,
        eq-eqb (w % 8) 0 e,
        lt-ltb w (length old / 8 * 8) (omega arith),
        same_plan s writing i b w (length old) (length content),
        can,
      )

  word_step_lem : (i b w : ℕ) (m : Memory) → b < 15 → m.area ≡ old → i < records m.journal → w % 8 ≡ 0 → w + 8 ≤ length old
      → step_of content (stand s writing i b w) m ≡ written i (b + 1) (get_or (body_of w (part new w 8)) b 0) (stand s writing i (b + 1) w)
  unfolding after_word written
  word_step_lem i b w m k a h e l =
      word_tests i b w m a (omega arith) h e l
      ∙ simp (lt-ltb b 15 k)
      (let q : b + 1 ≡ suc b = omega arith in
      ap (λ (z : ℕ). written i (b + 1) (get_or (1 ∷ body_of w (part new w 8)) z 0) (stand s writing i (b + 1) w)) q)

  word_last : (i w : ℕ) (m : Memory) → m.area ≡ old → i < records m.journal → w % 8 ≡ 0 → w + 8 ≤ length old
      → step_of content (stand s writing i 15 w) m
      ≡ written i 0 1 (to_word s (length old) (i + 1) (next_offset (length old) (words_from ((length old - (w + 8)) / 8) (w + 8) old new)))
  unfolding after_word written
  word_last i w m a h e l = word_tests i 15 w m a (omega arith) h e l

  goes_word_record : (i w k n : ℕ) (m : Memory) → i < n → w % 8 ≡ 0 → w + 8 + 8 * k ≡ length old / 8 * 8 → m.area ≡ old → records m.journal ≡ n
      → Goes content (stand s writing i 0 w) m (record_stores i 1 w (part new w 8))
      (to_word s (length old) (i + 1) (next_offset (length old) (words_from k (w + 8) old new)))
  goes_word_record i w k n m h e8 e a r =
      let q : (length old - (w + 8)) / 8 ≡ k = omega arith in
      goes_record content (λ (b : ℕ). stand s writing i b w) (to_word s (length old) (i + 1) (next_offset (length old) (words_from k (w + 8) old new))) i 1 w n
      (part new w 8) old m refl
      (λ b m b15 a r. word_step_lem i b w m b15 a (omega (arith, r)) e8 (omega arith))
      (λ m a r. word_last i w m a (omega (arith, r)) e8 (omega arith)
      ∙ ap (λ (f : ℕ). written i 0 1 (to_word s (length old) (i + 1) (next_offset (length old) (words_from f (w + 8) old new)))) q)
      a r

  goes_journal : (ws : List Word) (i n at c : ℕ) (m : Memory) → ws ≡ words_from c at old new → at % 8 ≡ 0 → at + 8 * c ≡ length old / 8 * 8
      → i + length ws < n → m.area ≡ old → records m.journal ≡ n
      → Goes content (to_word s (length old) i (next_offset (length old) (words_from c at old new))) m (journal_stores i ws) (after_all s (i + length ws))
  goes_journal [] i n at c m e e8 q h a r =
      rw (← e, eq-eqb (length old) (length old) refl, add-zero) (goes_commit content s i n old m (omega arith) a r)
  goes_journal (v ∷ ws) i n at c m e e8 q h a r = go (next old new c at) (λ k w. goes_journal ws (i + 1) n (w + 8) k)
    where
      go : Next old new c at
          → ((k w : ℕ) (m : Memory) → ws ≡ words_from k (w + 8) old new → (w + 8) % 8 ≡ 0 → w + 8 + 8 * k ≡ length old / 8 * 8 → i + 1 + length ws < n
          → m.area ≡ old → records m.journal ≡ n
          → Goes content (to_word s (length old) (i + 1) (next_offset (length old) (words_from k (w + 8) old new))) m (journal_stores (i + 1) ws)
          (after_all s (i + 1 + length ws)))
          → Goes content (to_word s (length old) i (next_offset (length old) (words_from c at old new))) m (journal_stores i (v ∷ ws))
          (after_all s (i + suc (length ws)))
      go (done z) ih = absurd (let y : ◌≡◌ {A = ℕ} (suc (length ws)) 0 = ap length (e ∙ z) in omega arith)
      go (more w k z p l) ih =
          let u : Word = record { offset = w; bytes = part new w 8 } in
          let both : ◌≡◌ {A = List Word} (v ∷ ws) (u ∷ words_from k (w + 8) old new) = e ∙ z in
          let ev : v ≡ u = cc in
          let ew : ws ≡ words_from k (w + 8) old new = cc in
          let r1 : List Store = record_stores i 1 w (part new w 8) in
          let x : i + suc (length ws) ≡ i + 1 + length ws = omega arith in
          let w8 : w % 8 ≡ 0 = omega (arith, p, q, e8) in
          rw (z, ne_eqb w (length old) (λ y. omega (arith, y, p, q)), ev, x)
          (goes_on content r1 (journal_stores (i + 1) ws) (stand s writing i 0 w)
          (to_word s (length old) (i + 1) (next_offset (length old) (words_from k (w + 8) old new))) (after_all s (i + 1 + length ws)) m
          (goes_word_record i w k n m (omega arith) w8 (omega (arith, p)) a r)
          (ih k w (store_all r1 m) ew (omega arith) (omega (arith, p)) (omega arith)
          (area_kept r1 m (record_journal i 1 w (part new w 8)) ∙ a) (same_records r1 m ∙ r)))

  -- The steps from the beginning store exactly the bytes that request 9 prescribes for the edit, one a step, and then stand at the end.
  pub goes_edit : (j : List ℕ) → length old ≤ 2 ^ 32 → length (changed_words old (after (plan_of s) old content)) < records j
      → Goes content (to_word s (length old) 0 (next_offset (length old) (changed_words old (after (plan_of s) old content)))) (memory j old)
      (edit_stores j old (after (plan_of s) old content)) (stopped s.done)
  unfolding edit_stores changed_words new
  goes_edit j small room =
      let c : ℕ = length old / 8 in
      let ws : List Word = words_from c 0 old new in
      let n : ℕ = records j in
      let m : Memory = memory j old in
      let l : List Store = journal_stores 0 ws in
      let fine : AllFine (length old) ws = changed_fine old new in
      let keep : (store_all l m).area ≡ old = area_kept l m (only-journal 0 ws) in
      goes_on content l (apply_stores ws ++ clear_stores 0 n) (to_word s (length old) 0 (next_offset (length old) ws)) (after_all s (0 + length ws))
      (stopped s.done) m
      (goes_journal ws 0 n 0 c m refl refl (omega arith) (omega (arith, room)) refl refl)
      (tail ws (store_all l m) (journal_committed (length old) ws 0 m fine small (omega (arith, room))) fine (ap length keep) room (same_records l m))
    where
      tail : (ws : List Word) (m : Memory) → Committed m.journal 0 ws → AllFine (length old) ws → length m.area ≡ length old → length ws < records j
          → records m.journal ≡ records j → Goes content (after_all s (0 + length ws)) m (apply_stores ws ++ clear_stores 0 (records j)) (stopped s.done)
      tail [] m h f a k r = clear_all content s (records j) 0 m (omega arith) r
      tail (w ∷ ws) m h f a k r =
          rw (ne_eqb (0 + suc (length ws)) 0 (λ y. omega (arith, y))) (goes_tail content s w ws (records j) (length old) m h f a k r)
