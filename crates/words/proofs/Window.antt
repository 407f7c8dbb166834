-- Laws of the words that change, and of the window in which a plan changes them: words 0 and 8, and those of its stretch.
use mathlib.Core.Path.{◌≡◌, refl, sym, ap, ◌∙◌}
use Prim.Native.Nat.{ℕ, zero, suc, ◌+◌, ◌-◌, ◌*◌, ◌/◌, ◌%◌, ◌≤◌, ◌<◌}
use native.Mathlib.Omega.{arith}
use mathlib.Core.Logic.{◌⊎◌, inl, inr}
use mathlib.Core.Bool.{Bool, true, false, cond, ◌&&◌}
use mathlib.Core.List.{List, [], ◌∷◌, ◌++◌, append-nil}
use lib.ListN.{length, get_or}
use lib.Dec.{leb, ltb, eqb}
use borrow.Author.Tests.{eq-eqb, le-leb, lt-ltb, ltb-true, ltb-false}
use Rattle.journal.specs.Journal.{part, Word, alike, words_from, changed_words}
use Rattle.journal.proofs.Clearing.{and_left}
use Rattle.std.specs.List.{find, filter, list_all, range_with_len}
use Rattle.std.specs.Prelude.{Option, Some, None, not, max}
use Rattle.std.specs.Option.{option_map}
use Rattle.std.proofs.lemmas.Bool.{cases_lt}
use native.Mathlib.Nat.{add-zero}
use Rattle.plan.specs.declared.Plan.{Plan}
use Rattle.plan.specs.Plan.{stretch_length, after}
use Rattle.plan.proofs.Laws.{header_span_le}
use Rattle.words.specs.Words.{Writable, next_offset, skip_to}
use Rattle.words.proofs.Laws.{between, after_outside}

-- ---- any two areas

-- bytes that are the same one by one
alike_all : (k : ℕ) (a b : List ℕ) (at : ℕ) → ((i : ℕ) → at ≤ i → i < at + k → get_or a i 0 ≡ get_or b i 0) → alike a b at k ≡ true
alike_all zero a b at h = refl
alike_all (suc k) a b at h =
    rw (eq-eqb (get_or a at 0) (get_or b at 0) (h at (omega arith) (omega arith))) (alike_all k a b (at + 1) (λ i l g. h i (omega arith) (omega arith)))

-- the words that change from at on
abbrev pub words_at : List ℕ → List ℕ → ℕ → List Word
words_at old new at = words_from ((length old - at) / 8) at old new

module _ (old new : List ℕ) where
  -- fewer than 8 bytes are no word
  pub words-none : (at : ℕ) → length old - at < 8 → words_at old new at ≡ []
  unfolding words_from
  words-none at h = let n : (length old - at) / 8 ≡ 0 = omega arith in rw n

  -- one word
  words_one : (at : ℕ) → at + 8 ≤ length old → words_at old new at
      ≡ cond (alike old new at 8) (words_at old new (at + 8)) (record { offset = at; bytes = part new at 8 } ∷ words_at old new (at + 8))
  unfolding words_from
  words_one at h = let n : (length old - at) / 8 ≡ suc ((length old - (at + 8)) / 8) = omega arith in rw n

  -- that changes, and is in front of the others
  pub words-here : (at : ℕ) → at + 8 ≤ length old → alike old new at 8 ≡ false
      → words_at old new at ≡ record { offset = at; bytes = part new at 8 } ∷ words_at old new (at + 8)
  words-here at h e = words_one at h ∙ rw e

  -- that does not, and is left out
  pub words_same : (at : ℕ) → at + 8 ≤ length old → alike old new at 8 ≡ true → words_at old new at ≡ words_at old new (at + 8)
  words_same at h e = words_one at h ∙ rw e

  -- and several of those
  words-run : (k at to : ℕ) → at + 8 * k ≡ to → to ≤ length old → ((i : ℕ) → at ≤ i → i + 8 ≤ to → alike old new i 8 ≡ true)
      → words_at old new at ≡ words_at old new to
  words-run zero at to e h g = let f : at ≡ to = omega arith in ap (words_at old new) f
  words-run (suc k) at to e h g =
      words_same at (omega arith) (g at (omega arith) (omega arith))
      ∙ words-run k (at + 8) to (omega arith) h (λ i l. g i (omega arith))

-- ---- byte by byte, and word by word

-- the bytes from at on, looked at one by one
pub alike_listed : (k : ℕ) (old new : List ℕ) (at : ℕ)
    → list_all (λ i. eqb (get_or old i 0) (get_or new i 0)) (range_with_len at k) ≡ alike old new at k
alike_listed zero old new at = refl
alike_listed (suc k) old new at = ap (λ (b : Bool). eqb (get_or old at 0) (get_or new at 0) && b) (alike_listed k old new (at + 1))

-- from word 0 on all words are looked at
all_words : (old new : List ℕ) → words_at old new (8 * 0) ≡ changed_words old new
unfolding changed_words
all_words old new = let e : (length old - 0) / 8 ≡ length old / 8 = omega arith in rw e refl

module _ (old new : List ℕ) where
  -- whether word w is one of the area's, and changes
  abbrev pub changes : ℕ → Bool
  changes w = ltb w (length old / 8) && not (alike old new (8 * w) 8)

  word_turn : (w : ℕ) → words_at old new (8 * w)
      ≡ cond (changes w) (record { offset = 8 * w; bytes = part new (8 * w) 8 } ∷ words_at old new (8 * (w + 1))) (words_at old new (8 * (w + 1)))
  word_turn w = go (ltb w (length old / 8)) refl (alike old new (8 * w) 8) refl
    where
      on : 8 * w + 8 ≡ 8 * (w + 1)
      on = omega arith

      go : (b : Bool) → ltb w (length old / 8) ≡ b → (s : Bool) → alike old new (8 * w) 8 ≡ s → words_at old new (8 * w)
          ≡ cond (b && not s) (record { offset = 8 * w; bytes = part new (8 * w) 8 } ∷ words_at old new (8 * (w + 1))) (words_at old new (8 * (w + 1)))
      go true e true f = rw on at (words_same old new (8 * w) (omega (arith, ltb-true w _ e)) f)
      go true e false f = rw on at (words-here old new (8 * w) (omega (arith, ltb-true w _ e)) f)
      go false e s f =
          let h = ltb-false w _ e in
          words-none old new (8 * w) (omega arith) ∙ sym (words-none old new (8 * (w + 1)) (omega arith))

  -- the offset of a word that was found, or the area's length
  abbrev pub found : Option ℕ → ℕ
  found None = length old
  found (Some w) = 8 * w

  -- n words are looked at from word k on, and then others
  pub run_found : (n k : ℕ) (ws : List ℕ) → next_offset (length old) (words_at old new (8 * (k + n))) ≡ found (find changes ws)
      → next_offset (length old) (words_at old new (8 * k)) ≡ found (find changes (range_with_len k n ++ ws))
  run_found zero k ws e = rw add-zero at e
  run_found (suc n) k ws e = rw word_turn (go (changes k) (run_found n (k + 1) ws (rw m at e)))
    where
      m : k + suc n ≡ k + 1 + n
      m = omega arith

      go : (b : Bool) → next_offset (length old) (words_at old new (8 * (k + 1))) ≡ found (find changes (range_with_len (k + 1) n ++ ws))
          → next_offset (length old)
          (cond b (record { offset = 8 * k; bytes = part new (8 * k) 8 } ∷ words_at old new (8 * (k + 1))) (words_at old new (8 * (k + 1))))
          ≡ found (cond b (Some k) (find changes (range_with_len (k + 1) n ++ ws)))
      go true r = refl
      go false r = r

  pub run_count : (n k : ℕ) (ws : List ℕ) → length (words_at old new (8 * (k + n))) ≡ length (filter changes ws)
      → length (words_at old new (8 * k)) ≡ length (filter changes (range_with_len k n ++ ws))
  run_count zero k ws e = rw add-zero at e
  run_count (suc n) k ws e = rw word_turn (go (changes k) (run_count n (k + 1) ws (rw m at e)))
    where
      m : k + suc n ≡ k + 1 + n
      m = omega arith

      go : (b : Bool) → length (words_at old new (8 * (k + 1))) ≡ length (filter changes (range_with_len (k + 1) n ++ ws))
          → length (cond b (record { offset = 8 * k; bytes = part new (8 * k) 8 } ∷ words_at old new (8 * (k + 1))) (words_at old new (8 * (k + 1))))
          ≡ length (cond b (k ∷ filter changes (range_with_len (k + 1) n ++ ws)) (filter changes (range_with_len (k + 1) n ++ ws)))
      go true r = ap suc r
      go false r = r

  -- a word that was found is one of the area's
  pub found_inside : (ws : List ℕ) (w : ℕ) → find changes ws ≡ Some w → w < length old / 8
  found_inside [] w e = cc
  found_inside (v ∷ ws) w e = go (changes v) refl e (found_inside ws w)
    where
      go : (b : Bool) → changes v ≡ b → cond b (Some v) (find changes ws) ≡ Some w → (find changes ws ≡ Some w → w < length old / 8) → w < length old / 8
      go true t f r = let g : v ≡ w = cc in rw g at (ltb-true v _ (and_left (ltb v (length old / 8)) (not (alike old new (8 * v) 8)) t))
      go false t f r = r f

-- ---- the window

-- no word changes from at up to `to`, a whole number of words inside the area
pub record Skipped (old new : List ℕ) (at to : ℕ) : Type 0 where
  pub on : at ≤ to
  pub inside : to ≤ length old
  pub eights : to % 8 ≡ 0
  pub words : words_at old new at ≡ words_at old new to

module _ (p : Plan) (a content : List ℕ) (w : Writable p (length a) (length content)) where
  -- a word behind the header fields and outside the stretch does not change
  kept : (at : ℕ) → 12 ≤ at → (at + 8 ≤ p.at) ⊎ (p.at + stretch_length p (length content) ≤ at) → alike a (after p a content) at 8 ≡ true
  kept at l (inl h) = alike_all 8 a (after p a content) at (λ i g f. sym (after_outside p a content w i (omega arith) (inl (omega arith))))
  kept at l (inr h) = alike_all 8 a (after p a content) at (λ i g f. sym (after_outside p a content w i (omega arith) (inr (omega arith))))

  -- none does from the header's words on to the stretch
  pub skipped : (at to : ℕ) → at ≤ length a → at % 8 ≡ 0 → to ≡ skip_to at p.at → Skipped a (after p a content) at to
  skipped at to l m e = rw e (go (leb 16 at && ltb at p.at) refl)
    where
      go : (b : Bool) → (leb 16 at && ltb at p.at) ≡ b → Skipped a (after p a content) at (cond b p.at at)
      go true t =
          let b = between 16 p.at at t in
          record {
            on = omega arith;
            inside = omega arith;
            eights = w.eights;
            words =
                words-run a (after p a content) ((p.at - at) / 8) at p.at (omega arith) (omega arith)
                (λ i h g. kept i (omega arith) (inl g));
          }
      go false t = record { on = omega arith; inside = l; eights = m; words = refl }

  -- so none from word 2 on to the stretch
  gap : (k to : ℕ) → 2 ≤ k → to ≡ max k (p.at / 8) → words_at a (after p a content) (8 * k) ≡ words_at a (after p a content) (8 * to)
  gap k to l e = elim (cases_lt k (p.at / 8)) [
    | inl h ↦
        let f : 8 * to ≡ p.at = omega arith in
        let s : p.at ≡ skip_to (8 * k) p.at = rw (le-leb 16 (8 * k) (omega arith), lt-ltb (8 * k) p.at (omega arith)) refl in
        rw f (skipped (8 * k) p.at (omega arith) (omega arith) s).words
    | inr h ↦ let f : to ≡ k = omega arith in rw f refl
  ]

  -- nor from the stretch's end on
  pub words-end : (at : ℕ) → at ≤ length a → p.at + p.padding + 16 + length content + p.zeros ≤ at → words_at a (after p a content) at ≡ []
  words-end at l e =
      let new : List ℕ = after p a content in
      let k : ℕ = (length a - at) / 8 in
      let s = header_span_le p.behind in
      words-run a new k at (at + 8 * k) refl (omega arith) (λ i h g. kept i (omega arith) (inr (omega arith)))
      ∙ words-none a new (at + 8 * k) (omega arith)

  -- and word k, or none, is behind that end
  pub words-behind : (k : ℕ) → p.at + p.padding + 16 + length content + p.zeros ≤ 8 * k → words_at a (after p a content) (8 * k) ≡ []
  words-behind k e = elim (cases_lt (length a) (8 * k)) [
    | inl h ↦ words-none a (after p a content) (8 * k) (omega arith)
    | inr h ↦ words-end (8 * k) h e
  ]

  -- the words of the header from word `first` on, and of the stretch, are all that can change
  module _ (end : ℕ) (none : (k : ℕ) → end ≤ k → words_at a (after p a content) (8 * k) ≡ []) where
    first_found : (first to : ℕ) → to ≡ max first (p.at / 8)
        → next_offset (length a) (words_at a (after p a content) (8 * first))
        ≡ found a (after p a content) (find (changes a (after p a content)) (range_with_len first (2 - first) ++ range_with_len to (end - to)))
    first_found first to f =
        let new : List ℕ = after p a content in
        let stretch = run_found a new (end - to) to [] (ap (next_offset (length a)) (none (to + (end - to)) (omega arith))) in
        run_found a new (2 - first) first (range_with_len to (end - to))
        (ap (next_offset (length a)) (gap (first + (2 - first)) to (omega arith) (omega arith)) ∙ rw append-nil at stretch)

    -- what was found in them, from the word at `from` on, is the next that changes
    pub next_is : (from to : ℕ) (r : Option ℕ) → from % 8 ≡ 0 → to ≡ max (from / 8) (p.at / 8)
        → option_map (λ x. x) r ≡ find (changes a (after p a content)) (range_with_len (from / 8) (2 - from / 8) ++ range_with_len to (end - to))
        → found a (after p a content) r ≡ next_offset (length a) (words_at a (after p a content) from)
    next_is from to r m f g =
        let new : List ℕ = after p a content in
        let q : 8 * (from / 8) ≡ from = omega arith in
        sym (rw q at (first_found (from / 8) to f) ∙ ap (found a new) (sym g) ∙ ap (found a new) (same r))
      where
        same : (o : Option ℕ) → option_map (λ (x : ℕ). x) o ≡ o
        same None = refl
        same (Some x) = refl

    pub all_counted : length (changed_words a (after p a content))
        ≡ length (filter (changes a (after p a content)) (range_with_len 0 2 ++ range_with_len (p.at / 8) (end - p.at / 8)))
    all_counted =
        let new : List ℕ = after p a content in
        let stretch = run_count a new (end - p.at / 8) (p.at / 8) [] (ap length (none (p.at / 8 + (end - p.at / 8)) (omega arith))) in
        ap length (sym (all_words a new))
        ∙ run_count a new 2 0 (range_with_len (p.at / 8) (end - p.at / 8))
        (ap length (gap 2 (p.at / 8) (omega arith) (omega arith)) ∙ rw append-nil at stretch)
