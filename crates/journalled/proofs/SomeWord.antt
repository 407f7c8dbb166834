-- An edit that is done and can be journalled changes at least one word: with none changed the area would be as it was, and so would its reading,
-- but an add makes the reading one longer and a void one shorter.
use Rattle.std.specs.Prelude.{None, Option, Some}
use mathlib.Core.Path.{◌≡◌, refl, sym, ap, ◌∙◌}
use Prim.Native.Nat.{ℕ, ◌+◌, ◌-◌, ◌≤◌, ◌<◌}
use native.Mathlib.Omega.{arith}
use mathlib.Core.Bool.{Bool, true, false, cond}
use mathlib.Core.List.{List, [], ◌∷◌}
use lib.ListN.{length, take, drop, length-append, take-append-drop}
use lib.Dec.{eqb}
use borrow.Author.Tests.{ne_eqb, eqb-true}
use Rattle.wire.proofs.Apart.{apart}
use Rattle.rules.specs.declared.Entry.{Entry}
use Rattle.rules.specs.declared.Refusal.TheVariants.{Tag}
use Rattle.rules.specs.Edition.{current}
use Rattle.rules.specs.Entries.{is_void, entries_of, occurrence}
use Rattle.rules.specs.Refusals.{refuses_tag}
use Rattle.rules.specs.Check.{admit}
use Rattle.rules.specs.Outcome.{done}
use Rattle.rules.specs.Add.{taken_void}
use Rattle.rules.specs.Void.{void_at, void}
use Rattle.rules.specs.Edit.{Edit, to_add, to_add_aligned, to_void, act, run, in_place, destination}
use Rattle.rules.specs.Demand3.{Live, live_at, live_in, reading, put_in, take_out, position, changed}
use Rattle.laws.proofs.Passed.{tag_range}
use Rattle.demand3.proofs.InPlace.{passed, admitted_done}
use Rattle.demand3.proofs.Demand3.{demand3}
use Rattle.demand3.proofs.Answered.{done_listed}
use Rattle.journal.specs.Journal.{Word, memory, store_all, changed_words, apply_stores}
use Rattle.journal.specs.PowerCut.{Journals}
use Rattle.journal.proofs.PowerCut.{words_give}

-- ---- the length of the reading

-- an entry put in makes it one longer
put_longer : (k : ℕ) (x : Live) (xs : List Live) → length (put_in k x xs) ≡ length xs + 1
put_longer k x xs =
    let l : length (take k xs) + length (drop k xs) ≡ length xs = sym (length-append (take k xs) (drop k xs)) ∙ ap length (take-append-drop k xs) in
    rw length-append (omega arith)

-- an occurrence that is found, taken out, makes it one shorter
out_shorter : (a : List ℕ) (tag n : ℕ) (es : List Entry) (e : Entry) → (tag ≡ 0 → ⊥) → occurrence tag n es ≡ Some e
    → length (take_out tag n (live_in a es)) + 1 ≡ length (live_in a es)
unfolding occurrence take_out live_in
out_shorter a tag n [] e ht h = apart cc
out_shorter a tag n (x ∷ es) e ht h = go (eqb x.tag_id tag) (eqb n 0) refl refl h (λ m. out_shorter a tag m es e ht)
  where
    solid : eqb x.tag_id tag ≡ true → is_void x ≡ false
    solid hs = ne_eqb x.tag_id 0 (λ y. ht (sym (eqb-true _ _ hs) ∙ y))

    other : (v : Bool) → eqb x.tag_id tag ≡ false → length (take_out tag n (live_in a es)) + 1 ≡ length (live_in a es)
        → length (take_out tag n (cond v (live_in a es) (live_at a x ∷ live_in a es))) + 1 ≡ length (cond v (live_in a es) (live_at a x ∷ live_in a es))
    other true s k = k
    other false s k = rw s (omega arith)

    go : (s z : Bool) → eqb x.tag_id tag ≡ s → eqb n 0 ≡ z
        → cond s (cond z (Some x) (occurrence tag (n - 1) es)) (occurrence tag n es) ≡ Some e
        → ((m : ℕ) → occurrence tag m es ≡ Some e → length (take_out tag m (live_in a es)) + 1 ≡ length (live_in a es))
        → length (take_out tag n (live_in a (x ∷ es))) + 1 ≡ length (live_in a (x ∷ es))
    go true true hs hz k ih = rw (solid hs, hs, hz) (omega arith)
    go true false hs hz k ih = rw (solid hs, hs, hz) (omega (arith, ih (n - 1) k))
    go false z hs hz k ih = other (is_void x) hs (ih n k)

-- so a void that is done makes it one shorter
void_shorter : (a : List ℕ) (tag n value : ℕ) (bytes : List ℕ) → void a tag n ≡ done value bytes
    → length (take_out tag n (reading a)) + 1 ≡ length (reading a)
unfolding void reading
void_shorter a tag n value bytes h =
    let k = passed (refuses_tag tag) Tag (void_at a (occurrence tag n (entries_of a))) value bytes h in
    go (occurrence tag n (entries_of a)) refl (tag_range tag k.0).0 k.1
  where
    go : (o : Option Entry) → occurrence tag n (entries_of a) ≡ o → 0 < tag → void_at a o ≡ done value bytes
        → length (take_out tag n (live_in a (entries_of a))) + 1 ≡ length (live_in a (entries_of a))
    go None f s y = apart cc
    go (Some e) f s y = out_shorter a tag n (entries_of a) e (λ z. omega arith) f

-- ---- the words

-- where no word changes, the area is as it was
some_or_same : (j a new : List ℕ) → Journals j a new → (a ≡ new → ⊥) → 1 ≤ length (changed_words a new)
some_or_same j a new r differs = go (changed_words a new) (words_give j a new r)
  where
    go : (ws : List Word) → (store_all (apply_stores ws) (memory j a)).area ≡ new → 1 ≤ length ws
    go [] h = absurd (differs h)
    go (w ∷ ws) h = omega arith

-- an edit in place that is done and changes the reading's length changes some word
some_word : (e : Edit) (j a new : List ℕ) (base value : ℕ) → destination e ≡ in_place → (length (changed e a (reading a)) ≡ length (reading a) → ⊥)
    → Journals j a new → run e a base ≡ done value new → 1 ≤ length (changed_words a new)
some_word e j a new base value d differs r h =
    let live : reading new ≡ changed e a (reading a) = rw d at (demand3 e a base value new (done_listed e a base value new h) h).result.live in
    some_or_same j a new r (λ s. differs (sym (ap length live) ∙ ap (λ (l : List ℕ). length (reading l)) (sym s)))

-- ---- the three edits in place

pub some_word_add : (j a new : List ℕ) (base value tag : ℕ) (content : List ℕ) (use_voids : Bool) → Journals j a new
    → run (to_add tag content use_voids) a base ≡ done value new → 1 ≤ length (changed_words a new)
some_word_add j a new base value tag content use_voids =
    let l = put_longer (position a (taken_void use_voids (length content) a)) (record { tag = tag; content = content }) (reading a) in
    some_word (to_add tag content use_voids) j a new base value refl (λ s. omega (arith, l, s))

pub some_word_aligned : (j a new : List ℕ) (base value tag : ℕ) (content : List ℕ) (exponent : ℕ) → Journals j a new
    → run (to_add_aligned tag content exponent) a base ≡ done value new → 1 ≤ length (changed_words a new)
some_word_aligned j a new base value tag content exponent =
    let l = put_longer (position a None) (record { tag = tag; content = content }) (reading a) in
    some_word (to_add_aligned tag content exponent) j a new base value refl (λ s. omega (arith, l, s))

pub some_word_void : (j a new : List ℕ) (base value tag n : ℕ) → Journals j a new → run (to_void tag n) a base ≡ done value new
    → 1 ≤ length (changed_words a new)
some_word_void j a new base value tag n r h =
    let k = admitted_done current a base (admit a base) (act (to_void tag n) a base) value new refl h in
    let l = void_shorter a tag n value new k.2 in
    some_word (to_void tag n) j a new base value refl (λ s. omega (arith, l, s)) r h
