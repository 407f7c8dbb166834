-- Recovery's decision, record by record from the last, comes to the rules'.
use mathlib.Core.Path.{◌≡◌, refl, sym, ap, ◌∙◌}
use Prim.Native.Nat.{ℕ, zero, suc, ◌+◌, ◌-◌, ◌*◌, ◌/◌, ◌≤◌, ◌<◌}
use native.Mathlib.Omega.{arith}
use native.Mathlib.Nat.{add-zero}
use mathlib.Core.Bool.{Bool, true, false, ◌&&◌, cond}
use Rattle.std.specs.Prelude.{Option, None, Some, option_map}
use mathlib.Core.List.{List, ◌∷◌, ◌++◌}
use lib.ListN.{length}
use Rattle.std.specs.List.{list_all, range_with_len}
use lib.Dec.{leb, eqb}
use borrow.Author.Tests.{ne_eqb}
use Rattle.journal.specs.Journal.{Memory, records, kind, Word, word_at, words_from, changed_words, apply_stores}
use Rattle.wire.specs.Bytes.{field}
use Rattle.journal.specs.Journal.{clear_stores, kinds_up_to, by_kind, pending, fits, fits_in, recovery_of, refuses_journal, recovery}
use Rattle.plan.specs.declared.Plan.{Plan}
use Rattle.words.specs.Words.{next_offset}
use Rattle.steps.specs.declared.Steps.{Steps}
use Rattle.steps.specs.Steps.{carrying, to_word, edit_start, beginning, recover_start}
use Rattle.steps.specs.declared.verdict.Verdict.{Verdict}
use Rattle.steps.specs.declared.verdict.Verdict.TheVariants.{Nothing, Fits, Misfits}
use Rattle.steps.specs.Begin.{verdict_of, with_misfit, with_record, begin_with}

-- ---- the kinds

-- record by record from record i on
pub kinds_listed : (most n i : ℕ) (j : List ℕ) → list_all (λ k. leb (kind j k) most) (range_with_len i n) ≡ kinds_up_to most n j i
kinds_listed most zero i j = refl
kinds_listed most (suc n) i j = ap (λ (b : Bool). leb (kind j i) most && b) (kinds_listed most n (i + 1) j)

-- and one record more behind n of them
pub kinds_next : (most n i : ℕ) (j : List ℕ) → (leb (kind j (i + n)) most && kinds_up_to most n j i) ≡ kinds_up_to most (n + 1) j i
kinds_next most zero i j = rw add-zero refl
kinds_next most (suc n) i j =
    let e : i + suc n ≡ i + 1 + n = omega arith in
    let f : suc n + 1 ≡ suc (n + 1) = omega arith in
    rw (e, f) (swap (leb (kind j (i + 1 + n)) most) (leb (kind j i) most) (kinds_up_to most n j (i + 1))
    ∙ ap (λ (b : Bool). leb (kind j i) most && b) (kinds_next most n (i + 1) j))
  where
    swap : (a b c : Bool) → (a && (b && c)) ≡ (b && (a && c))
    swap true true c = refl
    swap true false c = refl
    swap false true c = refl
    swap false false c = refl

-- ---- the verdict

verdict_one : (len k : ℕ) (w : Word) (r : Option (List Word))
    → verdict_of len (by_kind k (option_map (λ (ws : List Word). w ∷ ws) r)) ≡ with_record k (fits_in len w.offset) (verdict_of len r)
verdict_one len zero w r = refl
verdict_one len (suc zero) w None = go (fits_in len w.offset)
  where
    go : (b : Bool) → ◌≡◌ {A = Verdict} Nothing (cond b Nothing Nothing)
    go true = refl
    go false = refl
verdict_one len (suc zero) w (Some ws) = go (fits_in len w.offset) (fits len ws)
  where
    go : (a b : Bool) → ◌≡◌ {A = Verdict} (cond (a && b) Fits Misfits) (cond a (cond b Fits Misfits) (with_misfit (cond b Fits Misfits)))
    go true b = refl
    go false true = refl
    go false false = refl
verdict_one len (suc (suc zero)) w r = refl
verdict_one len (suc (suc (suc k))) w r =
    let q : ℕ = suc (suc (suc k)) in
    rw (ne_eqb q 1 (λ e. omega (arith, e)), ne_eqb q 2 (λ e. omega (arith, e)))

-- with one record more in front
pub verdict_back : (len n i : ℕ) (v : Verdict) (j : List ℕ) → 0 < i → i ≤ n → v ≡ verdict_of len (pending (n - i) j i)
    → with_record (kind j (i - 1)) (fits_in len (field j (16 * (i - 1) + 4) 4)) v ≡ verdict_of len (pending (n - (i - 1)) j (i - 1))
verdict_back len n i v j h g e =
    let q : n - (i - 1) ≡ suc (n - i) = omega arith in
    let f : i - 1 + 1 ≡ i = omega arith in
    rw (q, f, e) (sym (verdict_one len (kind j (i - 1)) (word_at j (i - 1)) (pending (n - i) j i)))

-- ---- the decision

pub start_is : (m : Memory) → let n : ℕ = records m.journal in
    begin_with (kinds_up_to 2 n m.journal 0) n (verdict_of (length m.area) (pending n m.journal 0)) (eqb (kind m.journal 0) 1) ≡ recover_start m
unfolding recover_start recovery
start_is m = outer (records m.journal)
  where
    j : List ℕ
    j = m.journal

    len : ℕ
    len = length m.area

    more : Option (List Word) → Option (List Word)
    more r = option_map (λ (ws : List Word). word_at j 0 ∷ ws) r

    inner : (low : Bool) (n k : ℕ) (r : Option (List Word))
        → begin_with low (suc n) (verdict_of len (by_kind k (more r))) (eqb k 1)
        ≡ beginning (cond low (recovery_of len (clear_stores 0 (suc n)) (by_kind k (more r))) None)
    inner false n k r = refl
    inner true n zero r = rw (ne_eqb (suc n) 0 (λ e. omega (arith, e)))
    inner true n (suc zero) None = rw (ne_eqb (suc n) 0 (λ e. omega (arith, e)))
    inner true n (suc zero) (Some ws) = last (fits len (word_at j 0 ∷ ws))
      where
        last : (b : Bool)
            → begin_with true (suc n) (cond b Fits Misfits) true ≡ beginning (cond b (Some (apply_stores (word_at j 0 ∷ ws) ++ clear_stores 0 (suc n))) None)
        last true = rw (ne_eqb (suc n) 0 (λ e. omega (arith, e)))
        last false = refl
    inner true n (suc (suc zero)) r = rw (ne_eqb (suc n) 0 (λ e. omega (arith, e)))
    inner true n (suc (suc (suc k))) r = rw (ne_eqb (suc n) 0 (λ e. omega (arith, e)))

    outer : (n : ℕ) → begin_with (kinds_up_to 2 n j 0) n (verdict_of len (pending n j 0)) (eqb (kind j 0) 1)
        ≡ beginning (cond (kinds_up_to 2 n j 0) (recovery_of len (clear_stores 0 n) (pending n j 0)) None)
    outer zero = refl
    outer (suc n) = inner (kinds_up_to 2 (suc n) j 0) n (kind j 0) (pending n j 1)

-- the words from the area's first byte on are all that change
all_words : (old new : List ℕ) → words_from ((length old - 0) / 8) 0 old new ≡ changed_words old new
unfolding changed_words
all_words old new = let e : (length old - 0) / 8 ≡ length old / 8 = omega arith in rw e refl

-- and the edit begins with the first of them
pub edit_begins : (p : Plan) (new : List ℕ) (m : Memory) (s : Steps) (w : ℕ) → refuses_journal m.journal m.area new ≡ false → s ≡ carrying p
    → w ≡ next_offset (length m.area) (words_from ((length m.area - 0) / 8) 0 m.area new)
    → to_word s (length m.area) 0 w ≡ edit_start p new m
unfolding edit_start
edit_begins p new m s w r es ew = rw (es, ew, all_words m.area new, r) refl
