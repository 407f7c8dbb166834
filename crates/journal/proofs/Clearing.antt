-- Laws of the records' kinds: which stores leave them low, and that clearing leaves them 0.
use mathlib.Core.Path.{◌≡◌, refl}
use Prim.Native.Nat.{ℕ, zero, suc, ◌+◌, ◌*◌, ◌%◌, ◌≤◌, ◌<◌}
use native.Mathlib.Omega.{arith}
use native.Mathlib.Decide.{ℕ_discrete}
use native.Mathlib.Nat.{lt_of_not-le}
use mathlib.Core.Logic.{◌⊎◌, inl, inr}
use mathlib.Core.Bool.{Bool, true, false, ◌&&◌}
use mathlib.Core.List.{List, [], ◌∷◌}
use lib.ListN.{get_or, set}
use lib.Seq.{get_or-set_other}
use lib.Dec.{leb}
use borrow.Author.Tests.{le-leb, leb-true}
use Rattle.wire.proofs.Apart.{apart}
use Rattle.journal.specs.Journal.{Store, in_journal, in_area, Memory, store, store_all, kind, clear_stores, kinds_up_to}
use Rattle.journal.proofs.Stores.{All, IsJournal}

pub and_left : (a b : Bool) → a && b ≡ true → a ≡ true
and_left true b h = refl
and_left false b h = h

pub and_right : (a b : Bool) → a && b ≡ true → b ≡ true
and_right true b h = h
and_right false b h = apart cc

-- the kinds of the first n records are at most c
abbrev pub Low : ℕ → ℕ → List ℕ → Type 0
Low n c j = (i : ℕ) → i < n → kind j i ≤ c

-- ---- the test

pub low_test : (c n : ℕ) (j : List ℕ) (i : ℕ) → Low (i + n) c j → kinds_up_to c n j i ≡ true
low_test c zero j i h = refl
low_test c (suc n) j i h = rw (le-leb (kind j i) c (h i (omega arith))) (low_test c n j (i + 1) (λ k g. h k (omega arith)))

pub test_low : (c n : ℕ) (j : List ℕ) (i : ℕ) → kinds_up_to c n j i ≡ true → (k : ℕ) → i ≤ k → k < i + n → kind j k ≤ c
test_low c zero j i h k g q = absurd (omega arith)
test_low c (suc n) j i h k g q = elim (ℕ_discrete i k) [
  | yes e ↦ rw e at (leb-true (kind j i) c (and_left (leb (kind j i) c) (kinds_up_to c n j (i + 1)) h))
  | no e ↦
      let less : i + 1 ≤ k = omega (arith, lt_of_not-le (λ (z : k ≤ i). e (omega arith))) in
      test_low c n j (i + 1) (and_right (leb (kind j i) c) (kinds_up_to c n j (i + 1)) h) k less (omega arith)
]

-- ---- stores that leave kinds low

get_or-set_le : (l : List ℕ) (p q v c : ℕ) → get_or l q 0 ≤ c → v ≤ c → get_or (set l p v) q 0 ≤ c
get_or-set_le [] p q v c h g = h
get_or-set_le (x ∷ l) zero zero v c h g = g
get_or-set_le (x ∷ l) zero (suc q) v c h g = h
get_or-set_le (x ∷ l) (suc p) zero v c h g = h
get_or-set_le (x ∷ l) (suc p) (suc q) v c h g = get_or-set_le l p q v c h g

-- no store of a kind over c
abbrev pub Safe : ℕ → Store → Type 0
Safe c (in_journal i v) = (i % 16 ≡ 0 → ⊥) ⊎ (v ≤ c)
Safe c (in_area i v) = Unit {0}

safe_one : (n c p v : ℕ) (j : List ℕ) → Safe c (in_journal p v) → Low n c j → Low n c (set j p v)
safe_one n c p v j (inl o) h i q = rw (get_or-set_other j p (16 * i) v 0 (λ e. o (omega (arith, e)))) (h i q)
safe_one n c p v j (inr g) h i q = get_or-set_le j p (16 * i) v c (h i q) g

pub safe_low : (n c : ℕ) (ss : List Store) (m : Memory) → All (Safe c) ss → Low n c m.journal → Low n c (store_all ss m).journal
safe_low n c [] m a h = h
safe_low n c (in_journal p v ∷ ss) m a h = safe_low n c ss (store (in_journal p v) m) a.1 (safe_one n c p v m.journal a.0 h)
safe_low n c (in_area p v ∷ ss) m a h = safe_low n c ss (store (in_area p v) m) a.1 h

-- ---- clearing

-- a store of 0 in the journal
abbrev pub Zeroing : Store → Type 0
Zeroing (in_journal i v) = v ≡ 0
Zeroing (in_area i v) = ⊥

pub clear_zeroing : (i n : ℕ) → All Zeroing (clear_stores i n)
clear_zeroing i zero = tt
clear_zeroing i (suc n) = (refl, clear_zeroing (i + 1) n)

pub clear_journal : (i n : ℕ) → All IsJournal (clear_stores i n)
clear_journal i zero = tt
clear_journal i (suc n) = (tt, clear_journal (i + 1) n)

-- a byte that is at most c stays so
pub falls : (ss : List Store) (m : Memory) → All Zeroing ss → (q c : ℕ) → get_or m.journal q 0 ≤ c → get_or (store_all ss m).journal q 0 ≤ c
falls [] m a q c h = h
falls (in_journal p v ∷ ss) m a q c h =
    falls ss (store (in_journal p v) m) a.1 q c (get_or-set_le m.journal p q v c h (omega (arith, a.0)))
falls (in_area p v ∷ ss) m a q c h = absurd a.0

pub get_or-set-zero : (l : List ℕ) (p : ℕ) → get_or (set l p 0) p 0 ≤ 0
get_or-set-zero [] p = omega arith
get_or-set-zero (x ∷ l) zero = omega arith
get_or-set-zero (x ∷ l) (suc p) = get_or-set-zero l p

-- the kinds are 0 once they are cleared
pub cleared : (i n : ℕ) (m : Memory) (k : ℕ) → i ≤ k → k < i + n → kind (store_all (clear_stores i n) m).journal k ≤ 0
cleared i zero m k h g = absurd (omega arith)
cleared i (suc n) m k h g = go (ℕ_discrete i k) (λ h'. cleared (i + 1) n first k h' (omega arith))
  where
    first : Memory
    first = store (in_journal (16 * i) 0) m

    go : Dec (i ≡ k) → (i + 1 ≤ k → kind (store_all (clear_stores (i + 1) n) first).journal k ≤ 0)
        → kind (store_all (clear_stores (i + 1) n) first).journal k ≤ 0
    go (yes e) ih = falls (clear_stores (i + 1) n) first (clear_zeroing (i + 1) n) (16 * k) 0 (rw (← e) (get_or-set-zero m.journal (16 * i)))
    go (no e) ih = ih (omega (arith, lt_of_not-le (λ (z : k ≤ i). e (omega arith))))
