-- Laws of single stores, one after the other: what they leave where, and that a list of them after a front part of itself gives what it gives.
use mathlib.Core.Path.{◌≡◌, refl, ap, ◌∙◌}
use Prim.Native.Nat.{ℕ, zero, suc, ◌+◌, ◌/◌, ◌≤◌}
use native.Mathlib.Omega.{arith}
use native.Mathlib.Decide.{ℕ_discrete}
use mathlib.Core.Logic.{◌⊎◌, inl, inr}
use mathlib.Core.List.{List, [], ◌∷◌, ◌++◌}
use lib.ListN.{length, take, set, length-set}
use lib.Seq.{set-set, set_comm, sets}
use Rattle.wire.specs.Bytes.{splice}
use Rattle.wire.proofs.Splice.{splice_sets}
use Rattle.journal.specs.Journal.{Store, in_journal, in_area, Memory, memory, store, store_all, rising, records}

-- ---- one list of stores behind another

pub stores-append : (s t : List Store) (m : Memory) → store_all (s ++ t) m ≡ store_all t (store_all s m)
stores-append [] t m = refl
stores-append (x ∷ s) t m = stores-append s t (store x m)

-- a front part of two lists: within the first, or the first and a front part of the second
pub data Front {A : Type 0} (k : ℕ) (s t : List A) : Type 0 where
  within : take k (s ++ t) ≡ take k s → k ≤ length s → Front k s t
  beyond : (n : ℕ) → take k (s ++ t) ≡ s ++ take n t → k ≡ length s + n → Front k s t

pub front : {A : Type 0} (k : ℕ) (s t : List A) → Front k s t
front zero [] t = within refl (omega arith)
front (suc k) [] t = beyond (suc k) refl (omega arith)
front zero (x ∷ s) t = within refl (omega arith)
front {A} (suc k) (x ∷ s) t = go (front k s t)
  where
    go : Front k s t → Front (suc k) (x ∷ s) t
    go (within e h) = within (ap {B = List A} (λ r. x ∷ r) e) (omega (arith, h))
    go (beyond n e h) = beyond n (ap {B = List A} (λ r. x ∷ r) e) (omega (arith, h))

-- ---- lengths

store-journal : (s : Store) (m : Memory) → length (store s m).journal ≡ length m.journal
store-journal (in_journal i v) m = length-set m.journal i v
store-journal (in_area i v) m = refl

store-area : (s : Store) (m : Memory) → length (store s m).area ≡ length m.area
store-area (in_journal i v) m = refl
store-area (in_area i v) m = length-set m.area i v

pub length-journal : (ss : List Store) (m : Memory) → length (store_all ss m).journal ≡ length m.journal
length-journal [] m = refl
length-journal (s ∷ ss) m = length-journal ss (store s m) ∙ store-journal s m

pub length-area : (ss : List Store) (m : Memory) → length (store_all ss m).area ≡ length m.area
length-area [] m = refl
length-area (s ∷ ss) m = length-area ss (store s m) ∙ store-area s m

pub same_records : (ss : List Store) (m : Memory) → records (store_all ss m).journal ≡ records m.journal
same_records ss m = ap (λ (n : ℕ). n / 16) (length-journal ss m)

pub length-rising : (to : ℕ → ℕ → Store) (at : ℕ) (bs : List ℕ) → length (rising to at bs) ≡ length bs
length-rising to at [] = refl
length-rising to at (b ∷ bs) = ap suc (length-rising to (at + 1) bs)

-- ---- a property of each store

abbrev pub All : (Store → Type 0) → List Store → Type 0
All P [] = Unit {0}
All P (s ∷ ss) = P s × All P ss

pub all_take : (P : Store → Type 0) (k : ℕ) (ss : List Store) → All P ss → All P (take k ss)
all_take P zero ss h = tt
all_take P (suc k) [] h = tt
all_take P (suc k) (s ∷ ss) h = (h.0, all_take P k ss h.1)

pub all_append : (P : Store → Type 0) (s t : List Store) → All P s → All P t → All P (s ++ t)
all_append P [] t h g = g
all_append P (x ∷ s) t h g = (h.0, all_append P s t h.1 g)

abbrev pub IsArea : Store → Type 0
IsArea (in_journal i v) = ⊥
IsArea (in_area i v) = Unit {0}

abbrev pub IsJournal : Store → Type 0
IsJournal (in_journal i v) = Unit {0}
IsJournal (in_area i v) = ⊥

-- stores in the one buffer leave the other
pub journal_kept : (ss : List Store) (m : Memory) → All IsArea ss → (store_all ss m).journal ≡ m.journal
journal_kept [] m h = refl
journal_kept (in_journal i v ∷ ss) m h = absurd h.0
journal_kept (in_area i v ∷ ss) m h = journal_kept ss (store (in_area i v) m) h.1

pub area_kept : (ss : List Store) (m : Memory) → All IsJournal ss → (store_all ss m).area ≡ m.area
area_kept [] m h = refl
area_kept (in_journal i v ∷ ss) m h = area_kept ss (store (in_journal i v) m) h.1
area_kept (in_area i v ∷ ss) m h = absurd h.0

pub rising-area : (at : ℕ) (bs : List ℕ) → All IsArea (rising in_area at bs)
rising-area at [] = tt
rising-area at (b ∷ bs) = (tt, rising-area (at + 1) bs)

pub rising-journal : (at : ℕ) (bs : List ℕ) → All IsJournal (rising in_journal at bs)
rising-journal at [] = tt
rising-journal at (b ∷ bs) = (tt, rising-journal (at + 1) bs)

-- the area afterwards depends on the area alone
pub area_same : (ss : List Store) (m n : Memory) → m.area ≡ n.area → (store_all ss m).area ≡ (store_all ss n).area
area_same [] m n e = e
area_same (in_journal i v ∷ ss) m n e = area_same ss (store (in_journal i v) m) (store (in_journal i v) n) e
area_same (in_area i v ∷ ss) m n e = area_same ss (store (in_area i v) m) (store (in_area i v) n) (ap (λ (a : List ℕ). set a i v) e)

-- ---- bytes stored rising are a splice

sets_journal : (at : ℕ) (bs : List ℕ) (m : Memory) → store_all (rising in_journal at bs) m ≡ memory (sets m.journal at bs) m.area
sets_journal at [] m = refl
sets_journal at (b ∷ bs) m =
    let e : at + 1 ≡ suc at = omega arith in
    rw e (sets_journal (suc at) bs (store (in_journal at b) m))

sets_area : (at : ℕ) (bs : List ℕ) (m : Memory) → store_all (rising in_area at bs) m ≡ memory m.journal (sets m.area at bs)
sets_area at [] m = refl
sets_area at (b ∷ bs) m =
    let e : at + 1 ≡ suc at = omega arith in
    rw e (sets_area (suc at) bs (store (in_area at b) m))

pub splice-journal : (at : ℕ) (bs : List ℕ) (m : Memory) → at + length bs ≤ length m.journal
    → store_all (rising in_journal at bs) m ≡ memory (splice m.journal at bs) m.area
splice-journal at bs m h = sets_journal at bs m ∙ ap (λ (j : List ℕ). memory j m.area) (splice_sets m.journal at bs h)

pub splice-area : (at : ℕ) (bs : List ℕ) (m : Memory) → at + length bs ≤ length m.area
    → store_all (rising in_area at bs) m ≡ memory m.journal (splice m.area at bs)
splice-area at bs m h = sets_area at bs m ∙ ap (memory m.journal) (splice_sets m.area at bs h)

-- ---- a list of stores after a front part of itself

-- two stores to one place
abbrev SamePlace : Store → Store → Type 0
SamePlace (in_journal i v) (in_journal k w) = i ≡ k
SamePlace (in_journal i v) (in_area k w) = ⊥
SamePlace (in_area i v) (in_journal k w) = ⊥
SamePlace (in_area i v) (in_area k w) = i ≡ k

same_place : (s x : Store) → Dec (SamePlace s x)
same_place (in_journal i v) (in_journal k w) = ℕ_discrete i k
same_place (in_journal i v) (in_area k w) = no (λ e. e)
same_place (in_area i v) (in_journal k w) = no (λ e. e)
same_place (in_area i v) (in_area k w) = ℕ_discrete i k

own_place : (s : Store) → SamePlace s s
own_place (in_journal i v) = refl
own_place (in_area i v) = refl

-- the later of them stays
later_stays : (s x : Store) (m : Memory) → SamePlace s x → store x (store s m) ≡ store x m
later_stays (in_journal i v) (in_journal k w) m e = rw e (ap (λ (j : List ℕ). memory j m.area) (set-set m.journal k v w))
later_stays (in_journal i v) (in_area k w) m e = absurd e
later_stays (in_area i v) (in_journal k w) m e = absurd e
later_stays (in_area i v) (in_area k w) m e = rw e (ap (memory m.journal) (set-set m.area k v w))

-- stores to two places change places
swap : (s x : Store) (m : Memory) → (SamePlace s x → ⊥) → store x (store s m) ≡ store s (store x m)
swap (in_journal i v) (in_journal k w) m n = ap (λ (j : List ℕ). memory j m.area) (set_comm m.journal i k v w n)
swap (in_journal i v) (in_area k w) m n = refl
swap (in_area i v) (in_journal k w) m n = refl
swap (in_area i v) (in_area k w) m n = ap (memory m.journal) (set_comm m.area i k v w n)

-- some store of the list is to the same place
abbrev Covered : List Store → Store → Type 0
Covered [] s = ⊥
Covered (x ∷ l) s = SamePlace s x ⊎ Covered l s

-- a store before a list that covers it is lost
lost : (l : List Store) (s : Store) (m : Memory) → Covered l s → store_all l (store s m) ≡ store_all l m
lost [] s m c = absurd c
lost (x ∷ l) s m c = go (lost l s (store x m)) (same_place s x) c
  where
    go : (Covered l s → store_all l (store s (store x m)) ≡ store_all l (store x m)) → Dec (SamePlace s x) → SamePlace s x ⊎ Covered l s
        → store_all l (store x (store s m)) ≡ store_all l (store x m)
    go ih (yes e) c = ap (store_all l) (later_stays s x m e)
    go ih (no n) (inl e) = absurd (n e)
    go ih (no n) (inr d) = ap (store_all l) (swap s x m n) ∙ ih d

lost_all : (l t : List Store) (m : Memory) → All (Covered l) t → store_all l (store_all t m) ≡ store_all l m
lost_all l [] m h = refl
lost_all l (s ∷ t) m h = lost_all l t (store s m) h.1 ∙ lost l s m h.0

wider : (x : Store) (l t : List Store) → All (Covered l) t → All (Covered (x ∷ l)) t
wider x l [] h = tt
wider x l (s ∷ t) h = (inr h.0, wider x l t h.1)

covers_itself : (l : List Store) → All (Covered l) l
covers_itself [] = tt
covers_itself (s ∷ l) = (inl (own_place s), wider s l l (covers_itself l))

-- A list of stores after a front part of itself gives what the list gives.
pub again : (l : List Store) (k : ℕ) (m : Memory) → store_all l (store_all (take k l) m) ≡ store_all l m
again l k m = lost_all l (take k l) m (all_take (Covered l) k l (covers_itself l))
