-- Laws of deciding: how an answer is shown to decide a rule, and what a decided rule tells.
use mathlib.Core.Path.{◌≡◌, refl, sym, ap, subst, ◌∙◌}
use mathlib.Core.Bool.{Bool, true, false, ◌&&◌, false≢true}
use Prim.Native.Nat.{ℕ, ◌+◌, ◌-◌, ◌≤◌, ◌<◌}
use native.Mathlib.Omega.{arith}
use mathlib.Core.List.{List}
use lib.ListN.{length, get_or}
use Rattle.std.specs.List.{AllWithin, HoldsAt, range_with_len}
use Rattle.std.proofs.lemmas.List.FromFn.{length-range_with_len, get_or-range_with_len}
use Rattle.std.proofs.Common.{Option, Some, None}
use Rattle.std.specs.Bool.{MatchBool}
use Rattle.devicetree.specs.Header.{Zeros}
use Rattle.devicetree.specs.Decided.{Answers, yes, no, Decides}

-- ---- a place

-- Some n decides what holds of n and of no other place
pub decided : {P : ℕ → Type 0} (n : ℕ) → P n → ((m : ℕ) → P m → m ≡ n) → Decides P (Some n)
decided {P} n p u = record { sound = λ m e. subst P (let q : n ≡ m = cc in q) p; complete = λ m q. ap Some (sym (u m q)) }

-- None decides what holds of no place
pub refuted : {P : ℕ → Type 0} → ((m : ℕ) → P m → ⊥) → Decides P None
refuted f =
    record {
      sound = λ m e. absurd (let z : ◌≡◌ {A = ℕ} 0 1 = cc in omega arith);
      complete = λ m q. absurd (f m q);
    }

-- a decided place: the rule holds of it, and of no other
pub holds : {P : ℕ → Type 0} {r : Option ℕ} {n : ℕ} → Decides P r → r ≡ Some n → P n
holds {n = n} d e = d.sound n e

pub only : {P : ℕ → Type 0} {r : Option ℕ} {n : ℕ} → Decides P r → r ≡ Some n → (m : ℕ) → P m → m ≡ n
only {r = r} d e m p = let q : r ≡ Some m = d.complete m p in cc

pub never : {P : ℕ → Type 0} {r : Option ℕ} → Decides P r → r ≡ None → (m : ℕ) → P m → ⊥
never {r = r} d e m p = let q : r ≡ Some m = d.complete m p in let z : ◌≡◌ {A = ℕ} 0 1 = cc in omega arith

-- P and Q hold of the same places
pub record Same (P Q : ℕ → Type 0) : Type 0 where
  pub to : (n : ℕ) → P n → Q n
  pub from : (n : ℕ) → Q n → P n

pub same_refl : {P : ℕ → Type 0} → Same P P
same_refl = record { to = λ n p. p; from = λ n p. p }

pub same_trans : {P Q R : ℕ → Type 0} → Same P Q → Same Q R → Same P R
same_trans a b = record { to = λ n p. b.to n (a.to n p); from = λ n r. a.from n (b.from n r) }

pub same_decides : {P Q : ℕ → Type 0} {r : Option ℕ} → Same P Q → Decides Q r → Decides P r
same_decides a d = record { sound = λ n e. a.from n (d.sound n e); complete = λ n p. d.complete n (a.to n p) }

-- ---- yes or no

pub said_yes : {P : Type 0} {r : Bool} → Answers P r → r ≡ true → P
said_yes (yes p) e = p
said_yes (no f) e = absurd (false≢true e)

pub said_no : {P : Type 0} {r : Bool} → Answers P r → r ≡ false → P → ⊥
said_no (yes p) e q = false≢true (sym e)
said_no (no f) e q = f q

-- a test that is true exactly where P holds answers for it
pub answers_test : {P : Type 0} (r : Bool) → (r ≡ true → P) → (P → r ≡ true) → Answers P r
answers_test true f g = yes (f refl)
answers_test false f g = no (λ p. false≢true (g p))

-- an answer for P is one for Q, where each gives the other
pub answers_same : {P Q : Type 0} {r : Bool} → (P → Q) → (Q → P) → Answers P r → Answers Q r
answers_same f g (yes p) = yes (f p)
answers_same f g (no h) = no (λ q. h (g q))

pub both : (a b : Bool) → (a && b) ≡ true → (a ≡ true) × (b ≡ true)
both true b h = (refl, h)
both false b h = absurd (false≢true h)

-- ---- a stretch

-- whether all bytes of a stretch are 0, as the library says of its places
pub answers_all : (d : List ℕ) (from to : ℕ) {r : Bool}
    → MatchBool r (AllWithin (λ k. get_or d k 0 ≡ 0) (range_with_len from (to - from)) 0 (length (range_with_len from (to - from))))
    ((i : ℕ) × (i < length (range_with_len from (to - from))) × HoldsAt (λ k. get_or d k 0 ≡ 0 → ⊥) (range_with_len from (to - from)) i)
    → Answers (Zeros d from to) r
answers_all d from to {r = true} h =
    yes (λ k f g.
    let n = length-range_with_len from (to - from) in
    let e : from + (k - from) ≡ k = omega arith in
    subst (λ i. get_or d i 0 ≡ 0) (get_or-range_with_len from (to - from) (k - from) 0 (omega arith) ∙ e) (h (k - from) 0 (omega arith) (omega arith)))
answers_all d from to {r = false} h =
    no (λ z.
    let n = length-range_with_len from (to - from) in
    let i = h.1 in
    let e = get_or-range_with_len from (to - from) h.0 0 (omega arith) in
    h.2 0 (z (get_or (range_with_len from (to - from)) h.0 0) (omega arith) (omega arith)))

-- up to the place itself anything holds from a place on
pub none_yet : (Q : ℕ → Type 0) {at : ℕ} → (k : ℕ) → at ≤ k → k < at → Q k
none_yet Q k a h = absurd (let z : k < k = omega arith in omega arith)
