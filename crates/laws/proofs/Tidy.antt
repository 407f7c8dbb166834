-- Tidying, as far as it is about entries alone: voids joined, and the tidy list's entries.
use mathlib.Core.Path.{◌≡◌, refl, sym, ap, ◌∙◌}
use Prim.Native.Nat.{◌+◌}
use native.Mathlib.Omega.{arith}
use native.Mathlib.Nat.{add_assoc}
use mathlib.Core.Bool.{Bool, true, false, cond}
use mathlib.Core.List.{List, [], ◌∷◌}
use Rattle.rules.specs.declared.Entry.{Entry}
use Rattle.rules.specs.Entries.{is_void, span, live_ones}
use Rattle.rules.specs.Tidy.{joined, void_before, tidied}
use Rattle.rules.specs.TidyTwice.{is_tidy}

-- ---- voids joined

-- a joined void covers both stretches
pub joined-span : (e f : Entry) → span (joined e f) ≡ span e + span f
joined-span e f = omega arith

-- of three the first two are joined first, or the last two
joined_assoc : (d e f : Entry) → joined d (joined e f) ≡ joined (joined d e) f
joined_assoc d e f = rw (joined-span e f, add_assoc d.data_size (span e) (span f))

-- two voids in front of tidy entries are as one
pub before_joined : (d e : Entry) (ts : List Entry) → is_void e ≡ true → void_before d (void_before e ts) ≡ void_before (joined d e) ts
before_joined d e [] v = refl
before_joined d e (f ∷ fs) v = go (is_void f)
  where
    go : (b : Bool) → void_before d (cond b (joined e f ∷ fs) (e ∷ f ∷ fs)) ≡ cond b (joined (joined d e) f ∷ fs) (joined d e ∷ f ∷ fs)
    go true = rw (v, joined_assoc d e f)
    go false = rw v

-- ---- the tidy list's entries

-- a void in front of entries that tidying leaves as they are
tidied_before : (e : Entry) (ts : List Entry) → is_void e ≡ true → tidied ts ≡ ts → tidied (void_before e ts) ≡ void_before e ts
unfolding tidied
tidied_before e [] v h = refl
tidied_before e (f ∷ fs) v h = go (is_void f) refl h
  where
    go : (b : Bool) → is_void f ≡ b → cond b (void_before f (tidied fs)) (f ∷ tidied fs) ≡ f ∷ fs
        → tidied (cond b (joined e f ∷ fs) (e ∷ f ∷ fs)) ≡ cond b (joined e f ∷ fs) (e ∷ f ∷ fs)
    go true w k = rw v (sym (before_joined e f (tidied fs) w) ∙ ap (void_before e) k ∙ rw w)
    go false w k = rw (v, w) (ap (void_before e) k ∙ rw w)

-- they are tidied once and for all
pub tidied-tidied : (es : List Entry) → tidied (tidied es) ≡ tidied es
unfolding tidied
tidied-tidied [] = refl
tidied-tidied (e ∷ es) = go (is_void e) refl (tidied-tidied es)
  where
    go : (b : Bool) → is_void e ≡ b → tidied (tidied es) ≡ tidied es
        → tidied (cond b (void_before e (tidied es)) (e ∷ tidied es)) ≡ cond b (void_before e (tidied es)) (e ∷ tidied es)
    go true v k = tidied_before e (tidied es) v k
    go false v k = rw (v, k)

-- the live ones stay
pub live-tidied : (es : List Entry) → live_ones (tidied es) ≡ live_ones es
unfolding tidied live_ones
live-tidied [] = refl
live-tidied (e ∷ es) = go (is_void e) refl (live-tidied es)
  where
    before : (ts : List Entry) → is_void e ≡ true → live_ones (void_before e ts) ≡ live_ones ts
    before [] v = refl
    before (f ∷ fs) v = at (is_void f) refl
      where
        at : (b : Bool) → is_void f ≡ b → live_ones (cond b (joined e f ∷ fs) (e ∷ f ∷ fs)) ≡ cond b (live_ones fs) (f ∷ live_ones fs)
        at true w = rw v
        at false w = rw (v, w)

    go : (b : Bool) → is_void e ≡ b → live_ones (tidied es) ≡ live_ones es
        → live_ones (cond b (void_before e (tidied es)) (e ∷ tidied es)) ≡ cond b (live_ones es) (e ∷ live_ones es)
    go true v k = before (tidied es) v ∙ k
    go false v k = rw (v, k)

-- no two voids are neighbours, and the last entry is live
pub tidied-is-tidy : (es : List Entry) → is_tidy (tidied es) ≡ true
unfolding tidied is_tidy
tidied-is-tidy [] = refl
tidied-is-tidy (e ∷ es) = go (is_void e) refl (tidied es) (tidied-is-tidy es)
  where
    behind : (f : Entry) (fs : List Entry) → is_void e ≡ is_void f → is_tidy (f ∷ fs) ≡ true → is_tidy (joined e f ∷ fs) ≡ true
    behind f [] v k = rw v k
    behind f (g ∷ gs) v k = rw v k

    before : (f : Entry) (fs : List Entry) (b : Bool) → is_void f ≡ b → is_void e ≡ true → is_tidy (f ∷ fs) ≡ true
        → is_tidy (cond b (joined e f ∷ fs) (e ∷ f ∷ fs)) ≡ true
    before f fs true w v k = behind f fs (v ∙ sym w) k
    before f fs false w v k = rw (v, w) k

    go : (b : Bool) → is_void e ≡ b → (ts : List Entry) → is_tidy ts ≡ true → is_tidy (cond b (void_before e ts) (e ∷ ts)) ≡ true
    go true v [] k = refl
    go true v (f ∷ fs) k = before f fs (is_void f) refl v k
    go false v [] k = rw v
    go false v (f ∷ fs) k = rw v k
