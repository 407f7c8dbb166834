-- The reading of a row: of two rows, of the bytes that it covers, and what finding an entry says of it.
use Rattle.std.specs.Prelude.{Some}
use mathlib.Core.Path.{◌≡◌, refl, sym, ap, ◌∙◌}
use Prim.Native.Nat.{ℕ, ◌+◌, ◌-◌, ◌≤◌}
use native.Mathlib.Omega.{arith}
use native.Mathlib.Nat.{add_assoc, zero-add}
use mathlib.Core.Bool.{Bool, true, false, not, ◌&&◌, cond}
use mathlib.Core.List.{List, [], ◌∷◌, ◌++◌, map}
use lib.ListN.{length, take, drop}
use lib.Seq.{take_at, drop_at}
use lib.Dec.{leb, eqb}
use borrow.Author.Tests.{ne_eqb, eqb-true, leb-true, lt-ltb, le-ltb}
use Rattle.wire.proofs.Apart.{apart}
use Rattle.rules.specs.declared.Entry.{Entry}
use Rattle.rules.specs.Entries.{is_void, span, data_offset, live_count, occurrence}
use Rattle.rules.specs.Add.{first_fit}
use Rattle.rules.specs.Demand3.{Live, live_at, live_in, take_out, live_before, put_in}
use Rattle.laws.proofs.Row.{Row, row_le, row_append, place_of, Agree, Same, row_agree, later, later-none}
use Rattle.laws.proofs.Lists.{part_agree}

-- ---- the reading

-- the reading of two rows
pub live-append : (a : List ℕ) (xs ys : List Entry) → live_in a (xs ++ ys) ≡ live_in a xs ++ live_in a ys
unfolding live_in
live-append a [] ys = refl
live-append a (e ∷ xs) ys = go (is_void e) (live-append a xs ys)
  where
    go : (v : Bool) → live_in a (xs ++ ys) ≡ live_in a xs ++ live_in a ys
        → cond v (live_in a (xs ++ ys)) (live_at a e ∷ live_in a (xs ++ ys)) ≡ cond v (live_in a xs) (live_at a e ∷ live_in a xs) ++ live_in a ys
    go true h = h
    go false h = ap (λ (l : List Live). live_at a e ∷ l) h

-- the reading has as many entries as are live
pub live-length : (a : List ℕ) (es : List Entry) → length (live_in a es) ≡ live_count es
unfolding live_in live_count
live-length a [] = refl
live-length a (e ∷ es) = go (is_void e) (live-length a es)
  where
    go : (v : Bool) → length (live_in a es) ≡ live_count es
        → length (cond v (live_in a es) (live_at a e ∷ live_in a es)) ≡ cond v (live_count es) (1 + live_count es)
    go true h = h
    go false h = omega arith

-- the reading of a row depends only on the bytes that it covers
pub live_agree : (d : ℕ) (a b : List ℕ) (p q : ℕ) (es : List Entry) → Row a p q es → q ≤ length a → d + q ≤ length b → Agree d a b p q
    → live_in a es ≡ live_in b (map (later d) es)
unfolding live_in
live_agree d a b p q [] r ha hb g = refl
live_agree d a b p q (e ∷ es) r ha hb g =
    let l : p + span e ≤ q = row_le a (p + span e) q es r.2 in
    let f : e.hdr_size ≡ 8 = r.1.header in
    let t : e.at ≡ p = place_of a p r.0 in
    let k : take e.data_size (drop (data_offset e) a) ≡ take e.data_size (drop (d + data_offset e) b) =
    part_agree d a b (data_offset e) e.data_size (omega arith) (omega arith) (λ i x y. g i (omega arith) (omega arith)) in
    rw (live_agree d a b (p + span e) q es r.2 ha hb (λ i x y. g i (omega arith) y), k, add_assoc d e.at e.hdr_size)

-- the entries es stand in c from p to q, and xs is what is read of them
pub record Read (c : List ℕ) (p q : ℕ) (es : List Entry) (xs : List Live) : Type 0 where
  pub row : Row c p q es
  pub live : live_in c es ≡ xs

-- none
pub read_none : (c : List ℕ) (p q : ℕ) → p ≡ q → Read c p q [] []
unfolding live_in
read_none c p q h = record { row = h; live = refl }

-- some behind others
pub read_append : {c : List ℕ} {p q u : ℕ} {es fs : List Entry} {xs ys : List Live} → Read c p q es xs → Read c q u fs ys
    → Read c p u (es ++ fs) (xs ++ ys)
read_append {c} {p} {q} {u} {es} {fs} f g =
    record { row = row_append c p q u es fs f.row g.row; live = live-append c es fs ∙ rw (f.live, g.live) }

-- the same bytes further on are read alike
pub read_agree : (d : ℕ) (a c : List ℕ) (p q : ℕ) (es : List Entry) → Row a p q es → q ≤ length a → d + q ≤ length c → Agree d a c p q
    → Read c (d + p) (d + q) (map (later d) es) (live_in a es)
read_agree d a c p q es r ha hc g = record { row = row_agree d a c p q es g r; live = sym (live_agree d a c p q es r ha hc g) }

-- and so are those at the same place
pub read_same : (a c : List ℕ) (p q : ℕ) (es : List Entry) → Row a p q es → q ≤ length a → q ≤ length c → Same a c p q
    → Read c p q es (live_in a es)
read_same a c p q es r ha hc g =
    rw (zero-add p, zero-add q, later-none es) at (read_agree 0 a c p q es r ha (omega arith) (λ i x y. rw zero-add (g i x y)))

-- ---- finding an entry

-- es has e in it, behind xs and before ys
pub record Parts (es : List Entry) (e : Entry) : Type 0 where
  pub before : List Entry
  pub behind : List Entry
  pub whole : es ≡ before ++ (e ∷ behind)

-- an entry more in front
abbrev parts_cons : (x : Entry) {es : List Entry} {e : Entry} → Parts es e → Parts (x ∷ es) e
parts_cons x k = record { before = x ∷ k.before; behind = k.behind; whole = ap (λ (l : List Entry). x ∷ l) k.whole }

-- the first entry itself
abbrev parts_here : (x : Entry) (es : List Entry) (e : Entry) → x ≡ e → Parts (x ∷ es) e
parts_here x es e h = record { before = []; behind = es; whole = ap (λ (y : Entry). y ∷ es) h }

-- e is one of the entries, a void in which n bytes fit
abbrev pub Fits : ℕ → List Entry → Entry → Type 0
Fits n es e = Parts es e × (is_void e ≡ true) × (n ≤ e.data_size)

-- the void that is taken is such a one
pub first_fit_lem : (n : ℕ) (es : List Entry) (e : Entry) → first_fit n es ≡ Some e → Fits n es e
unfolding first_fit
first_fit_lem n [] e h = apart cc
first_fit_lem n (x ∷ es) e h = go (is_void x) (leb n x.data_size) refl refl h (first_fit_lem n es e)
  where
    behind : Fits n es e → Fits n (x ∷ es) e
    behind r = (parts_cons x r.0, r.1, r.2)

    go : (v l : Bool) → is_void x ≡ v → leb n x.data_size ≡ l → cond (v && l) (Some x) (first_fit n es) ≡ Some e
        → (first_fit n es ≡ Some e → Fits n es e) → Fits n (x ∷ es) e
    go true true hv hl k ih = let q : x ≡ e = cc in (parts_here x es e q, rw q at hv, rw q at (leb-true n x.data_size hl))
    go true false hv hl k ih = behind (ih k)
    go false l hv hl k ih = behind (ih k)

-- what an occurrence of a tag is: one of the entries, without which the reading is that of the others
pub record Occurs (tag n : ℕ) (es : List Entry) (e : Entry) : Type 0 where
  pub parts : Parts es e
  pub taken : (a : List ℕ) → take_out tag n (live_in a es) ≡ live_in a (parts.before ++ parts.behind)

-- the occurrence that is found is such a one
pub occurs : (tag n : ℕ) (es : List Entry) (e : Entry) → (tag ≡ 0 → ⊥) → occurrence tag n es ≡ Some e → Occurs tag n es e
unfolding occurrence take_out live_in
occurs tag n [] e ht h = apart cc
occurs tag n (x ∷ es) e ht h = go (eqb x.tag_id tag) (eqb n 0) refl refl h (λ m. occurs tag m es e ht)
  where
    solid : eqb x.tag_id tag ≡ true → is_void x ≡ false
    solid hs = ne_eqb x.tag_id 0 (λ y. ht (sym (eqb-true _ _ hs) ∙ y))

    other : (v : Bool) (a : List ℕ) (l : List Live) → eqb x.tag_id tag ≡ false → take_out tag n (live_in a es) ≡ l
        → take_out tag n (cond v (live_in a es) (live_at a x ∷ live_in a es)) ≡ cond v l (live_at a x ∷ l)
    other true a l s k = k
    other false a l s k = rw (s, k)

    go : (s z : Bool) → eqb x.tag_id tag ≡ s → eqb n 0 ≡ z
        → cond s (cond z (Some x) (occurrence tag (n - 1) es)) (occurrence tag n es) ≡ Some e
        → ((m : ℕ) → occurrence tag m es ≡ Some e → Occurs tag m es e) → Occurs tag n (x ∷ es) e
    go true true hs hz k ih = record { parts = parts_here x es e (cc); taken = λ a. rw (solid hs, hs, hz) }
    go true false hs hz k ih =
        let r : Occurs tag (n - 1) es e = ih (n - 1) k in
        record { parts = parts_cons x r.parts; taken = λ a. rw (solid hs, hs, hz, r.taken a) }
    go false z hs hz k ih =
        let r : Occurs tag n es e = ih n k in
        record { parts = parts_cons x r.parts; taken = λ a. other (is_void x) a _ hs (r.taken a) }

-- ---- the position of a new entry

-- before a place in front of the row there is none
pub before_none : (a : List ℕ) (m p q : ℕ) (es : List Entry) → Row a p q es → m ≤ p → live_before m es ≡ 0
unfolding live_before
before_none a m p q [] r h = refl
before_none a m p q (e ∷ es) r h =
    let t : e.at ≡ p = place_of a p r.0 in
    rw (le-ltb e.at m (omega arith), before_none a m (p + span e) q es r.2 (omega arith)) (go (is_void e))
  where
    go : (v : Bool) → cond (not v && false) (1 + 0) 0 ≡ 0
    go true = refl
    go false = refl

-- before a place behind the row, of which no others are before, all its live entries count
pub before_all : (a : List ℕ) (m p q : ℕ) (es fs : List Entry) → Row a p q es → q ≤ m → live_before m fs ≡ 0 → live_before m (es ++ fs) ≡ live_count es
unfolding live_before live_count
before_all a m p q [] fs r h k = k
before_all a m p q (e ∷ es) fs r h k =
    let l : p + span e ≤ q = row_le a (p + span e) q es r.2 in
    let f : e.hdr_size ≡ 8 = r.1.header in
    let t : e.at ≡ p = place_of a p r.0 in
    rw (lt-ltb e.at m (omega arith), before_all a m (p + span e) q es fs r.2 h k) (go (is_void e))
  where
    go : (v : Bool) → cond (not v && true) (1 + live_count es) (live_count es) ≡ cond v (live_count es) (1 + live_count es)
    go true = refl
    go false = refl

-- an entry put in behind the first k
pub put_in_lem : (k : ℕ) (x : Live) (xs ys : List Live) → length xs ≡ k → put_in k x (xs ++ ys) ≡ xs ++ (x ∷ ys)
put_in_lem k x xs ys h = rw (take_at xs ys k h, drop_at xs ys k h)
