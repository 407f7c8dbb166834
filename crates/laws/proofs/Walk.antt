-- The walk's equations: what stands at a place, without the count of steps.
use Rattle.std.specs.Prelude.{Some}
use mathlib.Core.Path.{◌≡◌, refl, ap, subst, ◌∙◌}
use Prim.Native.Nat.{ℕ, zero, suc, ◌+◌, ◌-◌, ◌≤◌, ◌<◌}
use native.Mathlib.Omega.{arith}
use mathlib.Core.Bool.{Bool, true, false, not, ◌&&◌, ◌||◌, cond}
use mathlib.Core.List.{List, [], ◌∷◌}
use lib.Dec.{ltb, eqb}
use borrow.Author.Tests.{eq-eqb, ne_eqb, eqb-true, ltb-false}
use Rattle.wire.proofs.Apart.{apart}
use Rattle.rules.specs.declared.Entry.{Entry}
use Rattle.rules.specs.Header.{entry_header_size}
use Rattle.rules.specs.Entries.{
  Walk,
  entries,
  broken,
  follow,
  entry_at,
  span,
  wrong_header_size,
  bad_entry,
  walk_in,
  walk_from,
  occurrence,
}

-- ---- tests

-- neither of two tests holds
pub neither : (x y : Bool) → (x || y) ≡ false → (x ≡ false) × (y ≡ false)
neither true y h = apart cc
neither false y h = (refl, h)

-- a header size that is not wrong is at least `own`
pub header-least : (version own size : ℕ) → wrong_header_size version own size ≡ false → own ≤ size
header-least version own size h = go (eqb version 1) (eqb size own) refl refl h
  where
    go : (v s : Bool) → eqb version 1 ≡ v → eqb size own ≡ s → (v && not s || not v && ltb size own) ≡ false → own ≤ size
    go true true p q k = omega (arith, eqb-true size own q)
    go true false p q k = apart cc
    go false s p q k = ltb-false size own k

-- what an entry that breaks no rule keeps to
pub record Bounded (left : ℕ) (e : Entry) : Type 0 where
  pub least : entry_header_size ≤ e.hdr_size
  pub fits : span e ≤ left

-- such an entry does
pub bounded : (version left : ℕ) (e : Entry) → bad_entry version left e ≡ false → Bounded left e
bounded version left e h =
    let p = neither (wrong_header_size version entry_header_size e.hdr_size || ltb left (span e)) _ h in
    let q = neither (wrong_header_size version entry_header_size e.hdr_size) (ltb left (span e)) p.0 in
    record { least = header-least version entry_header_size e.hdr_size q.0; fits = ltb-false left (span e) q.1 }

-- an entry takes eight bytes or more, so with fewer left there is none that breaks no rule
pub bad_short : (version left : ℕ) (e : Entry) → left < entry_header_size → bad_entry version left e ≡ true
bad_short version left e h = go (bad_entry version left e) refl
  where
    go : (b : Bool) → bad_entry version left e ≡ b → b ≡ true
    go true p = refl
    go false p = let k : Bounded left e = bounded version left e p in absurd (omega arith)

-- an entry is at the place where it was read
pub entry_place : (a : List ℕ) (at : ℕ) → (entry_at a at).at ≡ at
unfolding entry_at
entry_place a at = refl

-- where the entry behind the one at a place starts
abbrev pub next : List ℕ → ℕ → ℕ
next a at = at + span (entry_at a at)

-- ---- the count of steps

-- what follows an entry counts only where the entry breaks no rule
follow_cong : (b : Bool) (at : ℕ) (e : Entry) (x y : Walk) → (b ≡ false → x ≡ y) → cond b (broken at) (follow e x) ≡ cond b (broken at) (follow e y)
follow_cong true at e x y h = refl
follow_cong false at e x y h = ap (follow e) (h refl)

-- any two counts that suffice give the same walk
steps : (f g version : ℕ) (a : List ℕ) (u p : ℕ) → p ≤ u → u - p ≤ f → u - p ≤ g → walk_in f version a u p ≡ walk_in g version a u p
unfolding walk_in
steps zero zero version a u p h hf hg = refl
steps zero (suc g) version a u p h hf hg = let e : p ≡ u = omega arith in rw (eq-eqb p u e)
steps (suc f) zero version a u p h hf hg = let e : p ≡ u = omega arith in rw (eq-eqb p u e)
steps (suc f) (suc g) version a u p h hf hg =
    ap (cond (eqb p u) (entries []))
    (follow_cong (bad_entry version (u - p) (entry_at a p)) p (entry_at a p) _ _
    (λ ok.
    let k : Bounded (u - p) (entry_at a p) = bounded version (u - p) (entry_at a p) ok in
    steps f g version a u (next a p) (omega arith) (omega arith) (omega arith)))

-- ---- the walk, place by place

module _ (version : ℕ) (a : List ℕ) (u : ℕ) where
  -- the list ends where the place equals used_size
  pub walk_end : walk_from version a u u ≡ entries []
  unfolding walk_from walk_in
  walk_end = let e : u - u ≡ 0 = omega arith in rw (e, eq-eqb u u refl)

  module _ (p : ℕ) (h : p < u) where
    -- one step: before used_size there is an entry, which breaks a rule or is followed by the rest
    unfold_step : walk_from version a u p
        ≡ cond (bad_entry version (u - p) (entry_at a p)) (broken p) (follow (entry_at a p) (walk_in (u - p - 1) version a u (next a p)))
    unfolding walk_from walk_in
    unfold_step =
        let e : u - p ≡ suc (u - p - 1) = omega arith in
        ap (λ (n : ℕ). walk_in n version a u p) e ∙ rw (ne_eqb p u (λ q. omega arith))

    -- an entry that breaks a rule
    pub walk-broken : bad_entry version (u - p) (entry_at a p) ≡ true → walk_from version a u p ≡ broken p
    walk-broken b = rw (unfold_step, b)

    -- any other entry
    pub walk-next : bad_entry version (u - p) (entry_at a p) ≡ false
        → walk_from version a u p ≡ follow (entry_at a p) (walk_from version a u (next a p))
    unfolding walk_from
    walk-next b =
        let k : Bounded (u - p) (entry_at a p) = bounded version (u - p) (entry_at a p) b in
        let s = steps (u - p - 1) (u - next a p) version a u (next a p) (omega arith) (omega arith) (omega arith) in
        unfold_step ∙ rw b (ap (follow (entry_at a p)) s)

-- ---- the entries of a walk

-- every entry of a list has a property
abbrev pub All : (Entry → Type 0) → List Entry → Type 0
All P [] = Unit
All P (e ∷ es) = P e × All P es

-- where an entry of a walk from first up to used lies
pub record Inside (first used : ℕ) (e : Entry) : Type 0 where
  pub least : entry_header_size ≤ e.hdr_size
  pub behind : first ≤ e.at
  pub within : e.at + span e ≤ used

module _ (P : Entry → Type 0) where
  -- what holds of every entry holds of each occurrence
  pub occurrence-inside : (tag n : ℕ) (es : List Entry) (e : Entry) → All P es → occurrence tag n es ≡ Some e → P e
  unfolding occurrence
  occurrence-inside tag n [] e h o = apart cc
  occurrence-inside tag n (x ∷ es) e h o =
      go (eqb x.tag_id tag) (eqb n 0) (occurrence-inside tag (n - 1) es e h.1) (occurrence-inside tag n es e h.1) o
    where
      go : (t z : Bool) → (occurrence tag (n - 1) es ≡ Some e → P e) → (occurrence tag n es ≡ Some e → P e)
          → cond t (cond z (Some x) (occurrence tag (n - 1) es)) (occurrence tag n es) ≡ Some e → P e
      go true true f g k = let q : x ≡ e = cc in subst P q h.0
      go true false f g k = f k
      go false z f g k = g k

-- ---- walks that are not broken

-- the walk from a place on gives the entries: it ends at used_size, or an entry that breaks no rule is followed by the others
pub data Unbroken (version : ℕ) (a : List ℕ) (used : ℕ) : ℕ → List Entry → Type 0 where
  ends : {at : ℕ} → at ≡ used → Unbroken version a used at []
  goes : {at : ℕ} {row : List Entry} → bad_entry version (used - at) (entry_at a at) ≡ false
      → Unbroken version a used (next a at) row → Unbroken version a used at (entry_at a at ∷ row)

module _ (version : ℕ) (a : List ℕ) (used : ℕ) where
  -- at used_size there is no entry
  ended : (at : ℕ) (row : List Entry) → eqb at used ≡ true → entries [] ≡ entries row → Unbroken version a used at row
  ended at row h k = let q : [] ≡ row = cc in subst (Unbroken version a used at) q (ends (eqb-true at used h))

  -- any number of steps that gives entries does
  unbroken_in : (n at : ℕ) (row : List Entry) → walk_in n version a used at ≡ entries row → Unbroken version a used at row
  unfolding walk_in
  unbroken_in zero at row k = go (eqb at used) refl k
    where
      go : (b : Bool) → eqb at used ≡ b → cond b (entries []) (broken at) ≡ entries row → Unbroken version a used at row
      go true h p = ended at row h p
      go false h p = apart cc
  unbroken_in (suc n) at row k =
      go (eqb at used) (bad_entry version (used - at) (entry_at a at)) (walk_in n version a used (next a at)) refl refl
      (λ es. unbroken_in n (next a at) es) k
    where
      go : (b c : Bool) (w : Walk) → eqb at used ≡ b → bad_entry version (used - at) (entry_at a at) ≡ c
          → ((es : List Entry) → w ≡ entries es → Unbroken version a used (next a at) es)
          → cond b (entries []) (cond c (broken at) (follow (entry_at a at) w)) ≡ entries row → Unbroken version a used at row
      go true c w h e f p = ended at row h p
      go false true w h e f p = apart cc
      go false false (broken x) h e f p = apart cc
      go false false (entries es) h e f p =
          let q : entry_at a at ∷ es ≡ row = cc in
          subst (Unbroken version a used at) q (goes e (f es refl))

  -- a walk that gives entries is not broken
  pub unbroken : (at : ℕ) (row : List Entry) → walk_from version a used at ≡ entries row → Unbroken version a used at row
  unfolding walk_from
  unbroken at row h = unbroken_in (used - at) at row h

  -- the entries of a walk that is not broken lie behind a place before it
  inside_of : (first : ℕ) {at : ℕ} {row : List Entry} → first ≤ at → Unbroken version a used at row → All (Inside first used) row
  inside_of first h (ends e) = tt
  inside_of first {at} h (goes b s) =
      let g : Bounded (used - at) (entry_at a at) = bounded version (used - at) (entry_at a at) b in
      let e : (entry_at a at).at ≡ at = entry_place a at in
      (record { least = g.least; behind = omega arith; within = omega arith }, inside_of first (omega arith) s)

  -- each entry of an unbroken walk lies between its first place and used_size
  pub walk_inside : (first : ℕ) (row : List Entry) → walk_from version a used first ≡ entries row → All (Inside first used) row
  walk_inside first row h = inside_of first (omega arith) (unbroken first row h)
