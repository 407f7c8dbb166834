-- What a step of the cursor tells of the walk, and what an entry adds to the counts and to the memory.
use Rattle.std.specs.Prelude.{Err, None, Ok, Option, Result, Some}
use Rattle.rules.specs.declared.Refusal.{Refusal}
use Rattle.walk.specs.declared.cursor.Counts.{Counts}
use Rattle.std.proofs.Common.{
  ◌≡◌,
  ℕ,
  ◌+◌,
  ◌-◌,
  ◌<◌,
  ◌≤◌,
  Bool,
  true,
  false,
  cond,
  eqb,
  List,
  [],
  ◌∷◌,
  refl,
  subst,
  add-zero,
  zero-add,
  arith,
  eq-eqb,
  ne_eqb,
  eqb-true,
}
use borrow.Author.Tests.{eqb-false}
use Rattle.rules.specs.declared.Entry.{Entry}
use Rattle.rules.specs.Entries.{
  Walk,
  entries,
  broken,
  follow,
  entry_at,
  span,
  bad_entry,
  walk_from,
  live_count,
  void_count,
}
use Rattle.laws.proofs.Walk.{Bounded, bounded, walk_end, walk-next, walk-broken}
use Rattle.rules.specs.declared.Refusal.TheVariants as refusal
use Rattle.walk.specs.declared.cursor.Cursor.{Cursor}
use Rattle.walk.specs.declared.wanted.Wanted.{Wanted}
use Rattle.walk.specs.declared.wanted.Memory.{Memory}
use Rattle.walk.specs.Cursor.{stepped, step_at}
use Rattle.walk.specs.Wanted.{wants, wanted_in, told, forgetful, remembered}

-- ---- the walk

module _ (version : ℕ) (a : List ℕ) (used at : ℕ) where
  -- what a step tells: the walk ends, or is broken here, or goes on behind an entry of eight bytes or more
  abbrev pub Tells : Result (Option (Entry × Cursor)) Refusal → Type 0
  Tells (Ok None) = walk_from version a used at ≡ entries []
  Tells (Err r) = (walk_from version a used at ≡ broken at) × (r ≡ refusal.Entry at)
  Tells (Ok (Some (e, d))) =
      (at + 8 ≤ d.at) × (d.at ≤ used) × (walk_from version a used at ≡ follow e (walk_from version a used d.at))

  -- each step tells the walk
  pub step_tells : (x : Result (Option (Entry × Cursor)) Refusal) → at ≤ used → step_at version a used at ≡ x → Tells x
  unfolding step_at entry_at
  step_tells x h k = subst Tells k (go (eqb at used) (bad_entry version (used - at) (entry_at a at)) refl refl)
    where
      go : (s b : Bool) → eqb at used ≡ s → bad_entry version (used - at) (entry_at a at) ≡ b
          → Tells (cond s (Ok None) (stepped at (entry_at a at) (cond b None (Some (record { at = at + span (entry_at a at) })))))
      go true b p q = let e : at ≡ used = eqb-true at used p in rw e (walk_end version a used)
      go false true p q =
          let n = eqb-false at used p in
          let l : at < used = omega (arith, n) in
          (walk-broken version a used at l q, refl)
      go false false p q =
          let n = eqb-false at used p in
          let l : at < used = omega (arith, n) in
          let g : Bounded (used - at) (entry_at a at) = bounded version (used - at) (entry_at a at) q in
          (omega arith, omega arith, walk-next version a used at l q)

-- ---- counting and remembering

-- what was found before, or what the rest has
abbrev or_else : Option Entry → Option Entry → Option Entry
or_else (Some e) x = Some e
or_else None x = x

abbrev recalled : Wanted → Memory → List Entry → Option Entry
recalled w m es = or_else m.found (wanted_in w.tag w.least m.left es)

-- what a walk tells behind entries that were counted and remembered
unfoldable pub told_from : Wanted → ℕ → ℕ → Memory → Walk → Result Counts Refusal
told_from w live voids m (entries es) = Ok (record { live = live + live_count es; voids = voids + void_count es; found = recalled w m es })
told_from w live voids m (broken at) = Err (refusal.Entry at)

-- before the first entry that is all that it tells
pub told-first : (w : Wanted) (x : Walk) → told_from w 0 0 (forgetful w) x ≡ told w x
unfolding told_from
told-first w (entries es) = simp zero-add
told-first w (broken at) = refl

module _ (w : Wanted) (live voids : ℕ) (m : Memory) where
  -- behind the last entry nothing is added
  pub told-last : told_from w live voids m (entries []) ≡ Ok (record { live = live; voids = voids; found = m.found })
  unfolding told_from live_count void_count wanted_in
  told-last = go m.found refl
    where
      go : (x : Option Entry) → m.found ≡ x → told_from w live voids m (entries []) ≡ Ok (record { live = live; voids = voids; found = x })
      go (Some e) p = simp (p, add-zero)
      go None p = simp (p, add-zero)

  module _ (e : Entry) where
    -- an entry is remembered as the wanted one is searched
    recalls : (es : List Entry) → recalled w m (e ∷ es) ≡ recalled w (remembered w e m) es
    unfolding wanted_in
    recalls es = go (wants w.tag w.least e) (eqb m.left 0) m.found refl refl refl
      where
        go : (k z : Bool) (x : Option Entry) → wants w.tag w.least e ≡ k → eqb m.left 0 ≡ z → m.found ≡ x
            → recalled w m (e ∷ es) ≡ recalled w (remembered w e m) es
        go true true None p q r = simp (p, q, r)
        go true false None p q r = simp (p, q, r)
        go true z (Some y) p q r = simp (p, r)
        go false z x p q r = simp p

    -- a void counts among the voids
    pub told-void : (x : Walk) → e.tag_id ≡ 0 → told_from w live voids m (follow e x) ≡ told_from w live (voids + 1) (remembered w e m) x
    unfolding told_from live_count void_count
    told-void (entries es) h =
        let n : voids + (1 + void_count es) ≡ voids + 1 + void_count es = omega arith in
        rw (recalls es) (simp (eq-eqb _ _ h, n))
    told-void (broken at) h = refl

    -- every other entry among the live ones
    pub told-live : (x : Walk) → (e.tag_id ≡ 0 → ⊥)
        → told_from w live voids m (follow e x) ≡ told_from w (live + 1) voids (remembered w e m) x
    unfolding told_from live_count void_count
    told-live (entries es) h =
        let n : live + (1 + live_count es) ≡ live + 1 + live_count es = omega arith in
        rw (recalls es) (simp (ne_eqb _ _ h, n))
    told-live (broken at) h = refl
