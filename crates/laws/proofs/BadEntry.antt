-- Request 8: the place of a walk that is refused is that of the first bad entry.
use Rattle.std.specs.Prelude.{Err, None, Option, Result, Some}
use Rattle.wire.proofs.Apart.{apart}
use Rattle.rules.specs.declared.Facts.{Facts}
use mathlib.Core.Path.{◌≡◌, refl, sym, ap, ◌∙◌}
use Prim.Native.Nat.{ℕ, zero, suc, ◌-◌, ◌%◌, ◌≤◌, ◌<◌}
use native.Mathlib.Omega.{arith}
use mathlib.Core.Bool.{Bool, true, false}
use mathlib.Core.List.{List}
use lib.ListN.{length}
use lib.Dec.{eqb}
use borrow.Author.Tests.{eqb-true, eqb-false}
use Rattle.rules.specs.declared.Entry.{Entry}
use Rattle.rules.specs.declared.Header.{Header}
use Rattle.rules.specs.declared.Refusal.{Refusal}
use Rattle.rules.specs.declared.Refusal.TheVariants as refusal
use Rattle.rules.specs.Header.{header_of}
use Rattle.rules.specs.Edition.{Edition}
use Rattle.rules.specs.Entries.{Walk, entries, broken, follow, entry_at, bad_entry, first_entry, walk_from, walk}
use Rattle.rules.specs.Refusals.{
  number_of,
  refuses_area,
  refuses_short,
  refuses_signature,
  refuses_version,
  refuses_readonly,
  refuses_sizes,
  refuses_checksum,
}
use Rattle.rules.specs.Check.{walked, fields_refusal, header_refusal, unless, checks_of}
use Rattle.rules.specs.BadEntry.{FirstBad, here, later, BadAt, Within, SaysWhere}
use Rattle.laws.proofs.Walk.{next, Bounded, bounded, header-least, walk_end, walk-broken, walk-next}
use Rattle.laws.proofs.Check.{past, header-sound}

-- ---- the walk

module _ (version : ℕ) (a : List ℕ) (used at : ℕ) where
  -- no walk is broken at used_size
  not_ended : {from : ℕ} → from ≡ used → walk_from version a used from ≡ broken at → ⊥
  not_ended e k = let w = sym (ap (walk_from version a used) e ∙ walk_end version a used) ∙ k in (apart cc)

  -- behind an entry, the rest is what is broken
  follow-broken : (e : Entry) (w : Walk) → follow e w ≡ broken at → w ≡ broken at
  follow-broken e (entries es) k = apart cc
  follow-broken e (broken x) k = k

  -- a walk that is broken is broken at its first bad entry; n counts down
  broken-first : (n from : ℕ) → from ≤ used → used - from ≤ n → walk_from version a used from ≡ broken at → FirstBad version a used at from
  broken-first zero from h e k = absurd (not_ended (omega arith) k)
  broken-first (suc n) from h e k = go (eqb from used) (bad_entry version (used - from) (entry_at a from)) refl refl (broken-first n (next a from))
    where
      go : (b c : Bool) → eqb from used ≡ b → bad_entry version (used - from) (entry_at a from) ≡ c
          → (next a from ≤ used → used - next a from ≤ n → walk_from version a used (next a from) ≡ broken at → FirstBad version a used at (next a from))
          → FirstBad version a used at from
      go true c p q rest = absurd (not_ended (eqb-true from used p) k)
      go false true p q rest =
          let l : from < used = omega (arith, eqb-false from used p) in
          let w = sym (walk-broken version a used from l q) ∙ k in
          let s : from ≡ at = cc in
          here s l q
      go false false p q rest =
          let l : from < used = omega (arith, eqb-false from used p) in
          let g : Bounded (used - from) (entry_at a from) = bounded version (used - from) (entry_at a from) q in
          later l q (rest (omega arith) (omega arith) (follow-broken _ _ (sym (walk-next version a used from l q) ∙ k)))

  -- and where the first bad entry is, the walk is broken
  first-broken : {from : ℕ} → FirstBad version a used at from → walk_from version a used from ≡ broken at
  first-broken {from} (here e h b) = walk-broken version a used from h b ∙ ap broken e
  first-broken {from} (later h b f) = walk-next version a used from h b ∙ ap (follow (entry_at a from)) (first-broken f)

  -- it stands at a multiple of 8, as every entry does, from the first place on and before used_size
  first_at : {from : ℕ} → from % 8 ≡ 0 → FirstBad version a used at from → (at % 8 ≡ 0) × (from ≤ at) × (at < used)
  first_at h (here e l b) = (omega arith, omega arith, omega arith)
  first_at h (later l b f) = let r = first_at (omega arith) f in (r.0, omega arith, r.2)

-- ---- the check

-- a refusal of a lower number is not 8
lower : (at : ℕ) (r : Refusal) → number_of r < 8 → Some r ≡ Some (refusal.Entry at) → ⊥
lower at r l e = let q : r ≡ refusal.Entry at = cc in let n = ap number_of q in omega arith

-- checks 1 to 6 refuse no entry
header_entry : (ed : Edition) (editing : Bool) (base len : ℕ) (h : Header) (at : ℕ)
    → header_refusal ed editing base len h ≡ Some (refusal.Entry at) → ⊥
unfolding header_refusal fields_refusal
header_entry ed editing base len h at k =
    let p₁ = past (refuses_area base len) _ _ _ (lower at refusal.Area (omega arith)) k in
    let p₂ = past (refuses_short ed len) _ _ _ (lower at refusal.Short (omega arith)) p₁.1 in
    let p₃ = past (refuses_signature ed h) _ _ _ (lower at refusal.Signature (omega arith)) p₂.1 in
    let p₄ = past (refuses_version h) _ _ _ (lower at refusal.Version (omega arith)) p₃.1 in
    let p₅ = past (refuses_readonly editing h) _ _ _ (lower at refusal.Readonly (omega arith)) p₄.1 in
    let p₆ = past (refuses_sizes ed h len) _ _ _ (lower at refusal.Sizes (omega arith)) p₅.1 in
    let q = p₆.1 in
    let z : ◌≡◌ {A = ℕ} 0 1 = cc in
    omega arith

-- so refusal 8 comes behind them
behind-header : (o : Option Refusal) (x : Result Facts Refusal) (at : ℕ) → (o ≡ Some (refusal.Entry at) → ⊥) → unless o x ≡ Err (refusal.Entry at)
    → (o ≡ None) × (x ≡ Err (refusal.Entry at))
behind-header (Some r) x at n k = absurd (let q : r ≡ refusal.Entry at = cc in n (ap Some q))
behind-header None x at n k = (refl, k)

-- and is that of a broken walk
refused-walk : (h : Header) (w : Walk) (at : ℕ) → walked h w ≡ Err (refusal.Entry at) → w ≡ broken at
refused-walk h (entries es) at k = apart cc
refused-walk h (broken x) at k = let q : x ≡ at = cc in ap broken q

module _ (ed : Edition) (editing : Bool) (a : List ℕ) (base at : ℕ) where
  -- a list that is refused with 8 passed 1 to 7, and its walk is broken there
  bad_at : checks_of ed editing a base ≡ Err (refusal.Entry at) → BadAt ed editing a base at
  unfolding checks_of walk
  bad_at k =
      let h : Header = header_of a in
      let p = behind-header (header_refusal ed editing base (length a) h) _ at (header_entry ed editing base (length a) h at) k in
      let q = past (refuses_checksum ed a) _ _ _ (λ e. (apart cc)) p.1 in
      let z = (header-sound ed editing base (length a) h p.0).0.sizes in
      let w = refused-walk h (walk a) at q.1 in
      record {
        header = p.0;
        checksum = q.0;
        first = broken-first h.version a h.used_size at (h.used_size - first_entry h) (first_entry h) z.first (omega arith) w;
      }

  -- where the first bad entry is in a list whose header is sound
  within : BadAt ed editing a base at → Within ed a at
  within b =
      let h : Header = header_of a in
      let z = (header-sound ed editing base (length a) h b.header).0.sizes in
      let p = first_at h.version a h.used_size at (omega arith) b.first in
      let l : ed.header_size ≤ h.hdr_size = header-least h.version ed.header_size _ z.header in
      record {
        header = omega arith;
        behind = p.1;
        inside = omega (arith, z.used8);
        used = omega (arith, z.used, z.total);
      }

  pub says_where : SaysWhere ed editing a base at
  unfolding checks_of walk
  says_where = record { only = bad_at; always = λ b. simp (b.header, b.checksum, first-broken _ _ _ _ b.first); within = within }
