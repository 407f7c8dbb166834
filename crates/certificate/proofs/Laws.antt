-- What the search for the certificate's tag in an accepted list tells: whether exactly one entry has it, and which.
use Rattle.std.specs.Prelude.{Err, None, Ok, Option, Result, Some, is_some, slice_get}
use Rattle.std.specs.Result.{result_unwrap_or}
use mathlib.Core.Path.{◌≡◌, refl, sym, ap, ◌∙◌}
use Prim.Native.Nat.{ℕ, ◌+◌, ◌≤◌}
use native.Mathlib.Omega.{arith}
use mathlib.Core.Bool.{Bool, true, false, cond, true≢false}
use mathlib.Core.List.{List, [], ◌∷◌}
use lib.ListN.{length}
use Rattle.rules.specs.declared.Entry.{Entry}
use Rattle.rules.specs.declared.certificate.Certificate.{Certificate}
use Rattle.rules.specs.declared.certificate.Gate.{Gate}
use Rattle.rules.specs.declared.certificate.Gate.TheVariants as gate
use Rattle.rules.specs.declared.certificate.Uncertified.{Uncertified}
use Rattle.rules.specs.declared.certificate.Uncertified.TheVariants as uncertified
use Rattle.rules.specs.Header.{header_of}
use Rattle.rules.specs.Edition.{current}
use Rattle.rules.specs.Entries.{data_offset, first_entry, entries_of, occurrence}
use Rattle.rules.specs.Tags.{certificate_tag}
use Rattle.rules.specs.Certificate.{float, is_band, is_ceiling, is_floor, gate_of, tagged, certified_in, certify}
use Rattle.laws.proofs.Check.{Sound, sound, occurs_inside, used-most}
use Rattle.laws.proofs.OneCertificate.{occurrence-tagged, first-none, second_some, only}
use Rattle.certificate.specs.declared.kind.Kind.{Kind}
use Rattle.certificate.specs.declared.kind.Kind.TheVariants as kind
use Rattle.certificate.specs.Kind.{kind_of}
use Rattle.walk.specs.declared.wanted.Wanted.{Wanted}
use Rattle.walk.specs.Wanted.{wanted_of}
use Rattle.walk.specs.declared.check.Surveyed.{Surveyed}
use Rattle.walk.specs.Survey.{survey_of}
use Rattle.walk.proofs.Survey.{occurrence_wanted, Accepts, accepted}

-- ---- the gate of a kind

-- the gate of a certificate of this kind
abbrev gate_by : Certificate → Kind → Gate
gate_by c kind.Band = gate.Band (float c.low) (float c.high)
gate_by c kind.Ceiling = gate.Ceiling (float c.high)
gate_by c kind.Floor = gate.Floor (float c.low)

-- it is the rule's, where an unknown kind r counts as a floor
pub gate-kind : (c : Certificate) (r : Result Kind Uncertified) (k : Kind) → r ≡ kind_of c.kind → k ≡ result_unwrap_or r kind.Floor
    → gate_of c ≡ gate_by c k
unfolding gate_of
gate-kind c r k e f = rw (f, e) (go (is_band c.kind) (is_ceiling c.kind) (is_floor c.kind))
  where
    go : (b l f : Bool)
        → cond b (gate.Band (float c.low) (float c.high)) (cond l (gate.Ceiling (float c.high)) (gate.Floor (float c.low)))
        ≡ gate_by c
        (result_unwrap_or (cond b (Ok kind.Band) (cond l (Ok kind.Ceiling) (cond f (Ok kind.Floor) (Err uncertified.Unsound)))) kind.Floor)
    go true l f = refl
    go false true f = refl
    go false false true = refl
    go false false false = refl

-- ---- what a search for an occurrence of the tag tells

-- the entries of a list that have the tag
abbrev certificates : List ℕ → List Entry
certificates a = tagged certificate_tag (entries_of a)

-- what the code asks the walk for: occurrence n of the tag, with any number of bytes of data
abbrev pub certificate_wanted : ℕ → Wanted
certificate_wanted n = record { tag = certificate_tag; least = 0; n = n }

-- the walk's occurrence n is entry n of those
wanted_place : (a : List ℕ) (n : ℕ) → wanted_of (certificate_wanted n) (entries_of a) ≡ slice_get (certificates a) n
wanted_place a n = sym (occurrence_wanted certificate_tag n (entries_of a)) ∙ occurrence-tagged certificate_tag n (entries_of a)

-- ---- a list whose survey, for occurrence 0 of the tag, is accepted

module _ (a : List ℕ) (base : ℕ) (w : Wanted) (s : Surveyed) (ew : w ≡ certificate_wanted 0) (k : survey_of false a base w ≡ Ok s) where
  told : Accepts false a base w s
  told = accepted false a base w s k

  passed : Sound current a base
  passed = (sound current false a base s.facts told.checked).0

  -- it can be searched again
  pub searchable : (s.header ≡ header_of a) × (first_entry s.header ≤ s.header.used_size) × (s.header.used_size ≤ length a)
  searchable = rw told.header (refl, passed.header.sizes.first, used-most current a base passed)

  -- the entry that the survey found is occurrence 0
  found_place : s.found ≡ slice_get (certificates a) 0
  found_place = told.found ∙ ap (λ (x : Wanted). wanted_of x (entries_of a)) ew ∙ wanted_place a 0

  -- occurrence 0 lies within the area
  pub within : (e : Entry) → s.found ≡ Some e → data_offset e + e.data_size ≤ length a
  within e p =
      let o : occurrence certificate_tag 0 (entries_of a) ≡ Some e = occurrence-tagged certificate_tag 0 (entries_of a) ∙ sym found_place ∙ p in
      let i = occurs_inside current a base passed certificate_tag 0 e o in
      omega (arith, used-most current a base passed)

  module _ (serial test : ℕ) where
    -- the certificates decide
    decided : certify a base serial test ≡ certified_in a serial test (certificates a)
    unfolding certify
    decided = rw told.checked

    pub none-there : s.found ≡ None → certify a base serial test ≡ (Err uncertified.NotOne)
    none-there p = decided ∙ first-none a serial test (certificates a) (sym found_place ∙ p)

    -- the answer o of a second search, for the want v
    module _ (v : Wanted) (o : Option Entry) (ev : v ≡ certificate_wanted 1) (q : o ≡ wanted_of v (entries_of a)) where
      second_place : o ≡ slice_get (certificates a) 1
      second_place = q ∙ ap (λ (x : Wanted). wanted_of x (entries_of a)) ev ∙ wanted_place a 1

      pub second_there : true ≡ is_some o → certify a base serial test ≡ (Err uncertified.NotOne)
      second_there p = go o second_place p
        where
          go : (o : Option Entry) → o ≡ slice_get (certificates a) 1 → true ≡ is_some o → certify a base serial test ≡ (Err uncertified.NotOne)
          go (Some y) e p = decided ∙ second_some a serial test (certificates a) y (sym e)
          go None e p = absurd (true≢false p)

      pub one_there : (e : Entry) → s.found ≡ Some e → false ≡ is_some o → certify a base serial test ≡ certified_in a serial test (e ∷ [])
      one_there e f p = go o second_place p
        where
          go : (o : Option Entry) → o ≡ slice_get (certificates a) 1 → false ≡ is_some o
              → certify a base serial test ≡ certified_in a serial test (e ∷ [])
          go (Some y) k p = absurd (true≢false (sym p))
          go None k p = decided ∙ ap (certified_in a serial test) (only (certificates a) e (sym found_place ∙ f) (sym k))
