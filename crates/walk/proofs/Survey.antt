-- What a survey's answer tells its caller.
use Rattle.std.specs.Prelude.{Err, Ok, Result}
use Rattle.std.proofs.Common.{◌≡◌, ℕ, ◌-◌, Bool, true, leb, List, [], ◌∷◌, refl, arith, le-leb}
use mathlib.Core.Bool.{and-true}
use Rattle.wire.proofs.Apart.{apart}
use Rattle.rules.specs.declared.Entry.{Entry}
use Rattle.rules.specs.declared.Facts.{Facts}
use Rattle.rules.specs.declared.Refusal.{Refusal}
use Rattle.rules.specs.Header.{header_of}
use Rattle.rules.specs.Edition.{Edition, current}
use Rattle.rules.specs.Entries.{entries_of, occurrence}
use Rattle.rules.specs.Check.{checks_of}
use Rattle.rules.specs.Add.{first_fit}
use Rattle.laws.proofs.Check.{sound, AdmittedIn, Admitted}
use Rattle.walk.specs.declared.check.Surveyed.{Surveyed}
use Rattle.walk.specs.declared.wanted.Wanted.{Wanted}
use Rattle.walk.specs.Wanted.{wanted_in, wanted_of}
use Rattle.walk.specs.Survey.{surveyed, survey_in, survey_of}

-- ---- the two searches of the rules are for a wanted entry

-- occurrence n of a tag, with any number of bytes of data
pub occurrence_wanted : (tag n : ℕ) (es : List Entry) → occurrence tag n es ≡ wanted_in tag 0 n es
unfolding occurrence wanted_in
occurrence_wanted tag n [] = refl
occurrence_wanted tag n (e ∷ es) =
    let any : leb 0 e.data_size ≡ true = le-leb 0 e.data_size (omega arith) in
    simp (any, and-true, occurrence_wanted tag n es, occurrence_wanted tag (n - 1) es)

-- the first void with n bytes or more
pub first_fit_wanted : (n : ℕ) (es : List Entry) → first_fit n es ≡ wanted_in 0 n 0 es
unfolding first_fit wanted_in
first_fit_wanted n [] = refl
first_fit_wanted n (e ∷ es) = simp (first_fit_wanted n es)

-- ---- the answers

-- what an accepted survey tells
pub record AcceptsIn (ed : Edition) (editing : Bool) (a : List ℕ) (base : ℕ) (w : Wanted) (s : Surveyed) : Type 0 where
  pub checked : checks_of ed editing a base ≡ Ok s.facts
  pub header : s.header ≡ header_of a
  pub found : s.found ≡ wanted_of w (entries_of a)

module _ (ed : Edition) where
  module _ (editing : Bool) (a : List ℕ) (base : ℕ) (w : Wanted) where
    pub accepted_in : (s : Surveyed) → survey_in ed editing a base w ≡ Ok s → AcceptsIn ed editing a base w s
    accepted_in s k = go (checks_of ed editing a base) refl k
      where
        go : (c : Result Facts Refusal) → checks_of ed editing a base ≡ c → surveyed (header_of a) (wanted_of w (entries_of a)) c ≡ Ok s
            → AcceptsIn ed editing a base w s
        go (Ok g) p q = record { checked = cc; header = cc; found = cc }
        go (Err r) p q = apart cc

    -- and a refused one
    pub refused_in : (r : Refusal) → survey_in ed editing a base w ≡ Err r → checks_of ed editing a base ≡ Err r
    refused_in r k = go (checks_of ed editing a base) k
      where
        go : (c : Result Facts Refusal) → surveyed (header_of a) (wanted_of w (entries_of a)) c ≡ Err r → c ≡ Err r
        go (Ok g) q = apart cc
        go (Err s) q = cc

  -- an accepted survey for an edit admits the list
  pub admitted_in : (a : List ℕ) (base : ℕ) (w : Wanted) (s : Surveyed) → survey_in ed true a base w ≡ Ok s
      → AdmittedIn ed a base s.header
  admitted_in a base w s k =
      let t = accepted_in true a base w s k in
      let z = sound ed true a base s.facts t.checked in
      record { header = t.header; sound = z.0; version = z.1 refl }

-- ---- the same of a current list

abbrev pub Accepts : Bool → List ℕ → ℕ → Wanted → Surveyed → Type 0
Accepts = AcceptsIn current

abbrev pub accepted : (editing : Bool) (a : List ℕ) (base : ℕ) (w : Wanted) (s : Surveyed)
    → survey_of editing a base w ≡ Ok s → Accepts editing a base w s
accepted = accepted_in current

abbrev pub refused : (editing : Bool) (a : List ℕ) (base : ℕ) (w : Wanted) (r : Refusal) → survey_of editing a base w ≡ Err r
    → checks_of current editing a base ≡ Err r
refused = refused_in current

abbrev pub admitted : (a : List ℕ) (base : ℕ) (w : Wanted) (s : Surveyed) → survey_of true a base w ≡ Ok s
    → Admitted a base s.header
admitted = admitted_in current
