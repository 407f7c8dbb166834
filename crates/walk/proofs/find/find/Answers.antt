-- What the survey refuses is refused; in an accepted list it remembers the rule's occurrence, whose data lies before used_size.
use Rattle.std.specs.Prelude.{Err, Ok, Option, Result, Some}
use Rattle.std.proofs.Common.{◌≡◌, ℕ, ◌≤◌, false, cond, List, sym, refl, ◌∙◌, arith}
use Rattle.rules.specs.declared.Entry.{Entry}
use Rattle.rules.specs.declared.Extent.{Extent}
use Rattle.rules.specs.declared.Facts.{Facts}
use Rattle.rules.specs.declared.Refusal.{Refusal}
use Rattle.rules.specs.declared.Refusal.TheVariants as refusal
use Rattle.rules.specs.Area.{max_length}
use Rattle.rules.specs.Header.{header_of}
use Rattle.rules.specs.Edition.{Edition}
use Rattle.rules.specs.Entries.{data_offset, entries_of}
use Rattle.rules.specs.Refusals.{refuses_tag}
use Rattle.rules.specs.Check.{checks_of}
use Rattle.rules.specs.Find.{found_at, after_check, find_of}
use Rattle.laws.proofs.Exits.{passed_up, ok_or-err, ok_or-ok}
use Rattle.laws.proofs.Check.{sound, find-within}
use Rattle.walk.specs.declared.check.Surveyed.{Surveyed}
use Rattle.walk.specs.Wanted.{wanted_in}
use Rattle.walk.specs.Survey.{surveyed, survey_in}
use Rattle.walk.proofs.Survey.{occurrence_wanted, accepted_in}
use Rattle.walk.proofs.find.find.Goals as goal

-- what find makes of a survey
abbrev answered : ℕ → Result Surveyed Refusal → Result Extent Refusal
answered tag (Ok s) = cond (refuses_tag tag) (Err refusal.Tag) (found_at s.found)
answered tag (Err r) = Err r

module _ (ed : Edition) (a : List ℕ) (base tag n : ℕ) (r : Result Surveyed Refusal)
    (k : r ≡ survey_in ed false a base (record { tag = tag; least = 0; n = n })) where
  -- and that it is the rule
  find-survey : find_of ed a base tag n ≡ answered tag r
  unfolding find_of
  find-survey = rw (k, occurrence_wanted) (go (checks_of ed false a base) (wanted_in tag 0 n (entries_of a)))
    where
      go : (c : Result Facts Refusal) (o : Option Entry)
          → after_check c (cond (refuses_tag tag) (Err refusal.Tag) (found_at o)) ≡ answered tag (surveyed (header_of a) o c)
      go (Ok f) o = refl
      go (Err r) o = refl

  -- the entry that is found in an accepted list ends within the area
  near : (s : Surveyed) (e : Entry) → r ≡ Ok s → refuses_tag tag ≡ false → s.found ≡ Some e → data_offset e ≤ max_length
  near s e p q f =
      let t = accepted_in ed false a base _ s (sym k ∙ p) in
      let u = (sound ed false a base s.facts t.checked).0.header.usable in
      let w = find-within ed a base tag n (record { offset = data_offset e; size = e.data_size }) (find-survey ∙ simp (p, q, f)) in
      omega arith

pub returns-in_err-survey : goal.returns-in_err-survey
returns-in_err-survey c =
    rw (find-survey _ _ _ _ _ _ c.survey.ensures, passed_up c.from_residual.ensures.1, c.in_err-survey.was)

pub returns-then-refuses_tag : goal.returns-then-refuses_tag
returns-then-refuses_tag c =
    simp (find-survey _ _ _ _ _ _ c.survey.ensures, c.in_ok-survey.was, ← c.refuses_tag.ensures, c.if-refuses_tag.true)

pub returns-in_err-e : goal.returns-in_err-e
returns-in_err-e c =
    let k = ok_or-err _ _ _ (sym c.ok_or.ensures.value ∙ c.in_err-e.was) in
    simp (
      find-survey _ _ _ _ _ _ c.survey.ensures,
      c.in_ok-survey.was,
      ← c.refuses_tag.ensures,
      c.if-refuses_tag.false,
      passed_up c.from_residual-in_err-e.ensures.1,
      k.1,
      k.0,
    )

pub overflow_add-result : goal.overflow_add-result
overflow_add-result c =
    let f : c.in_ok-survey.survey.found ≡ Some c.in_ok-e.e = ok_or-ok _ _ _ (sym c.ok_or.ensures.value ∙ c.in_ok-e.was) in
    omega (arith, near _ _ _ _ _ _ c.survey.ensures _ _ c.in_ok-survey.was (sym c.refuses_tag.ensures ∙ c.if-refuses_tag.false) f)

pub overflow_cast-result-2 : goal.overflow_cast-result-2
overflow_cast-result-2 c =
    let f : c.in_ok-survey.survey.found ≡ Some c.in_ok-e.e = ok_or-ok _ _ _ (sym c.ok_or.ensures.value ∙ c.in_ok-e.was) in
    omega (arith, near _ _ _ _ _ _ c.survey.ensures _ _ c.in_ok-survey.was (sym c.refuses_tag.ensures ∙ c.if-refuses_tag.false) f)

pub returns : goal.returns
returns c =
    let f : c.in_ok-survey.survey.found ≡ Some c.in_ok-e.e = ok_or-ok _ _ _ (sym c.ok_or.ensures.value ∙ c.in_ok-e.was) in
    simp (find-survey _ _ _ _ _ _ c.survey.ensures, c.in_ok-survey.was, ← c.refuses_tag.ensures, c.if-refuses_tag.false, f)
