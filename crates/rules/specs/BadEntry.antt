-- Document 02, request 8: "Say where the bad entry is". The place in an answer is `place_of` of its refusal (Refusals), and every answer in
-- numbers has it as `at`. Here is what holds of it: which entry it is, said without the walk; that each call's 8 is its check's; that there is
-- no place elsewhere.
use Rattle.rules.specs.declared.Extent.{Extent}
use Rattle.rules.specs.declared.Facts.{Facts}
use Rattle.rules.specs.declared.Refusal.{Refusal}
use Rattle.rules.specs.declared.certificate.Uncertified.{Uncertified}
use Rattle.rules.specs.declared.certificate.Verdict.{Verdict}
use Rattle.std.specs.Prelude.{Err, None, Result, ◌≡◌, ℕ, ◌+◌, ◌-◌, ◌≤◌, ◌<◌, Bool, true, false, List, length}
use Rattle.rules.specs.declared.Refusal.TheVariants.{Entry}
use Rattle.rules.specs.declared.CheckAnswer.{CheckAnswer}
use Rattle.rules.specs.declared.FindAnswer.{FindAnswer}
use Rattle.rules.specs.declared.DoneAnswer.{DoneAnswer}
use Rattle.rules.specs.declared.certificate.CertifiedAnswer.{CertifiedAnswer}
use Rattle.rules.specs.Header.{header_of, entry_header_size}
use Rattle.rules.specs.Entries.{entry_at, span, bad_entry, first_entry}
use Rattle.rules.specs.Edition.{Edition}
use Rattle.rules.specs.Refusals.{refuses_checksum}
use Rattle.rules.specs.Check.{header_refusal, checks_of, check, admit, check_answer}
use Rattle.rules.specs.Find.{find, find_answer}
use Rattle.rules.specs.Outcome.{answer, done_answer}
use Rattle.rules.specs.Edit.{Edit, run}
use Rattle.rules.specs.Edition09.{check09, find09, admit09, convert}
use Rattle.rules.specs.Certificate.{certify, certified_answer, refused_answer}

-- ---- which entry it is

-- "the first entry that breaks a rule": in list order from a place on, every entry before `at` keeps the rules, by the list's own version,
-- and the one at `at` breaks one
pub data FirstBad (version : ℕ) (a : List ℕ) (used at : ℕ) : ℕ → Type 0 where
  here : {from : ℕ} → from ≡ at → from < used → bad_entry version (used - from) (entry_at a from) ≡ true → FirstBad version a used at from
  later : {from : ℕ} → from < used → bad_entry version (used - from) (entry_at a from) ≡ false
      → FirstBad version a used at (from + span (entry_at a from)) → FirstBad version a used at from

-- of the list a: in the whole of it
abbrev pub IsFirstBad : List ℕ → ℕ → Type 0
IsFirstBad a at = FirstBad (header_of a).version a (header_of a).used_size at (first_entry (header_of a))

-- 1 to 7 do not refuse a list of an edition, and its first bad entry is at `at`
pub record BadAt (ed : Edition) (editing : Bool) (a : List ℕ) (base at : ℕ) : Type 0 where
  pub header : header_refusal ed editing base (length a) (header_of a) ≡ None
  pub checksum : refuses_checksum ed a ≡ false
  pub first : IsFirstBad a at

-- where such a place is: behind the list's whole header, which is no shorter than the edition's, so never 0; and the eight bytes from there
-- on, the first of the entry's header, which hold its fields, are used ones and in the area
pub record Within (ed : Edition) (a : List ℕ) (at : ℕ) : Type 0 where
  pub header : ed.header_size ≤ first_entry (header_of a)
  pub behind : first_entry (header_of a) ≤ at
  pub inside : at + entry_header_size ≤ (header_of a).used_size
  pub used : (header_of a).used_size ≤ length a

-- "The walk's refusal is to carry the offset": a list of an edition is refused with 8 at a place exactly when 1 to 7 do not refuse it and its
-- first bad entry is there
pub record SaysWhere (ed : Edition) (editing : Bool) (a : List ℕ) (base at : ℕ) : Type 0 where
  pub only : checks_of ed editing a base ≡ Err (Entry at) → BadAt ed editing a base at
  pub always : BadAt ed editing a base at → checks_of ed editing a base ≡ Err (Entry at)
  pub within : BadAt ed editing a base at → Within ed a at

-- ---- "every call that makes the check passes it up, but for the part forms"

-- refusal 8 in each answer: the number, the place, and every other number 0
abbrev pub checked_bad_at : ℕ → CheckAnswer
checked_bad_at at = record { number = 8; version = 0; used = 0; total = 0; alignment = 0; live = 0; voids = 0; at = at }

abbrev pub found_bad_at : ℕ → FindAnswer
found_bad_at at = record { number = 8; offset = 0; size = 0; at = at }

abbrev pub done_bad_at : ℕ → DoneAnswer
done_bad_at at = record { number = 8; value = 0; at = at }

-- of a current list: check, find and the certificate by the check; each edit by its admission, where a later version is 5 before
pub record PassedUp (a : List ℕ) (base at : ℕ) : Type 0 where
  pub checked : check a base ≡ Err (Entry at) → check_answer (check a base) ≡ checked_bad_at at
  pub found : check a base ≡ Err (Entry at) → (tag n : ℕ) → find_answer (find a base tag n) ≡ found_bad_at at
  pub certified : check a base ≡ Err (Entry at) → (serial test : ℕ) → certified_answer (certify a base serial test) ≡ refused_answer 8 at
  pub edited : admit a base ≡ Err (Entry at) → (e : Edit) → done_answer (answer (run e a base)) ≡ done_bad_at at

-- of a list of edition 0.9: check and find by the check, the conversion by its admission
pub record PassedUp09 (a : List ℕ) (base at : ℕ) : Type 0 where
  pub checked : check09 a base ≡ Err (Entry at) → check_answer (check09 a base) ≡ checked_bad_at at
  pub found : check09 a base ≡ Err (Entry at) → (tag n : ℕ) → find_answer (find09 a base tag n) ≡ found_bad_at at
  pub converted : admit09 a base ≡ Err (Entry at) → (target : List ℕ) (target_base : ℕ)
      → done_answer (answer (convert a base target target_base)) ≡ done_bad_at at

-- and the other way round: a call that answers 8 has it from its check, with the place that it answers
abbrev pub EightFrom : Result Facts Refusal → ℕ → ℕ → Type 0
EightFrom x number at = number ≡ 8 → x ≡ Err (Entry at)

pub record OnlyPassedUp (a : List ℕ) (base : ℕ) : Type 0 where
  pub checked : let r : CheckAnswer = check_answer (check a base) in EightFrom (check a base) r.number r.at
  pub found : (tag n : ℕ) → let r : FindAnswer = find_answer (find a base tag n) in EightFrom (check a base) r.number r.at
  pub certified : (serial test : ℕ)
      → let r : CertifiedAnswer = certified_answer (certify a base serial test) in EightFrom (check a base) r.number r.at
  pub edited : (e : Edit) → let r : DoneAnswer = done_answer (answer (run e a base)) in EightFrom (admit a base) r.number r.at

pub record OnlyPassedUp09 (a : List ℕ) (base : ℕ) : Type 0 where
  pub checked : let r : CheckAnswer = check_answer (check09 a base) in EightFrom (check09 a base) r.number r.at
  pub found : (tag n : ℕ) → let r : FindAnswer = find_answer (find09 a base tag n) in EightFrom (check09 a base) r.number r.at
  pub converted : (target : List ℕ) (target_base : ℕ)
      → let r : DoneAnswer = done_answer (answer (convert a base target target_base)) in EightFrom (admit09 a base) r.number r.at

-- ---- "Other refusals answer 0 there"

-- whatever is answered: where the number is not 8, refused or not, the place is 0
pub record ZeroElsewhere : Type 0 where
  pub checked : (x : Result Facts Refusal) → ((check_answer x).number ≡ 8 → ⊥) → (check_answer x).at ≡ 0
  pub found : (x : Result Extent Refusal) → ((find_answer x).number ≡ 8 → ⊥) → (find_answer x).at ≡ 0
  pub done : (x : Result ℕ Refusal) → ((done_answer x).number ≡ 8 → ⊥) → (done_answer x).at ≡ 0
  pub certified : (x : Result Verdict Uncertified) → ((certified_answer x).number ≡ 8 → ⊥) → (certified_answer x).at ≡ 0
