-- What a survey answers: the check's answer, with the header and the wanted entry of an accepted list.
use Rattle.rules.specs.declared.Facts.{Facts}
use Rattle.walk.specs.declared.check.Surveyed.{Surveyed}
use Rattle.std.specs.Prelude.{Err, Ok, Option, Result, ℕ, Bool, List}
use Rattle.rules.specs.declared.Header.{Header}
use Rattle.rules.specs.declared.Entry.{Entry}
use Rattle.rules.specs.declared.Refusal.{Refusal}
use Rattle.rules.specs.Header.{header_of}
use Rattle.rules.specs.Edition.{Edition, current}
use Rattle.rules.specs.Entries.{entries_of}
use Rattle.rules.specs.Check.{checks_of}
use Rattle.walk.specs.declared.wanted.Wanted.{Wanted}
use Rattle.walk.specs.Wanted.{wanted_of}

-- of the check's answer
abbrev pub surveyed : Header → Option Entry → Result Facts Refusal → Result Surveyed Refusal
surveyed h o (Ok f) = Ok (record { facts = f; header = h; found = o })
surveyed h o (Err r) = Err r

-- of the bytes of an edition's list at a base: `survey`'s
abbrev pub survey_in : Edition → Bool → List ℕ → ℕ → Wanted → Result Surveyed Refusal
survey_in ed editing a base w = surveyed (header_of a) (wanted_of w (entries_of a)) (checks_of ed editing a base)

-- and of a current one
abbrev pub survey_of : Bool → List ℕ → ℕ → Wanted → Result Surveyed Refusal
survey_of editing a base w = survey_in current editing a base w
