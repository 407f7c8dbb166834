-- Document 01, "When a call is turned away" and "Check": checks 1 to 8 in the order of their numbers, and what a check answers.
use Rattle.rules.specs.declared.Facts.{Facts}
use Rattle.std.specs.Prelude.{Err, None, Ok, Option, Result, Some, ℕ, Bool, true, false, cond, List, length}
use Rattle.rules.specs.declared.Header.{Header}
use Rattle.rules.specs.declared.Refusal.{Refusal}
use Rattle.rules.specs.declared.Refusal.TheVariants.{Area, Short, Signature, Version, Readonly, Sizes, Checksum, Entry}
use Rattle.rules.specs.declared.CheckAnswer.{CheckAnswer}
use Rattle.rules.specs.Header.{header_of}
use Rattle.rules.specs.Edition.{Edition, current}
use Rattle.rules.specs.Entries.{Walk, entries, broken, walk, live_count, void_count}
use Rattle.rules.specs.Refusals.{
  number_of,
  place_of,
  refuses_area,
  refuses_short,
  refuses_signature,
  refuses_version,
  refuses_readonly,
  refuses_sizes,
  refuses_checksum,
}

-- 8, and the answer: "version, used, total, alignment, and the numbers of live and void entries"
abbrev pub walked : Header → Walk → Result Facts Refusal
walked h (entries es) =
    Ok
    (record {
      version = h.version;
      used = h.used_size;
      total = h.total_size;
      alignment = h.alignment;
      live = live_count es;
      voids = void_count es;
    })
walked h (broken at) = Err (Entry at)

-- 3 to 6, by the header's fields and L; 5 only where it applies: editing says whether the call is one of those that 5 names
unfoldable pub fields_refusal : Edition → Bool → ℕ → Header → Option Refusal
fields_refusal ed editing len h =
    cond (refuses_signature ed h) (Some Signature)
    (cond (refuses_version h) (Some Version)
    (cond (refuses_readonly editing h) (Some Readonly)
    (cond (refuses_sizes ed h len) (Some Sizes) None)))

-- 1 to 6, by the base, L and the header's fields
unfoldable pub header_refusal : Edition → Bool → ℕ → ℕ → Header → Option Refusal
header_refusal ed editing base len h =
    cond (refuses_area base len) (Some Area) (cond (refuses_short ed len) (Some Short) (fields_refusal ed editing len h))

-- "A refused check ends the call there."
abbrev pub unless : Option Refusal → Result Facts Refusal → Result Facts Refusal
unless (Some r) x = Err r
unless None x = x

-- checks 1 to 8 on the given list, by its edition
unfoldable pub checks_of : Edition → Bool → List ℕ → ℕ → Result Facts Refusal
checks_of ed editing a base =
    unless (header_refusal ed editing base (length a) (header_of a))
    (cond (refuses_checksum ed a) (Err Checksum) (walked (header_of a) (walk a)))

-- the check
abbrev pub check : List ℕ → ℕ → Result Facts Refusal
check a base = checks_of current false a base

-- the admission of a current list to an edit
abbrev pub admit : List ℕ → ℕ → Result Facts Refusal
admit a base = checks_of current true a base

-- the answer in numbers: "A refusal answers its number with every other number in the answer 0"; as amended by request 8, "for refusal 8
-- only", but for the place
abbrev pub check_answer : Result Facts Refusal → CheckAnswer
check_answer (Ok f) =
    record {
      number = 0;
      version = f.version;
      used = f.used;
      total = f.total;
      alignment = f.alignment;
      live = f.live;
      voids = f.voids;
      at = 0;
    }
check_answer (Err r) =
    record {
      number = number_of r;
      version = 0;
      used = 0;
      total = 0;
      alignment = 0;
      live = 0;
      voids = 0;
      at = place_of r;
    }
