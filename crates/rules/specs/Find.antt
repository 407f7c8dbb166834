-- Document 01, "Find", in both forms.
use Rattle.rules.specs.declared.Extent.{Extent}
use Rattle.rules.specs.declared.Facts.{Facts}
use Rattle.rules.specs.declared.Refusal.{Refusal}
use Rattle.std.specs.Prelude.{Err, None, Ok, Option, Result, Some, ℕ, false, cond, List, [], take, drop}
use Rattle.rules.specs.declared.Entry.{Entry}
use Rattle.rules.specs.declared.Refusal.TheVariants as refusal
use Rattle.rules.specs.declared.FindAnswer.{FindAnswer}
use Rattle.rules.specs.Edition.{Edition, current}
use Rattle.rules.specs.Entries.{data_offset, entries_of, occurrence}
use Rattle.rules.specs.Refusals.{number_of, place_of, refuses_tag}
use Rattle.rules.specs.Check.{checks_of}

-- "It answers the data's offset and size"; 13: no such occurrence of the tag
abbrev pub found_at : Option Entry → Result Extent Refusal
found_at (Some e) = Ok (record { offset = data_offset e; size = e.data_size })
found_at None = Err refusal.None

-- a refused check ends the call there
abbrev pub after_check : Result Facts Refusal → Result Extent Refusal → Result Extent Refusal
after_check (Ok f) x = x
after_check (Err r) x = Err r

-- occurrence n of a tag, after checks 1 to 8 and 9, in a list of an edition
unfoldable pub find_of : Edition → List ℕ → ℕ → ℕ → ℕ → Result Extent Refusal
find_of ed a base tag n =
    after_check (checks_of ed false a base) (cond (refuses_tag tag) (Err refusal.Tag) (found_at (occurrence tag n (entries_of a))))

-- the find
abbrev pub find : List ℕ → ℕ → ℕ → ℕ → Result Extent Refusal
find a base tag n = find_of current a base tag n

-- the second form: the data itself; "when refused, or for an entry without data, it hands back the empty part"
abbrev pub part_at : List ℕ → Result Extent Refusal → List ℕ
part_at a (Ok x) = take x.size (drop x.offset a)
part_at a (Err r) = []

unfoldable pub find_data_of : Edition → List ℕ → ℕ → ℕ → ℕ → List ℕ
find_data_of ed a base tag n = part_at a (find_of ed a base tag n)

abbrev pub find_data : List ℕ → ℕ → ℕ → ℕ → List ℕ
find_data a base tag n = find_data_of current a base tag n

-- where that part starts, counted from the start of the area; of a refused find at the start
abbrev pub part_offset : Result Extent Refusal → ℕ
part_offset (Ok x) = x.offset
part_offset (Err r) = 0

-- the answer in numbers, with the place as added by request 8; of one that is not refused it is 0
abbrev pub find_answer : Result Extent Refusal → FindAnswer
find_answer (Ok x) = record { number = 0; offset = x.offset; size = x.size; at = 0 }
find_answer (Err r) = record { number = number_of r; offset = 0; size = 0; at = place_of r }
