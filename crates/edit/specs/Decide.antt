-- The plans of the edits, and what both adds come to.
use Rattle.rules.specs.declared.Refusal.{Refusal}
use Rattle.std.specs.Prelude.{Err, None, Ok, Option, Result, Some, ℕ, ◌+◌, ◌-◌, ◌%◌, ◌^◌, max, Bool, cond, List, [], ◌++◌, length, ltb, eqb}
use Rattle.rules.specs.declared.Header.{Header}
use Rattle.rules.specs.declared.Entry.{Entry}
use Rattle.rules.specs.declared.Refusal.TheVariants.{Tag, Shape, Room}
use Rattle.rules.specs.Area.{align8}
use Rattle.rules.specs.Header.{header_of}
use Rattle.rules.specs.Entries.{entries_of, occurrence}
use Rattle.rules.specs.Checksum.{seal}
use Rattle.rules.specs.Refusals.{refuses_tag_add}
use Rattle.rules.specs.Tags.{refuses_shape}
use Rattle.rules.specs.Outcome.{Outcome, refused, done}
use Rattle.rules.specs.Add.{entry_bytes, room, remainder, taken_void, add_at}
use Rattle.rules.specs.Edit.{Edit, to_add, to_add_aligned, to_void, to_relocate, to_tidy, run}
use Rattle.laws.proofs.Patch.{edited}
use Rattle.plan.specs.declared.Plan.{Plan}
use Rattle.plan.specs.Plan.{whole_void, with_checksum}

-- the entry in the place of a void; what is left of the void follows as a void of its own
abbrev pub plan_in_void : Header → Entry → ℕ → ℕ → Plan
plan_in_void h e tag n =
    record {
      value = e.at + 8;
      checksum = 0;
      alignment = h.alignment;
      used_size = h.used_size;
      at = e.at;
      padding = 0;
      tag_id = tag;
      data_size = n;
      zeros = align8 n - n;
      behind = remainder e.data_size n;
    }

-- the entry at used_size, behind a padding void of so many bytes
abbrev pub plan_at_end : Header → ℕ → ℕ → ℕ → ℕ → Plan
plan_at_end h padding alignment tag n =
    record {
      value = h.used_size + padding + 8;
      checksum = 0;
      alignment = alignment;
      used_size = h.used_size + padding + 8 + align8 n;
      at = h.used_size;
      padding = padding;
      tag_id = tag;
      data_size = n;
      zeros = align8 n - n;
      behind = 0;
    }

-- a void in the place of an entry
abbrev pub plan_void : Header → Entry → Plan
plan_void h e =
    record {
      value = e.at;
      checksum = 0;
      alignment = h.alignment;
      used_size = h.used_size;
      at = e.at;
      padding = 0;
      tag_id = 0;
      data_size = align8 e.data_size;
      zeros = align8 e.data_size;
      behind = 0;
    }

-- the bytes of the padding void that brings the data to a multiple of 2^exponent; 0 where none is needed
unfoldable pub padding_for : ℕ → ℕ → ℕ → ℕ
padding_for base used exponent =
    cond (eqb ((base + used + 8) % 2 ^ exponent) 0) 0 (2 ^ exponent - (base + used + 8) % 2 ^ exponent)

-- checks 9 and 10, of an add of n bytes of data
abbrev pub judged_add : ℕ → ℕ → Result Unit Refusal
judged_add tag n = cond (refuses_tag_add tag) (Err Tag) (cond (refuses_shape tag n) (Err Shape) (Ok tt))

-- an entry at used_size behind a padding void, with a new alignment: what both adds come to there
unfoldable pub end_outcome : List ℕ → ℕ → ℕ → ℕ → List ℕ → Outcome
end_outcome a padding alignment tag content =
    cond (ltb (room a) (padding + 8 + align8 (length content))) (refused Room)
    (done ((header_of a).used_size + padding + 8)
    (seal
    (edited a alignment ((header_of a).used_size + padding + 8 + align8 (length content)) (header_of a).used_size
    (whole_void padding ++ entry_bytes tag content))))

-- where an add goes, if voids may be used
abbrev pub add_place : List ℕ → ℕ → List ℕ → Bool → Outcome
add_place a tag content use_voids = add_at a tag content (taken_void use_voids (length content) a)

-- ---- the plan of each edit, its checksum still 0; where the edit is refused, none is asked for

-- of an add: in the void that it takes, else at used_size
abbrev pub add_plan : List ℕ → ℕ → ℕ → Option Entry → Plan
add_plan a tag n (Some e) = plan_in_void (header_of a) e tag n
add_plan a tag n None = plan_at_end (header_of a) 0 (header_of a).alignment tag n

-- of an aligned add
abbrev pub add_aligned_plan : List ℕ → ℕ → ℕ → ℕ → ℕ → Plan
add_aligned_plan a base tag n exponent =
    plan_at_end (header_of a) (padding_for base (header_of a).used_size exponent) (max (header_of a).alignment exponent) tag n

-- of a void: in the place of the entry
abbrev pub void_plan : List ℕ → Option Entry → Plan
void_plan a (Some e) = plan_void (header_of a) e
void_plan a None = plan_at_end (header_of a) 0 0 0 0

-- what an edit that comes to o has decided, with its plan
abbrev pub planned_by : List ℕ → List ℕ → Outcome → Plan → Result Plan Refusal
planned_by a content (refused r) p = Err r
planned_by a content (done value bytes) p = Ok (with_checksum a content p)

-- what both adds have decided at used_size, and an add at its place
abbrev pub planned_at_end : Header → List ℕ → ℕ → ℕ → ℕ → List ℕ → Result Plan Refusal
planned_at_end h a padding alignment tag content =
    planned_by a content (end_outcome a padding alignment tag content) (plan_at_end h padding alignment tag (length content))

abbrev pub planned_place : List ℕ → ℕ → List ℕ → Bool → Result Plan Refusal
planned_place a tag content use_voids =
    planned_by a content (add_place a tag content use_voids) (add_plan a tag (length content) (taken_void use_voids (length content) a))

-- ---- of each edit that is planned; relocate and tidy are not, and nothing is asked of them here

-- its data
abbrev pub content_of : Edit → List ℕ
content_of (to_add tag content use_voids) = content
content_of (to_add_aligned tag content exponent) = content
content_of (to_void tag n) = []
content_of (to_relocate target target_base) = []
content_of to_tidy = []

-- its plan, the checksum still 0
abbrev pub bare_for : Edit → List ℕ → ℕ → Plan
bare_for (to_add tag content use_voids) a base = add_plan a tag (length content) (taken_void use_voids (length content) a)
bare_for (to_add_aligned tag content exponent) a base = add_aligned_plan a base tag (length content) exponent
bare_for (to_void tag n) a base = void_plan a (occurrence tag n (entries_of a))
bare_for (to_relocate target target_base) a base = void_plan a None
bare_for to_tidy a base = void_plan a None

-- and with it
abbrev pub plan_for : Edit → List ℕ → ℕ → Plan
plan_for e a base = with_checksum a (content_of e) (bare_for e a base)

-- and what it has decided
abbrev pub planned_for : Edit → List ℕ → ℕ → Result Plan Refusal
planned_for e a base = planned_by a (content_of e) (run e a base) (bare_for e a base)
