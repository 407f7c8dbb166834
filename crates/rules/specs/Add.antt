-- Document 01, "Add".
use Rattle.std.specs.Prelude.{None, Option, Some, ℕ, ◌+◌, ◌-◌, Bool, true, false, ◌&&◌, cond, List, [], ◌∷◌, ◌++◌, length, replicate, leb, ltb}
use Rattle.wire.specs.Bytes.{splice}
use Rattle.rules.specs.declared.Entry.{Entry}
use Rattle.rules.specs.declared.Refusal.TheVariants.{Tag, Shape, Room}
use Rattle.rules.specs.Area.{align8}
use Rattle.rules.specs.Header.{header_of, entry_header_size, with_used}
use Rattle.rules.specs.Entries.{entry_header, is_void, entries_of}
use Rattle.rules.specs.Checksum.{seal}
use Rattle.rules.specs.Refusals.{refuses_tag_add}
use Rattle.rules.specs.Tags.{refuses_shape}
use Rattle.rules.specs.Outcome.{Outcome, refused, done}

-- the bytes that an entry with n bytes of data covers
abbrev pub entry_span : ℕ → ℕ
entry_span n = align8 (entry_header_size + n)

-- an entry written out: header, data, and "padding bytes are written 0"
unfoldable pub entry_bytes : ℕ → List ℕ → List ℕ
entry_bytes tag content =
    entry_header tag (length content) ++ (content ++ replicate (align8 (length content) - length content) 0)

-- "the first void in list order with data_size v at least n"
unfoldable pub first_fit : ℕ → List Entry → Option Entry
first_fit n [] = None
first_fit n (e ∷ es) = cond (is_void e && leb n e.data_size) (Some e) (first_fit n es)

-- the void taken, if voids may be used
abbrev pub taken_void : Bool → ℕ → List ℕ → Option Entry
taken_void true n a = first_fit n (entries_of a)
taken_void false n a = None

-- what is left of a void's data_size v behind the entry: "When v - align8(n) is 8 or more, a void of data_size
-- v - align8(n) - 8 follows; only its eight header bytes are written."
abbrev pub remainder : ℕ → ℕ → ℕ
remainder v n = v - align8 n

unfoldable pub void_behind : ℕ → ℕ → List ℕ
void_behind v n =
    cond (leb entry_header_size (remainder v n)) (entry_header 0 (remainder v n - entry_header_size)) []

-- the entry in the place of a void
unfoldable pub add_in_void : List ℕ → ℕ → List ℕ → Entry → Outcome
add_in_void a tag content e =
    done (e.at + entry_header_size) (seal (splice a e.at (entry_bytes tag content ++ void_behind e.data_size (length content))))

-- bytes appended at used_size, which grows by as many
unfoldable pub append : List ℕ → List ℕ → List ℕ
append a new = with_used ((header_of a).used_size + length new) (splice a (header_of a).used_size new)

-- what is left between used and total
abbrev pub room : List ℕ → ℕ
room a = (header_of a).total_size - (header_of a).used_size

-- the entry at used_size; 14: no allowed void serves and total - used is under align8(8 + n)
unfoldable pub add_at_end : List ℕ → ℕ → List ℕ → Outcome
add_at_end a tag content =
    cond (ltb (room a) (entry_span (length content))) (refused Room)
    (done ((header_of a).used_size + entry_header_size) (seal (append a (entry_bytes tag content))))

-- the entry in the void taken, or at used_size where none is
abbrev pub add_at : List ℕ → ℕ → List ℕ → Option Entry → Outcome
add_at a tag content (Some e) = add_in_void a tag content e
add_at a tag content None = add_at_end a tag content

-- an add to a list that is admitted: 9, 10, then the add; answers the new data's offset
unfoldable pub add : List ℕ → ℕ → List ℕ → Bool → Outcome
add a tag content use_voids =
    cond (refuses_tag_add tag) (refused Tag)
    (cond (refuses_shape tag (length content)) (refused Shape) (add_at a tag content (taken_void use_voids (length content) a)))
