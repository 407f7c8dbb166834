-- Document 01, "Add aligned".
use Rattle.std.specs.Prelude.{ℕ, ◌+◌, ◌-◌, ◌%◌, ◌^◌, max, cond, List, [], ◌++◌, length, replicate, ltb, eqb}
use Rattle.rules.specs.declared.Refusal.TheVariants.{Tag, Shape, Align, Room}
use Rattle.rules.specs.Header.{header_of, entry_header_size, with_alignment}
use Rattle.rules.specs.Entries.{entry_header}
use Rattle.rules.specs.Checksum.{seal}
use Rattle.rules.specs.Refusals.{refuses_tag_add, refuses_align}
use Rattle.rules.specs.Tags.{refuses_shape}
use Rattle.rules.specs.Outcome.{Outcome, refused, done}
use Rattle.rules.specs.Add.{entry_bytes, append, room}

-- "Let p be (base + used + 8) modulo 2^a."
abbrev pub misalignment : List ℕ → ℕ → ℕ → ℕ
misalignment a base exponent = (base + (header_of a).used_size + entry_header_size) % 2 ^ exponent

-- a void written out, its data 0
unfoldable pub void_bytes : ℕ → List ℕ
void_bytes size = entry_header 0 size ++ replicate size 0

-- "If p is not 0, a void of data_size 2^a - p - 8, data 0, is appended first."
unfoldable pub padding_void : ℕ → ℕ → List ℕ
padding_void exponent p = cond (eqb p 0) [] (void_bytes (2 ^ exponent - p - entry_header_size))

-- "Then the entry."
unfoldable pub aligned_bytes : List ℕ → ℕ → ℕ → List ℕ → ℕ → List ℕ
aligned_bytes a base tag content exponent = padding_void exponent (misalignment a base exponent) ++ entry_bytes tag content

-- the offset of the new data
abbrev pub aligned_offset : List ℕ → ℕ → ℕ → ℕ
aligned_offset a base exponent =
    (header_of a).used_size + length (padding_void exponent (misalignment a base exponent)) + entry_header_size

-- "The alignment field becomes the larger of itself and a."
unfoldable pub append_aligned : List ℕ → ℕ → List ℕ → List ℕ
append_aligned a exponent new = with_alignment (max (header_of a).alignment exponent) (append a new)

-- 14: both together exceed total - used; then neither is written
unfoldable pub add_aligned_at_end : List ℕ → ℕ → ℕ → List ℕ → ℕ → Outcome
add_aligned_at_end a base tag content exponent =
    cond (ltb (room a) (length (aligned_bytes a base tag content exponent))) (refused Room)
    (done (aligned_offset a base exponent) (seal (append_aligned a exponent (aligned_bytes a base tag content exponent))))

-- an aligned add to a list that is admitted: 9, 10, 11, then the add; answers the new data's offset
unfoldable pub add_aligned : List ℕ → ℕ → ℕ → List ℕ → ℕ → Outcome
add_aligned a base tag content exponent =
    cond (refuses_tag_add tag) (refused Tag)
    (cond (refuses_shape tag (length content)) (refused Shape)
    (cond (refuses_align exponent) (refused Align) (add_aligned_at_end a base tag content exponent)))
