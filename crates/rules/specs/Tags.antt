-- Document 01, "What a known tag may carry", as amended by requests 2 and 5: the tag table, which only the two adds use (refusal 10).
use Rattle.std.specs.Prelude.{None, Option, Some, ℕ, Bool, false, ◌||◌, cond, List, [], ◌∷◌, ltb, eqb}
use Rattle.rules.specs.declared.TagRow.{TagRow}

-- a tag that may carry any length
abbrev any : ℕ → TagRow
any tag = record { tag = tag; least = 0; most = None }

-- a tag that carries n bytes or more
abbrev at_least : ℕ → ℕ → TagRow
at_least n tag = record { tag = tag; least = n; most = None }

-- a tag that carries exactly n bytes
abbrev exactly : ℕ → ℕ → TagRow
exactly n tag = record { tag = tag; least = n; most = Some n }

-- the test certificate (request 5): "Tag 0xfff010 carries exactly 56 bytes"
abbrev pub certificate_tag : ℕ
certificate_tag = 0xfff010

abbrev pub certificate_size : ℕ
certificate_size = 56

-- FDT, HOB block, HOB list, ACPI, TPM event log, TPM CRB base; OP-TEE pageable part, SPMC manifest, entry point, memory layout
-- TPM event log as amended by request 2: "Source document 001 puts a 4-byte flags word ahead of the log and counts it in data_size. So
-- a length under 4 is SHAPE from now on; 4 is accepted. Both adds read the new row."
-- Test certificate as added by request 5: "Adds of this tag with another length are SHAPE."
unfoldable pub tag_table : List TagRow
tag_table =
    any 1
    ∷ any 2
    ∷ any 3
    ∷ any 4
    ∷ at_least 4 5
    ∷ exactly 12 6
    ∷ exactly 8 0x100
    ∷ any 0x101
    ∷ any 0x102
    ∷ exactly 16 0x104
    ∷ exactly certificate_size certificate_tag
    ∷ []

-- a length is over the greatest, where there is one
abbrev pub exceeds : ℕ → Option ℕ → Bool
exceeds n None = false
exceeds n (Some most) = ltb most n

-- a length is not one that the row allows
abbrev pub breaks : TagRow → ℕ → Bool
breaks r n = ltb n r.least || exceeds n r.most

-- "A tag not listed may carry any length."
unfoldable pub breaks_table : List TagRow → ℕ → ℕ → Bool
breaks_table [] tag n = false
breaks_table (r ∷ rs) tag n = cond (eqb r.tag tag) (breaks r n) (breaks_table rs tag n)

-- 10: an add's data length breaks the tag table
abbrev pub refuses_shape : ℕ → ℕ → Bool
refuses_shape tag n = breaks_table tag_table tag n
