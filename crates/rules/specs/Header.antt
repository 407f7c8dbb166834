-- Document 01, "Header and entries": the header's fields and its own numbers.
use Rattle.std.specs.Prelude.{ℕ, ◌%◌, Bool, cond, List, ◌++◌, eqb}
use Rattle.wire.specs.Bytes.{field, le_bytes, splice}
use Rattle.rules.specs.declared.Header.{Header}

-- the header's own numbers: 24 bytes, version 1, alignment 3 when new, smallest entry header 8; and its signature
abbrev pub header_size : ℕ
header_size = 24

abbrev pub current_version : ℕ
current_version = 1

abbrev pub least_alignment : ℕ
least_alignment = 3

abbrev pub entry_header_size : ℕ
entry_header_size = 8

abbrev pub signature : ℕ
signature = 0x4a0fb10b

-- the offsets of the fields that an edit may change
abbrev pub checksum_at : ℕ
checksum_at = 4

abbrev pub alignment_at : ℕ
alignment_at = 7

abbrev pub used_at : ℕ
used_at = 8

abbrev pub total_at : ℕ
total_at = 12

-- the table of fields: offset and number of bytes, little-endian
unfoldable pub header_of : List ℕ → Header
header_of a =
    record {
      signature = field a 0 4;
      checksum = field a checksum_at 1;
      version = field a 5 1;
      hdr_size = field a 6 1;
      alignment = field a alignment_at 1;
      used_size = field a used_at 4;
      total_size = field a total_at 4;
      flags = field a 16 4;
      reserved = field a 20 4;
    }

-- the bytes of a list with another alignment, used_size or total_size
abbrev pub with_alignment : ℕ → List ℕ → List ℕ
with_alignment exponent a = splice a alignment_at (le_bytes 1 exponent)

abbrev pub with_used : ℕ → List ℕ → List ℕ
with_used used a = splice a used_at (le_bytes 4 used)

abbrev pub with_total : ℕ → List ℕ → List ℕ
with_total total a = splice a total_at (le_bytes 4 total)

-- flags, bit 0 is has_checksum
abbrev pub has_checksum : Header → Bool
has_checksum h = eqb (h.flags % 2) 1

-- a header's bytes, field after field
unfoldable pub header_bytes : Header → List ℕ
header_bytes h =
    le_bytes 4 h.signature
    ++ (le_bytes 1 h.checksum
    ++ (le_bytes 1 h.version
    ++ (le_bytes 1 h.hdr_size
    ++ (le_bytes 1 h.alignment
    ++ (le_bytes 4 h.used_size ++ (le_bytes 4 h.total_size ++ (le_bytes 4 h.flags ++ le_bytes 4 h.reserved)))))))

-- the header that create writes, its checksum still 0: has_checksum as asked, other flag bits and reserved 0, used 24
unfoldable pub fresh_header : ℕ → Bool → Header
fresh_header total has =
    record {
      signature = signature;
      checksum = 0;
      version = current_version;
      hdr_size = header_size;
      alignment = least_alignment;
      used_size = header_size;
      total_size = total;
      flags = cond has 1 0;
      reserved = 0;
    }
