-- Document 02, request 6, up to "structure offset and size of 4": numbers, the header, and last the reservation block, of which the first
-- sentence speaks. A place is an offset from the data's start.
use Rattle.std.specs.Prelude.{◌≡◌, ℕ, ◌+◌, ◌*◌, ◌%◌, ◌≤◌, ◌<◌, Bool, ◌&&◌, List, get_or, leb, eqb}
use Rattle.devicetree.specs.declared.header.Header.{Header}

-- "Numbers are big-endian": that of the four bytes from a place on
unfoldable pub cell : List ℕ → ℕ → ℕ
cell d at = get_or d (at + 3) 0 + 256 * (get_or d (at + 2) 0 + 256 * (get_or d (at + 1) 0 + 256 * get_or d at 0))

-- the header's fields under the Devicetree Specification's names; that of the boot processor, at 28, is not judged
unfoldable pub header_of : List ℕ → Header
header_of d =
    record {
      magic = cell d 0;
      totalsize = cell d 4;
      off_dt_struct = cell d 8;
      off_dt_strings = cell d 12;
      off_mem_rsvmap = cell d 16;
      version = cell d 20;
      last_comp_version = cell d 24;
      size_dt_strings = cell d 32;
      size_dt_struct = cell d 36;
    }

-- "version 17, last compatible 16: magic 0xd00dfeed"; "both version numbers exactly these"
abbrev pub identified : Header → Bool
identified h = eqb h.magic 0xd00dfeed && eqb h.version 17 && eqb h.last_comp_version 16

-- "header (40 bytes)"
abbrev pub header_size : ℕ
header_size = 40

-- "The blocks stand in the order header (40 bytes), reservation, structure, strings, without overlap, within totalsize, and totalsize
-- lies within the data"; where the reservation block ends is said below
abbrev pub ordered : Header → ℕ → Bool
ordered h len =
    leb header_size h.off_mem_rsvmap
    && leb (h.off_dt_struct + h.size_dt_struct) h.off_dt_strings
    && leb (h.off_dt_strings + h.size_dt_strings) h.totalsize
    && leb h.totalsize len

-- "Reservation offset is a multiple of 8, structure offset and size of 4"
abbrev pub aligned : Header → Bool
aligned h = eqb (h.off_mem_rsvmap % 8) 0 && eqb (h.off_dt_struct % 4) 0 && eqb (h.size_dt_struct % 4) 0

-- what the header has to keep, in data of so many bytes
abbrev pub headed : Header → ℕ → Bool
headed h len = identified h && ordered h len && aligned h

-- every byte from a place up to another is 0
abbrev pub Zeros : List ℕ → ℕ → ℕ → Type 0
Zeros d from to = (k : ℕ) → from ≤ k → k < to → get_or d k 0 ≡ 0

-- a pair of the reservation block takes 16 bytes
abbrev pub pair_size : ℕ
pair_size = 16

-- "reservation block ended by a zero pair": from a place on, pairs up to the first whose bytes are all 0, which ends at or before the
-- structure's offset
pub data Reservation (d : List ℕ) (structure : ℕ) : ℕ → Type 0 where
  last : {at : ℕ} → at + pair_size ≤ structure → Zeros d at (at + pair_size) → Reservation d structure at
  pair : {at : ℕ} → (Zeros d at (at + pair_size) → ⊥) → Reservation d structure (at + pair_size) → Reservation d structure at
