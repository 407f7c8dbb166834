-- Document 01, "What a bench does with a list": the area that a caller lends, of L bytes at a stated base.
-- All sums are whole-number sums; none wraps.
use Rattle.std.specs.Prelude.{ℕ, ◌+◌, ◌*◌, ◌/◌, ◌%◌, ◌^◌, Bool, ◌&&◌, leb, eqb}

-- n rounded up to a multiple of 8 (source 001's align8)
abbrev pub align8 : ℕ → ℕ
align8 n = (n + 7) / 8 * 8

-- n rounded down to a multiple of 8
abbrev pub down8 : ℕ → ℕ
down8 n = n / 8 * 8

-- n is a multiple of 8
abbrev pub multiple8 : ℕ → Bool
multiple8 n = eqb (n % 8) 0

-- the largest length of an area and of a target, as amended by request 7: "L and the target length may be up to 16 MiB (16,777,216)"
abbrev pub max_length : ℕ
max_length = 16777216

-- the largest alignment, a power of two's exponent, as amended by request 7: "and alignment up to 21"
abbrev pub max_alignment : ℕ
max_alignment = 21

-- no area reaches above this address
abbrev pub max_address : ℕ
max_address = 2 ^ 48

-- "An area is usable when its base is a multiple of 8, base + L is at most 2^48, and L is at most 65,536"; as amended by request 7,
-- 16,777,216
abbrev pub usable : ℕ → ℕ → Bool
usable base len = multiple8 base && leb (base + len) max_address && leb len max_length
