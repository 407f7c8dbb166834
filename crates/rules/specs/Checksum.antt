-- Document 01, "Header and entries": the checksum rule, and the checksum worked out afresh.
use Rattle.std.specs.Prelude.{ℕ, ◌+◌, Bool, cond, List, ◌++◌, take, drop, set, eqb}
use Rattle.wire.specs.Bytes.{xor}
use Rattle.rules.specs.Header.{header_of, has_checksum, checksum_at}

-- "With has_checksum the xor of all used bytes, checksum byte included, is 0. Without it the checksum byte is 0."
unfoldable pub checksum_holds : List ℕ → Bool
checksum_holds a =
    cond (has_checksum (header_of a)) (eqb (xor (take (header_of a).used_size a)) 0) (eqb (header_of a).checksum 0)

-- a list of bytes without byte i
abbrev pub without : ℕ → List ℕ → List ℕ
without i a = take i a ++ drop (1 + i) a

-- "The checksum worked out afresh is, with has_checksum, the xor of the result's used bytes except byte 4, used_size being the
-- result's own; without it, 0."
unfoldable pub fresh_checksum : List ℕ → ℕ
fresh_checksum a = cond (has_checksum (header_of a)) (xor (without checksum_at (take (header_of a).used_size a))) 0

-- "After every edit the checksum byte is the one that the rule above gives for the whole result."
unfoldable pub seal : List ℕ → List ℕ
seal a = set a checksum_at (fresh_checksum a)
