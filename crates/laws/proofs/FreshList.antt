-- The list that create writes: how long its header is, and its checksum.
use mathlib.Core.Path.{◌≡◌, refl}
use Prim.Native.Nat.{ℕ, ◌-◌}
use mathlib.Core.Bool.{Bool, true, false, cond}
use mathlib.Core.List.{List, ◌++◌}
use lib.ListN.{length, replicate, length-append}
use Rattle.wire.specs.Bytes.{field, le_bytes, xor}
use Rattle.wire.proofs.Field.{length-le_bytes}
use Rattle.rules.specs.declared.Header.{Header}
use Rattle.rules.specs.Area.{down8}
use Rattle.rules.specs.Header.{header_of, header_size, header_bytes, fresh_header}
use Rattle.rules.specs.Checksum.{fresh_checksum}

-- a header is 24 bytes
pub length-header_bytes : (h : Header) → length (header_bytes h) ≡ 24
unfolding header_bytes
length-header_bytes h = simp (length-append, length-le_bytes)

-- the checksum of a new list: the exclusive or of the header, whose checksum byte is still 0
pub fresh_created : (t n : ℕ) (has : Bool)
    → fresh_checksum (header_bytes (fresh_header t has) ++ replicate n 0) ≡ cond has (xor (header_bytes (fresh_header t has))) 0
unfolding fresh_checksum header_of field header_bytes fresh_header le_bytes xor
fresh_created t n true = refl
fresh_created t n false = refl

-- the bytes that create writes before the checksum byte
abbrev pub unsealed : ℕ → Bool → List ℕ
unsealed len has = header_bytes (fresh_header (down8 len) has) ++ replicate (len - header_size) 0
