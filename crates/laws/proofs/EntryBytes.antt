-- Entries written out: the eight header bytes as one number, and how many bytes an entry and a void take.
use mathlib.Core.Path.{◌≡◌, sym, ap, ap₂, ◌∙◌}
use Prim.Native.Nat.{ℕ, ◌+◌, ◌*◌, ◌/◌, ◌%◌, ◌^◌, ◌<◌}
use native.Mathlib.Omega.{arith}
use mathlib.Core.List.{List, ◌++◌}
use lib.ListN.{length, length-append, length-replicate}
use Rattle.wire.specs.Bytes.{le_bytes}
use Rattle.wire.proofs.Field.{length-le_bytes, le_bytes-add, le_bytes-mod}
use Rattle.rules.specs.Area.{align8}
use Rattle.rules.specs.Entries.{entry_header}
use Rattle.rules.specs.Add.{entry_bytes}
use Rattle.rules.specs.AddAligned.{void_bytes}

-- the eight bytes of an entry header as one number
pub entry_word_lem : (tag size : ℕ) → tag < 2 ^ 24 → le_bytes 8 (tag + 2 ^ 24 * 8 + 2 ^ 32 * size) ≡ entry_header tag size
unfolding entry_header
entry_word_lem tag size h =
    let n : ℕ = tag + 2 ^ 24 * 8 + 2 ^ 32 * size in
    let r : n % 256 ^ 3 ≡ tag = omega arith in
    let d : n / 256 ^ 3 ≡ 8 + 256 * size = omega arith in
    let r1 : (8 + 256 * size) % 256 ^ 1 ≡ 8 = omega arith in
    let d1 : (8 + 256 * size) / 256 ^ 1 ≡ size = omega arith in
    le_bytes-add 3 5 n
    ∙ ap₂ (λ (x y : List ℕ). x ++ y) (sym (le_bytes-mod 3 n) ∙ ap (le_bytes 3) r)
    (ap (le_bytes 5) d
    ∙ le_bytes-add 1 4 (8 + 256 * size)
    ∙ ap₂ (λ (x y : List ℕ). x ++ y) (sym (le_bytes-mod 1 (8 + 256 * size)) ∙ ap (le_bytes 1) r1) (ap (le_bytes 4) d1))

-- an entry header is eight bytes
pub length-entry_header : (tag size : ℕ) → length (entry_header tag size) ≡ 8
unfolding entry_header
length-entry_header tag size = simp (length-append, length-le_bytes)

-- an entry with its padding covers its size rounded up to a multiple of 8
pub length-entry_bytes : (tag : ℕ) (content : List ℕ) → length (entry_bytes tag content) ≡ align8 (8 + length content)
unfolding entry_bytes
length-entry_bytes tag content = rw (length-append, length-entry_header, length-append, length-replicate) (omega arith)

-- a void covers its header and its data
pub length-void_bytes : (n : ℕ) → length (void_bytes n) ≡ 8 + n
unfolding void_bytes
length-void_bytes n = rw (length-append, length-entry_header, length-replicate)
