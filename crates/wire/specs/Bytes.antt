-- The words in which everything here speaks of bytes: little-endian numbers, exclusive or, sums, and a stretch put into a list.
-- A list of bytes is a list of numbers; nothing here knows what a transfer list is.
use Rattle.std.specs.Prelude.{ℕ, zero, suc, ◌+◌, ◌*◌, ◌/◌, ◌%◌, List, [], ◌∷◌, ◌++◌, length, take, drop, bit_xor, slice_index}

-- the little-endian number of the k bytes of a from at on; a byte behind the end counts 0
unfoldable pub field : List ℕ → ℕ → ℕ → ℕ
field a at zero = 0
field a at (suc k) = slice_index a at + 256 * field a (at + 1) k

-- the k bytes of the number n, the least first
unfoldable pub le_bytes : ℕ → ℕ → List ℕ
le_bytes zero n = []
le_bytes (suc k) n = n % 256 ∷ le_bytes k (n / 256)

-- the exclusive or of all bytes
unfoldable pub xor : List ℕ → ℕ
xor [] = 0
xor (b ∷ bs) = bit_xor b (xor bs)

-- a with the bytes new from at on, and every other byte as it was
unfoldable pub splice : List ℕ → ℕ → List ℕ → List ℕ
splice a at new = take at a ++ (new ++ drop (at + length new) a)

-- the sum of all bytes
unfoldable pub sum : List ℕ → ℕ
sum [] = 0
sum (b ∷ bs) = b + sum bs
