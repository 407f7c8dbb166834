-- What proofs say of a list of numbers that holds bytes. No rule asks for it: a slice of bytes always does.
use Rattle.std.proofs.Common.{ℕ, ◌<◌, List, get_or}

-- every element is a byte; behind the end get_or gives 0
abbrev pub Bytes : List ℕ → Type 0
Bytes l = (i : ℕ) → get_or l i 0 < 256
