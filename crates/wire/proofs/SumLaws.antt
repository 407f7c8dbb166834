-- Laws of the sum of bytes.
use Rattle.std.proofs.Common.{◌≡◌, ℕ, ◌+◌, ◌<◌, List, [], ◌∷◌, ◌++◌, length, get_or, take, add-one, arith, take-suc}
use Rattle.wire.specs.Bytes.{sum}

-- the sum of two lists one behind the other is that of their sums
pub sum-append : (s t : List ℕ) → sum (s ++ t) ≡ sum s + sum t
unfolding sum
sum-append [] t = omega arith
sum-append (b ∷ s) t = omega (arith, sum-append s t)

-- one byte more
pub sum-next : (a : List ℕ) (i : ℕ) → i < length a → sum (take (i + 1) a) ≡ sum (take i a) + get_or a i 0
unfolding sum
sum-next a i h = rw (add-one, take-suc a i 0, sum-append) (omega arith)
