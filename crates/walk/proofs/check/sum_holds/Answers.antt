-- The sum of the other bytes is that of all of them minus the checksum byte, modulo 256.
use Rattle.std.proofs.Common.{◌≡◌, ℕ, suc, ◌+◌, ◌-◌, ◌%◌, ◌<◌, ◌≤◌, List, ◌∷◌, length, get_or, take, drop, ap, arith, length-take-le, get_or-take}
use lib.Seq.{split_at}
use Rattle.wire.specs.Bytes.{field, sum}
use Rattle.wire.proofs.SumLaws.{sum-append}
use Rattle.rules.specs.declared.Header.{Header}
use Rattle.rules.specs.Header.{header_of}
use Rattle.rules.specs.Checksum.{without}
use Rattle.rules.specs.Edition09.{sum_holds}
use Rattle.walk.proofs.check.sum_holds.Goals as goal

-- the sum without a byte, and the byte
sum-without : (l : List ℕ) (i : ℕ) → i < length l → sum (without i l) + get_or l i 0 ≡ sum l
unfolding sum
sum-without l i h =
    let n : 1 + i ≡ suc i = omega arith in
    rw n
    (omega (arith, sum-append (take i l) (drop (suc i) l), ap sum (split_at l i 0 h), sum-append (take i l) (get_or l i 0 ∷ drop (suc i) l)))

-- the checksum byte is among the used bytes
checksum-byte : (a : List ℕ) (n : ℕ) → 4 < n → (header_of a).checksum ≡ get_or (take n a) 4 0
unfolding header_of field
checksum-byte a n h = omega (arith, get_or-take n a 4 0 h)

-- so the sum of all used bytes minus the checksum byte c is that of the others
others : (a : List ℕ) (n c all r : ℕ) → 5 ≤ n → n ≤ length a → c ≡ (header_of a).checksum → all ≡ sum (take n (drop 0 a)) % 256
    → (r + c) % 256 ≡ all → r < 256 → r ≡ sum (without 4 (take n a)) % 256
others a n c all r low high e p q byte =
    let l : length (take n a) ≡ n = length-take-le n a high in
    omega (arith, sum-without (take n a) 4 (omega arith), checksum-byte a n low)

pub returns : goal.returns
unfolding sum_holds
returns c =
    let h = c.args.list.header in
    let e = ap (λ (x : Header). x.checksum) c.args.list.read in
    let others : (c.sum-all.result + (256 - h.checksum)) % 256 ≡ sum (without 4 (take h.used_size c.args.list.bytes.now)) % 256
    = others c.args.list.bytes.now h.used_size h.checksum _ _ (omega arith) c.args.list.within e c.sum-all.ensures (omega arith) (omega arith) in
    rw (← c.args.list.read, others)
