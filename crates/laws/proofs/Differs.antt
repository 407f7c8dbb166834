-- How a list of bytes comes from another: outside some stretches every byte is as it was.
use mathlib.Core.Path.{◌≡◌, refl}
use Prim.Native.Nat.{ℕ, ◌+◌, ◌≤◌, ◌<◌}
use native.Mathlib.Omega.{arith}
use mathlib.Core.Bool.{Bool, true, false}
use mathlib.Core.List.{List, [], ◌∷◌}
use lib.ListN.{length, get_or}
use lib.Seq.{get_or-set_other}
use lib.Dec.{leb}
use borrow.Author.Tests.{leb-true, leb-false, ltb-false, le-leb}
use Rattle.wire.specs.Bytes.{field, le_bytes, splice}
use Rattle.wire.proofs.Splice.{length-splice, get_or-splice_before, get_or-splice-behind}
use Rattle.wire.proofs.Field.{field_cong, length-le_bytes}
use Rattle.rules.specs.Header.{checksum_at}
use Rattle.rules.specs.Checksum.{fresh_checksum, seal}
use Rattle.rules.specs.Demand3.{Stretch, bytes_from, within, named}
use Rattle.laws.proofs.Walk.{neither}

-- i is a place of none of the stretches: from the start of one on, it is behind its end
abbrev pub Outside : List Stretch → ℕ → Type 0
Outside [] i = Unit
Outside (s ∷ ss) i = (s.from ≤ i → s.to ≤ i) × Outside ss i

-- a place that is not named is outside
pub outside : (ss : List Stretch) (i : ℕ) → named ss i ≡ false → Outside ss i
unfolding named
outside [] i h = tt
outside (s ∷ ss) i h =
    let p = neither (within s i) (named ss i) h in
    (λ l. ltb-false i s.to (rw (le-leb s.from i l) at p.0), outside ss i p.1)

-- c has the bytes of a outside the stretches
abbrev pub Differs : List ℕ → List ℕ → List Stretch → Type 0
Differs a c ss = (i : ℕ) → Outside ss i → get_or c i 0 ≡ get_or a i 0

-- a field whose bytes are outside is as it was
pub differs_field : (a c : List ℕ) (ss : List Stretch) (at k : ℕ) → Differs a c ss → ((i : ℕ) → at ≤ i → i < at + k → Outside ss i)
    → field c at k ≡ field a at k
differs_field a c ss at k d o = field_cong c a at at k (λ i l. d (at + i) (o (at + i) (omega arith) (omega arith)))

-- new bytes
pub splice_differs : (a : List ℕ) (p : ℕ) (new : List ℕ) → p ≤ length a → Differs a (splice a p new) (bytes_from p (length new) ∷ [])
splice_differs a p new l i o = go (leb p i) refl
  where
    go : (b : Bool) → leb p i ≡ b → get_or (splice a p new) i 0 ≡ get_or a i 0
    go true k = get_or-splice-behind a p new l i (o.0 (leb-true p i k))
    go false k = get_or-splice_before a p new l i (leb-false p i k)

-- a number of k bytes
pub number_differs : (a : List ℕ) (p k n : ℕ) → p ≤ length a → Differs a (splice a p (le_bytes k n)) (bytes_from p k ∷ [])
number_differs a p k n l i o = splice_differs a p (le_bytes k n) l i (rw length-le_bytes o)

-- it keeps the length
pub length_number : (a : List ℕ) (p k n : ℕ) → p + k ≤ length a → length (splice a p (le_bytes k n)) ≡ length a
length_number a p k n l = length-splice a p (le_bytes k n) (rw length-le_bytes l)

-- the checksum
pub seal_differs : (c : List ℕ) → Differs c (seal c) (bytes_from checksum_at 1 ∷ [])
unfolding seal
seal_differs c i o = get_or-set_other c checksum_at i (fresh_checksum c) 0 (λ e. let k : checksum_at + 1 ≤ i = o.0 (omega arith) in omega arith)
