-- Laws of a plan: how long what it writes is, its exclusive or, and the area afterwards as the rules have it.
use mathlib.Core.Path.{◌≡◌, refl, sym, ◌∙◌}
use Prim.Native.Nat.{ℕ, ◌+◌, ◌-◌, ◌≤◌, ◌<◌, ◌^◌, min, max}
use native.Mathlib.Omega.{arith}
use mathlib.Core.Bool.{Bool, true, false, cond}
use mathlib.Core.List.{List, [], ◌++◌}
use lib.ListN.{length, take, drop, replicate, length-append, length-take, length-replicate}
use lib.Seq.{take-take, take_all}
use lib.Dec.{ltb, leb}
use lib.Bits.{bit_xor, xor_zero_l, xor_zero_r}
use borrow.Author.Tests.{ltb-true, ltb-false, lt-ltb, le-ltb, leb-true, leb-false}
use Rattle.wire.specs.Bytes.{xor}
use Rattle.wire.proofs.Range.{Bytes}
use Rattle.wire.proofs.XorLaws.{xor-append, xor-zeros}
use Rattle.wire.proofs.Splice.{drop-take}
use Rattle.rules.specs.Header.{header_of}
use Rattle.rules.specs.Entries.{entry_header}
use Rattle.rules.specs.Checksum.{checksum_holds, seal}
use Rattle.rules.specs.AddAligned.{void_bytes}
use Rattle.laws.proofs.Patch.{edited, patched, seal_patched, written}
use Rattle.laws.proofs.EntryBytes.{length-entry_header}
use Rattle.plan.specs.declared.Plan.{Plan}
use Rattle.plan.specs.Plan.{
  void_header,
  whole_void,
  header_span,
  void_span,
  stretch_of,
  stretch_length,
  fields_after,
  after,
  with_checksum,
  WellFormed,
}

-- ---- voids

-- fewer than 8 bytes have no header
pub no_header : (n : ℕ) → n < 8 → void_header n ≡ []
unfolding void_header
no_header n h = rw (lt-ltb n 8 h)

-- 8 bytes or more have one
pub some-header : (n : ℕ) → 8 ≤ n → void_header n ≡ entry_header 0 (n - 8)
unfolding void_header
some-header n h = rw (le-ltb n 8 h)

-- a whole void is its header and zeros
pub whole-void : (n : ℕ) → whole_void n ≡ void_header n ++ replicate (n - 8) 0
unfolding whole_void void_header void_bytes
whole-void n = go (ltb n 8) refl
  where
    go : (b : Bool) → ltb n 8 ≡ b → whole_void n ≡ void_header n ++ replicate (n - 8) 0
    go true t =
        let h : n < 8 = ltb-true n 8 t in
        let e : n - 8 ≡ 0 = omega arith in
        rw (t, e)
    go false t = rw t

-- a void's header covers no more bytes than the void is given, and 8 at most
pub header_span_le : (n : ℕ) → (header_span n ≤ n) × (header_span n ≤ 8)
header_span_le n = go (ltb n 8) refl
  where
    go : (b : Bool) → ltb n 8 ≡ b → (header_span n ≤ n) × (header_span n ≤ 8)
    go true t = rw t (omega arith, omega arith)
    go false t = let h : 8 ≤ n = ltb-false n 8 t in rw t (h, omega arith)

-- nor does a whole void
pub void_span_le : (n : ℕ) → void_span n ≤ n
void_span_le n = go (ltb n 8)
  where
    go : (b : Bool) → cond b 0 n ≤ n
    go true = omega arith
    go false = omega arith

-- ---- lengths

-- a whole void has as many bytes as it covers
pub length-whole_void : (n : ℕ) → length (whole_void n) ≡ void_span n
unfolding whole_void void_bytes
length-whole_void n = go (ltb n 8) refl
  where
    go : (b : Bool) → ltb n 8 ≡ b → length (whole_void n) ≡ void_span n
    go true t = rw t
    go false t =
        let h : 8 ≤ n = ltb-false n 8 t in
        rw (t, length-append, length-entry_header, length-replicate) (omega arith)

-- and so has a void's header
pub length-void_header : (n : ℕ) → length (void_header n) ≡ header_span n
unfolding void_header
length-void_header n = go (ltb n 8) refl
  where
    go : (b : Bool) → ltb n 8 ≡ b → length (void_header n) ≡ header_span n
    go true t = rw t
    go false t = rw (t, length-entry_header)

-- and a whole stretch, where the padding is no byte or a void
pub length-stretch_of : (p : Plan) (content : List ℕ) → p.padding ≡ void_span p.padding
    → length (stretch_of p content) ≡ stretch_length p (length content)
unfolding stretch_of
length-stretch_of p content h =
    simp (length-append, length-whole_void, length-entry_header, length-replicate, length-void_header, ← h) (omega arith)

-- ---- exclusive or

-- the zeros of a void do not count
pub xor-whole_void : (n : ℕ) → xor (whole_void n) ≡ xor (void_header n)
xor-whole_void n = rw (whole-void, xor-append, xor-zeros, xor_zero_r)

-- of a stretch the headers and the data count
pub xor-stretch_of : (p : Plan) (content : List ℕ) → xor (stretch_of p content)
    ≡ bit_xor (xor (void_header p.padding))
    (bit_xor (xor (entry_header p.tag_id p.data_size)) (bit_xor (xor content) (xor (void_header p.behind))))
unfolding stretch_of
xor-stretch_of p content = simp (xor-append, xor-whole_void, xor-zeros, xor_zero_l)

-- ---- the bytes that a stretch covers

-- the first n of the first m are the first of the fewer
take-least : (n m : ℕ) (l : List ℕ) → take n (take m l) ≡ take (min n m) l
take-least n m l = go (leb n m) refl
  where
    go : (b : Bool) → leb n m ≡ b → take n (take m l) ≡ take (min n m) l
    go true t =
        let h : n ≤ m = leb-true n m t in
        let e : min n m ≡ n = omega arith in
        rw e (take-take n m l h)
    go false t =
        let h : m < n = leb-false n m t in
        let e : min n m ≡ m = omega arith in
        rw e (take_all n (take m l) (rw length-take (omega arith)))

-- the used bytes among the n bytes from at on, of an area with u used bytes
pub old-part : (a : List ℕ) (n at u : ℕ) → at ≤ u → at ≤ length a
    → take n (drop at (take u a)) ≡ take (min n (u - at)) (drop at a)
old-part a n at u h l =
    let e : at + (u - at) ≡ u = omega arith in
    let d : drop at (take u a) ≡ take (u - at) (drop at a) = rw e at (drop-take at (u - at) a l) in
    rw d (take-least n (u - at) (drop at a))

-- ---- the area afterwards

-- a well-formed plan with its checksum leaves the edited area with the checksum worked out afresh
pub after_sealed : (p : Plan) (a content : List ℕ) → Bytes a → checksum_holds a ≡ true → (header_of a).used_size ≤ length a
    → WellFormed (header_of a) (length a) (length content) p
    → after (with_checksum a content p) a content ≡ seal (edited a p.alignment p.used_size p.at (stretch_of p content))
unfolding after fields_after with_checksum stretch_of
after_sealed p a content b c l w =
    let new : List ℕ = stretch_of p content in
    let n : length new ≡ stretch_length p (length content) = length-stretch_of p content w.padding in
    let x : ℕ = patched a p.alignment p.used_size p.at new in
    let f = header_span_le p.behind in
    let e : p.used_size ≡ max (header_of a).used_size (p.at + length new) = rw n w.used in
    let s : p.used_size < 2 ^ 32 = omega (arith, w.used, w.inside, w.small) in
    sym (seal_patched a p.alignment p.used_size p.at new b c w.low w.old e l s w.alignment
    ∙ written a p.alignment p.used_size p.at new x w.low (omega (arith, w.old)))
