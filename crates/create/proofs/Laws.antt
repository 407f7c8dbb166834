-- Pieces written one behind the other from the start of a list, and the list that create makes of them.
use mathlib.Core.Path.{◌≡◌, sym, ap, ◌∙◌}
use Prim.Native.Nat.{ℕ, ◌-◌, ◌%◌, ◌≤◌, ◌<◌}
use native.Mathlib.Omega.{arith}
use native.Mathlib.Nat.{zero-add}
use mathlib.Core.Bool.{Bool, true, false}
use mathlib.Core.List.{List, ◌++◌, append_assoc}
use lib.ListN.{length, take, drop, set, replicate, length-append, length-replicate}
use lib.Seq.{take_at, set-get_or}
use borrow.Author.Tests.{le-leb, lt-leb}
use Rattle.wire.specs.Bytes.{le_bytes, xor, splice}
use Rattle.wire.proofs.Splice.{splice-append, splice_snoc, splice_all}
use Rattle.wire.proofs.Field.{length-le_bytes}
use Rattle.rules.specs.declared.Header.{Header}
use Rattle.rules.specs.declared.Refusal.TheVariants.{Area, Short}
use Rattle.rules.specs.Area.{down8, usable}
use Rattle.rules.specs.Header.{header_bytes, fresh_header}
use Rattle.rules.specs.Checksum.{seal}
use Rattle.rules.specs.Outcome.{refused, done}
use Rattle.rules.specs.Create.{fresh_list, create}
use Rattle.laws.proofs.FreshList.{length-header_bytes, fresh_created, unsealed}

-- bytes written behind the first i of them
next : (a p q : List ℕ) (i : ℕ) → length p ≡ i → splice (splice a 0 p) i q ≡ splice a 0 (p ++ q)
next a p q i e = rw (← e, ← zero-add (length p)) (splice-append a 0 p q (omega arith))

-- one byte stored behind the first i of them
next_byte : (a p : List ℕ) (i v : ℕ) → length p ≡ i → i < length a → v < 256 → set (splice a 0 p) i v ≡ splice a 0 (p ++ le_bytes 1 v)
unfolding le_bytes
next_byte a p i v e h b =
    let m : v % 256 ≡ v = omega arith in
    rw (m, ← zero-add i) (splice_snoc a 0 p v i e (omega arith))

-- a header's first eight bytes as they are written, and then the others
abbrev first_fields : List ℕ → Header → List ℕ
first_fields a h =
    set (set (set (set (splice a 0 (le_bytes 4 h.signature)) 4 h.checksum) 5 h.version) 6 h.hdr_size) 7 h.alignment

abbrev pub all_fields : List ℕ → Header → List ℕ
all_fields a h =
    splice
    (splice (splice (splice (first_fields a h) 8 (le_bytes 4 h.used_size)) 12 (le_bytes 4 h.total_size)) 16 (le_bytes 4 h.flags))
    20
    (le_bytes 4 h.reserved)

-- the fields of a header, one behind the other
pub fields : (a : List ℕ) (h : Header) → 24 ≤ length a → h.checksum < 256 → h.version < 256 → h.hdr_size < 256 → h.alignment < 256
    → all_fields a h ≡ splice a 0 (header_bytes h)
unfolding header_bytes
fields a h l c v s m =
    let p₄ : List ℕ = le_bytes 4 h.signature in
    let p₅ : List ℕ = p₄ ++ le_bytes 1 h.checksum in
    let p₆ : List ℕ = p₅ ++ le_bytes 1 h.version in
    let p₇ : List ℕ = p₆ ++ le_bytes 1 h.hdr_size in
    let p₈ : List ℕ = p₇ ++ le_bytes 1 h.alignment in
    let p₁₂ : List ℕ = p₈ ++ le_bytes 4 h.used_size in
    let p₁₆ : List ℕ = p₁₂ ++ le_bytes 4 h.total_size in
    let p₂₀ : List ℕ = p₁₆ ++ le_bytes 4 h.flags in
    rw (
      next_byte a p₄ 4 h.checksum (length-le_bytes 4 h.signature) (omega arith) c,
      next_byte a p₅ 5 h.version (simp (length-append, length-le_bytes)) (omega arith) v,
      next_byte a p₆ 6 h.hdr_size (simp (length-append, length-le_bytes)) (omega arith) s,
      next_byte a p₇ 7 h.alignment (simp (length-append, length-le_bytes)) (omega arith) m,
      next a p₈ (le_bytes 4 h.used_size) 8 (simp (length-append, length-le_bytes)),
      next a p₁₂ (le_bytes 4 h.total_size) 12 (simp (length-append, length-le_bytes)),
      next a p₁₆ (le_bytes 4 h.flags) 16 (simp (length-append, length-le_bytes)),
      next a p₂₀ (le_bytes 4 h.reserved) 20 (simp (length-append, length-le_bytes)),
    )
    (simp append_assoc)

-- ---- what create comes to

module _ (a : List ℕ) (base : ℕ) (has b : Bool) (u : b ≡ usable base (length a)) where
  -- an area that is not usable
  pub unusable : b ≡ false → create a base has ≡ refused Area
  unfolding create
  unusable k = simp (← u, k)

  -- a usable one with no room behind the header
  pub too_short : b ≡ true → length a ≤ 24 → create a base has ≡ refused Short
  unfolding create
  too_short k l = simp (← u, k, le-leb _ _ l)

  -- and one with room
  pub created : b ≡ true → 24 < length a → create a base has ≡ done (down8 (length a)) (fresh_list (length a) has)
  unfolding create
  created k l = simp (← u, k, lt-leb _ _ l)

-- ---- the bytes that it leaves

-- a new header and zeros behind it, up to the end of the list
pub laid_out : (a b c : List ℕ) (h : Header) (has : Bool) → 24 ≤ length a → h ≡ fresh_header (down8 (length a)) has
    → b ≡ splice a 0 (header_bytes h) → c ≡ splice b 24 (replicate (length a - 24) 0) → c ≡ unsealed (length a) has
laid_out a b c h has l eh eb ec =
    let n : length (header_bytes h) ≡ 24 = length-header_bytes h in
    let z : List ℕ = replicate (length a - 24) 0 in
    let f : length (header_bytes h ++ z) ≡ length a = rw (length-append, length-replicate, n) (omega arith) in
    rw (ec, eb, next a (header_bytes h) z 24 n, splice_all a (header_bytes h ++ z) f, eh)

-- with has_checksum byte 4 becomes the exclusive or of the header
pub fresh_summed : (len : ℕ) (has : Bool) (l : List ℕ) (x : ℕ) → l ≡ unsealed len has → x ≡ xor (take 24 (drop 0 l)) → has ≡ true
    → set l 4 x ≡ fresh_list len has
unfolding fresh_list seal
fresh_summed len has l x el ex e =
    let h : List ℕ = header_bytes (fresh_header (down8 len) has) in
    let z : List ℕ = replicate (len - 24) 0 in
    rw (ex, el) (ap (set (h ++ z) 4) (ap xor (take_at h z 24 (length-header_bytes _)) ∙ sym (fresh_created (down8 len) (len - 24) has ∙ rw e)))

-- without it byte 4 stays 0
pub fresh_unsummed : (len : ℕ) (has : Bool) → has ≡ false → unsealed len has ≡ fresh_list len has
unfolding fresh_list seal header_bytes fresh_header le_bytes
fresh_unsummed len has e =
    let h : List ℕ = unsealed len has in
    sym (ap (set h 4) (fresh_created (down8 len) (len - 24) has ∙ rw e) ∙ set-get_or h 4 0)
