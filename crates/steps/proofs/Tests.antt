-- What the tests of a state tell, and the bytes of a word record.
use mathlib.Core.Path.{◌≡◌, refl, ap, ◌∙◌}
use Prim.Native.Nat.{ℕ, ◌+◌, ◌-◌, ◌%◌, ◌^◌, ◌≤◌, ◌<◌}
use native.Mathlib.Omega.{arith}
use mathlib.Core.Bool.{Bool, true, false, ◌&&◌, ◌||◌}
use mathlib.Core.List.{List, [], ◌∷◌, ◌++◌}
use lib.ListN.{get_or}
use lib.Dec.{leb, ltb, eqb}
use borrow.Author.Tests.{ltb-true, ltb-false, leb-true, eqb-true, lt-ltb, le-ltb, le-leb, eq-eqb}
use Rattle.wire.specs.Bytes.{le_bytes}
use Rattle.wire.proofs.Field.{length-le_bytes, le_bytes-mod}
use Rattle.journal.specs.Journal.{body_of}
use Rattle.journal.proofs.Clearing.{and_left, and_right}
use Rattle.plan.specs.declared.Plan.{Plan}
use Rattle.plan.specs.Plan.{void_span}
use Rattle.words.specs.Words.{Writable}
use Rattle.words.proofs.Laws.{get_or_front, get_or_back}
use Rattle.steps.specs.declared.Steps.{Steps}
use Rattle.steps.specs.Steps.{plan_of, carrying, can_write}

-- ---- a plan that can be written

-- no padding, or a void's
padding-span : (n : ℕ) → (eqb n 0 || leb 8 n) ≡ true → n ≡ void_span n
padding-span n h = go (eqb n 0) (leb 8 n) refl refl h
  where
    go : (a b : Bool) → eqb n 0 ≡ a → leb 8 n ≡ b → (a || b) ≡ true → n ≡ void_span n
    go true b ea eb h = let e : n ≡ 0 = eqb-true n 0 ea in rw (lt-ltb n 8 (omega arith)) e
    go false true ea eb h = rw (le-ltb n 8 (leb-true 8 n eb)) refl
    go false false ea eb h = absurd (let z : ◌≡◌ {A = ℕ} 0 1 = cc in omega arith)

-- what its test tells, of numbers that fit their fields
pub record Can (s : Steps) (len n : ℕ) : Type 0 where
  pub checksum : s.checksum < 256
  pub alignment : s.alignment < 256
  pub writable : (s.at < 2 ^ 32) × (s.padding < 2 ^ 32) × (s.zeros < 2 ^ 32) × (s.behind < 2 ^ 32) → Writable (plan_of s) len n

pub can : (s : Steps) (len n : ℕ) → can_write s len n ≡ true → Can s len n
unfolding can_write
can s len n h =
    let a : Bool = ltb s.checksum 256 in
    let b : Bool = ltb s.alignment 256 in
    let c : Bool = leb 24 s.at in
    let d : Bool = eqb (s.at % 8) 0 in
    let e : Bool = eqb s.padding 0 || leb 8 s.padding in
    let f : Bool = leb (n + (s.at + s.padding + 8 + s.zeros + s.behind)) len in
    let h5 : a && b && c && d && e ≡ true = and_left (a && b && c && d && e) f h in
    let h4 : a && b && c && d ≡ true = and_left (a && b && c && d) e h5 in
    let h3 : a && b && c ≡ true = and_left (a && b && c) d h4 in
    let h2 : a && b ≡ true = and_left (a && b) c h3 in
    let low : 24 ≤ s.at = leb-true 24 s.at (and_right (a && b) c h3) in
    let fit : n + (s.at + s.padding + 8 + s.zeros + s.behind) ≤ len = leb-true _ len (and_right (a && b && c && d && e) f h) in
    record {
      checksum = ltb-true _ _ (and_left a b h2);
      alignment = ltb-true _ _ (and_right a b h2);
      writable = λ short. record {
        low = low;
        eights = eqb-true _ _ (and_right (a && b && c) d h4);
        inside = omega arith;
        padding = padding-span s.padding (and_right (a && b && c && d) e h5);
        short = short;
      };
    }

padding_test : (n : ℕ) → n ≡ void_span n → (eqb n 0 || leb 8 n) ≡ true
padding_test n h = go (ltb n 8) refl (eqb n 0)
  where
    or-true : (b : Bool) → (b || true) ≡ true
    or-true true = refl
    or-true false = refl

    go : (a : Bool) → ltb n 8 ≡ a → (b : Bool) → (eqb n 0 || leb 8 n) ≡ true
    go true e b = let z : n ≡ 0 = rw e at h in rw (eq-eqb n 0 z) refl
    go false e b = rw (le-leb 8 n (ltb-false n 8 e)) (or-true (eqb n 0))

-- a plan that can be written passes the test
pub can_carry : (p : Plan) (len n : ℕ) → Writable p len n → p.checksum < 256 → p.alignment < 256 → can_write (carrying p) len n ≡ true
unfolding can_write
can_carry p len n w c a =
    rw (
      lt-ltb p.checksum 256 c,
      lt-ltb p.alignment 256 a,
      le-leb 24 p.at w.low,
      eq-eqb (p.at % 8) 0 w.eights,
      padding_test p.padding w.padding,
      le-leb (n + (p.at + p.padding + 8 + p.zeros + p.behind)) len (omega (arith, w.inside)),
    ) refl

-- ---- the bytes of a word record

behind_four : (k w : ℕ) (bytes : List ℕ) → 4 ≤ k → get_or (1 ∷ body_of w bytes) k 0 ≡ get_or (le_bytes 4 w ++ bytes) (k - 4) 0
behind_four k w bytes h = get_or_back (1 ∷ 0 ∷ 0 ∷ 0 ∷ []) (le_bytes 4 w ++ bytes) 4 k refl h

pub word_offset : (k w : ℕ) (bytes : List ℕ) → 4 ≤ k → k < 8 → get_or (1 ∷ body_of w bytes) k 0 ≡ get_or (le_bytes 4 (w % 2 ^ 32)) (k - 4) 0
word_offset k w bytes h g =
    behind_four k w bytes h
    ∙ get_or_front (le_bytes 4 w) bytes 4 (k - 4) (length-le_bytes 4 w) (omega arith)
    ∙ ap (λ (l : List ℕ). get_or l (k - 4) 0) (sym_mod w)
  where
    sym_mod : (w : ℕ) → le_bytes 4 w ≡ le_bytes 4 (w % 2 ^ 32)
    sym_mod w = rw (le_bytes-mod 4 w) refl

pub word_data : (k w : ℕ) (bytes : List ℕ) → 8 ≤ k → get_or (1 ∷ body_of w bytes) k 0 ≡ get_or bytes (k - 8) 0
word_data k w bytes h =
    let e : k - 4 - 4 ≡ k - 8 = omega arith in
    behind_four k w bytes (omega arith) ∙ get_or_back (le_bytes 4 w) bytes 4 (k - 4) (length-le_bytes 4 w) (omega arith) ∙ ap (λ (i : ℕ). get_or bytes i 0) e
