-- Exactly one entry of a list has the certificate's tag where there is an occurrence 0 of the tag and no occurrence 1.
use Rattle.std.specs.Prelude.{Err, None, Some, slice_get}
use mathlib.Core.Path.{◌≡◌, refl}
use Prim.Native.Nat.{ℕ, zero, suc, ◌-◌}
use native.Mathlib.Numerals.{unary_clauses}
use mathlib.Core.Bool.{Bool, true, false, cond}
use mathlib.Core.List.{List, [], ◌∷◌}
use lib.ListN.{take, drop}
use lib.Dec.{eqb, eqb-suc-zero}
use Rattle.wire.proofs.Apart.{apart}
use Rattle.rules.specs.declared.Entry.{Entry}
use Rattle.rules.specs.declared.certificate.Uncertified.TheVariants as uncertified
use Rattle.rules.specs.Entries.{data_offset, occurrence}
use Rattle.rules.specs.Tags.{certificate_size}
use Rattle.rules.specs.Certificate.{certificate_of, tagged, certified, certified_in}

-- occurrence n of a tag is entry n of those that have it
pub occurrence-tagged : (tag n : ℕ) (es : List Entry) → occurrence tag n es ≡ slice_get (tagged tag es) n
unfolding occurrence tagged
occurrence-tagged tag n [] = refl
occurrence-tagged tag n (e ∷ es) = go (eqb e.tag_id tag) n (λ k. occurrence-tagged tag k es)
  where
    go : (b : Bool) (n : ℕ) → ((k : ℕ) → occurrence tag k es ≡ slice_get (tagged tag es) k)
        → cond b (cond (eqb n 0) (Some e) (occurrence tag (n - 1) es)) (occurrence tag n es) ≡ slice_get (cond b (e ∷ tagged tag es) (tagged tag es)) n
    go true zero h = refl
    go true (suc n) h = simp (eqb-suc-zero n, unary_clauses) (h n)
    go false n h = h n

-- where there is no entry 0 there is no certificate
pub first-none : (a : List ℕ) (serial test : ℕ) (es : List Entry) → slice_get es 0 ≡ None → certified_in a serial test es ≡ Err uncertified.NotOne
first-none a serial test [] h = refl
first-none a serial test (e ∷ es) h = apart cc

-- nor is there exactly one where there is an entry 1
pub second_some : (a : List ℕ) (serial test : ℕ) (es : List Entry) (f : Entry) → slice_get es 1 ≡ Some f
    → certified_in a serial test es ≡ Err uncertified.NotOne
second_some a serial test [] f h = refl
second_some a serial test (e ∷ []) f h = apart cc
second_some a serial test (e ∷ x ∷ es) f h = refl

-- an entry 0 without an entry 1 is the only one
pub only : (es : List Entry) (e : Entry) → slice_get es 0 ≡ Some e → slice_get es 1 ≡ None → es ≡ e ∷ []
only [] e h k = apart cc
only (x ∷ []) e h k = cc
only (x ∷ y ∷ es) e h k = apart cc

-- the only one, of the right length, is read from its 56 bytes
pub sized : (a : List ℕ) (serial test : ℕ) (e : Entry) → e.data_size ≡ certificate_size
    → certified_in a serial test (e ∷ []) ≡ certified serial test (certificate_of (take certificate_size (drop (data_offset e) a)))
sized a serial test e h = rw h
