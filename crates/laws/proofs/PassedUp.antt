-- Request 8: each call's refusal 8 is its check's, with the same place, and no other answer has a place.
use Rattle.std.specs.Prelude.{Err, None, Ok, Option, Result, Some}
use Rattle.wire.proofs.Apart.{apart}
use Rattle.rules.specs.declared.Extent.{Extent}
use Rattle.rules.specs.declared.Facts.{Facts}
use Rattle.rules.specs.declared.certificate.Uncertified.{Uncertified}
use Rattle.rules.specs.declared.certificate.Verdict.{Verdict}
use mathlib.Core.Path.{◌≡◌, refl, sym, ap, ◌∙◌}
use Prim.Native.Nat.{ℕ, ◌+◌}
use native.Mathlib.Omega.{arith}
use mathlib.Core.Bool.{Bool, false, not, cond}
use mathlib.Core.List.{List, [], ◌∷◌}
use lib.ListN.{length}
use lib.Dec.{ltb, eqb}
use Rattle.rules.specs.declared.Entry.{Entry}
use Rattle.rules.specs.declared.certificate.Certificate.{Certificate}
use Rattle.rules.specs.declared.certificate.Uncertified.TheVariants as uncertified
use Rattle.rules.specs.declared.Refusal.{Refusal}
use Rattle.rules.specs.declared.Refusal.TheVariants as refusal
use Rattle.rules.specs.Header.{header_of}
use Rattle.rules.specs.Entries.{entries_of, occurrence}
use Rattle.rules.specs.Edition.{Edition, current}
use Rattle.rules.specs.Refusals.{number_of, place_of, refuses_tag, refuses_tag_add, refuses_align, refuses_target}
use Rattle.rules.specs.Tags.{certificate_tag, certificate_size, refuses_shape}
use Rattle.rules.specs.Check.{checks_of, check_answer}
use Rattle.rules.specs.Find.{found_at, after_check, find_of, find_answer}
use Rattle.rules.specs.Outcome.{Outcome, refused, done, answer, done_answer, after_admission}
use Rattle.rules.specs.Add.{entry_span, room, taken_void, add_in_void, add_at_end, add_at, add}
use Rattle.rules.specs.AddAligned.{aligned_bytes, add_aligned_at_end, add_aligned}
use Rattle.rules.specs.Void.{void_at, void}
use Rattle.rules.specs.Relocate.{shift, move_to, relocate}
use Rattle.rules.specs.Tidy.{tidy}
use Rattle.rules.specs.Edit.{Edit, to_add, to_add_aligned, to_void, to_relocate, to_tidy, act}
use Rattle.rules.specs.Demand3.{live_at}
use Rattle.rules.specs.Edition09.{edition09, growth, grown_shift, convert_to, convert}
use Rattle.rules.specs.Certificate.{
  certificate_of,
  tagged,
  refuses_identity,
  refuses_contents,
  judged,
  certified_in,
  after_checks,
  certify,
  certified_answer,
}
use Rattle.rules.specs.BadEntry.{EightFrom, PassedUp, PassedUp09, OnlyPassedUp, OnlyPassedUp09, ZeroElsewhere}
use Rattle.laws.proofs.Check.{past}

-- ---- the check's 8 is each call's

pub passed_up : (a : List ℕ) (base at : ℕ) → PassedUp a base at
unfolding find_of certify
passed_up a base at =
    record {
      checked = λ k. ap check_answer k;
      found = λ k tag n. simp k;
      certified = λ k serial test. simp k;
      edited = λ k e. simp k;
    }

pub passed_up09 : (a : List ℕ) (base at : ℕ) → PassedUp09 a base at
unfolding find_of convert
passed_up09 a base at =
    record {
      checked = λ k. ap check_answer k;
      found = λ k tag n. simp k;
      converted = λ k target target_base. simp k;
    }

-- ---- the numbers of a refusal

-- a refusal is 8 with its place, or has another number and no place
data Placed (r : Refusal) : Type 0 where
  eighth : {at : ℕ} → r ≡ refusal.Entry at → Placed r
  other : (number_of r ≡ 8 → ⊥) → place_of r ≡ 0 → Placed r

placed : (r : Refusal) → Placed r
placed refusal.Area = other (λ n. omega arith) refl
placed refusal.Short = other (λ n. omega arith) refl
placed refusal.Signature = other (λ n. omega arith) refl
placed refusal.Version = other (λ n. omega arith) refl
placed refusal.Readonly = other (λ n. omega arith) refl
placed refusal.Sizes = other (λ n. omega arith) refl
placed refusal.Checksum = other (λ n. omega arith) refl
placed (refusal.Entry at) = eighth refl
placed refusal.Tag = other (λ n. omega arith) refl
placed refusal.Shape = other (λ n. omega arith) refl
placed refusal.Align = other (λ n. omega arith) refl
placed refusal.Target = other (λ n. omega arith) refl
placed refusal.None = other (λ n. omega arith) refl
placed refusal.Room = other (λ n. omega arith) refl

-- one whose number is 8 has a place
eight : (r : Refusal) → number_of r ≡ 8 → r ≡ refusal.Entry (place_of r)
eight r n = go (placed r)
  where
    go : Placed r → r ≡ refusal.Entry (place_of r)
    go (eighth e) = e ∙ ap refusal.Entry (sym (ap place_of e))
    go (other f p) = absurd (f n)

-- and any other has none
no_place : (r : Refusal) → (number_of r ≡ 8 → ⊥) → place_of r ≡ 0
no_place r n = go (placed r)
  where
    go : Placed r → place_of r ≡ 0
    go (eighth e) = absurd (n (ap number_of e))
    go (other f p) = p

-- ---- no other answer has a place

checked_elsewhere : (x : Result Facts Refusal) → ((check_answer x).number ≡ 8 → ⊥) → (check_answer x).at ≡ 0
checked_elsewhere (Ok f) n = refl
checked_elsewhere (Err r) n = no_place r n

found_elsewhere : (x : Result Extent Refusal) → ((find_answer x).number ≡ 8 → ⊥) → (find_answer x).at ≡ 0
found_elsewhere (Ok x) n = refl
found_elsewhere (Err r) n = no_place r n

done_elsewhere : (x : Result ℕ Refusal) → ((done_answer x).number ≡ 8 → ⊥) → (done_answer x).at ≡ 0
done_elsewhere (Ok value) n = refl
done_elsewhere (Err r) n = no_place r n

certified_elsewhere : (x : Result Verdict Uncertified) → ((certified_answer x).number ≡ 8 → ⊥) → (certified_answer x).at ≡ 0
certified_elsewhere (Ok v) n = refl
certified_elsewhere (Err (uncertified.Refused r)) n = no_place r n
certified_elsewhere (Err uncertified.NotOne) n = refl
certified_elsewhere (Err uncertified.Another) n = refl
certified_elsewhere (Err uncertified.Unsound) n = refl

pub zero_elsewhere : ZeroElsewhere
zero_elsewhere =
    record { checked = checked_elsewhere; found = found_elsewhere; done = done_elsewhere; certified = certified_elsewhere }

-- ---- each call's 8 is its check's

-- an answer whose number is 8 is a refusal with its place
checked_eight : (x : Result Facts Refusal) → (check_answer x).number ≡ 8 → x ≡ Err (refusal.Entry (check_answer x).at)
checked_eight (Ok f) n = absurd (omega arith)
checked_eight (Err r) n = ap Err (eight r n)

found_eight : (x : Result Extent Refusal) → (find_answer x).number ≡ 8 → x ≡ Err (refusal.Entry (find_answer x).at)
found_eight (Ok x) n = absurd (omega arith)
found_eight (Err r) n = ap Err (eight r n)

certified_eight : (x : Result Verdict Uncertified) → (certified_answer x).number ≡ 8 → x ≡ Err (uncertified.Refused (refusal.Entry (certified_answer x).at))
certified_eight (Ok v) n = absurd (omega arith)
certified_eight (Err (uncertified.Refused r)) n = ap (λ q. Err (uncertified.Refused q)) (eight r n)
certified_eight (Err uncertified.NotOne) n = absurd (omega arith)
certified_eight (Err uncertified.Another) n = absurd (omega arith)
certified_eight (Err uncertified.Unsound) n = absurd (omega arith)

done_eight : (o : Outcome) → (done_answer (answer o)).number ≡ 8 → o ≡ refused (refusal.Entry (done_answer (answer o)).at)
done_eight (refused r) n = ap refused (eight r n)
done_eight (done value bytes) n = absurd (omega arith)

module _ (at : ℕ) where
  -- what comes behind the check has no 8 of its own: then the check's answer is 8
  from-check : (c : Result Facts Refusal) (x : Result Extent Refusal) → (x ≡ Err (refusal.Entry at) → ⊥) → after_check c x ≡ Err (refusal.Entry at)
      → c ≡ Err (refusal.Entry at)
  from-check (Ok f) x n k = absurd (n k)
  from-check (Err r) x n k = let q : r ≡ refusal.Entry at = cc in ap Err q

  from_checks : (c : Result Facts Refusal) (x : Result Verdict Uncertified) → (x ≡ Err (uncertified.Refused (refusal.Entry at)) → ⊥)
      → after_checks c x ≡ Err (uncertified.Refused (refusal.Entry at)) → c ≡ Err (refusal.Entry at)
  from_checks (Ok f) x n k = absurd (n k)
  from_checks (Err r) x n k = let q : r ≡ refusal.Entry at = cc in ap Err q

  from_admission : (c : Result Facts Refusal) (x : Outcome) → (x ≡ refused (refusal.Entry at) → ⊥) → after_admission c x ≡ refused (refusal.Entry at)
      → c ≡ Err (refusal.Entry at)
  from_admission (Ok f) x n k = absurd (n k)
  from_admission (Err r) x n k = let q : r ≡ refusal.Entry at = cc in ap Err q

  -- no refusal of find's own is 8
  find_own : (tag : ℕ) (o : Option Entry) → cond (refuses_tag tag) (Err refusal.Tag) (found_at o) ≡ Err (refusal.Entry at) → ⊥
  find_own tag o k = go o (past (refuses_tag tag) _ _ _ (λ e. (apart cc)) k).1
    where
      go : (o : Option Entry) → found_at o ≡ Err (refusal.Entry at) → ⊥
      go (Some e) q = apart cc
      go None q = apart cc

  -- none of the certificate's
  certificate_own : (a : List ℕ) (serial test : ℕ) (es : List Entry) → certified_in a serial test es ≡ Err (uncertified.Refused (refusal.Entry at)) → ⊥
  unfolding judged
  certificate_own a serial test [] k = apart cc
  certificate_own a serial test (e ∷ []) k =
      let c : Certificate = certificate_of (live_at a e).content in
      let p = past (not (eqb e.data_size certificate_size)) _ _ _ (λ q. (apart cc)) k in
      let p₂ = past (refuses_identity serial test c) _ _ _ (λ q. (apart cc)) p.1 in
      let p₃ = past (refuses_contents c) _ _ _ (λ q. (apart cc)) p₂.1 in
      let q = p₃.1 in
      let z : ◌≡◌ {A = ℕ} 0 1 = cc in
      omega arith
  certificate_own a serial test (e ∷ f ∷ es) k = apart cc

  -- a refusal of another number, and what is done, are not it
  another : (r : Refusal) → (number_of r ≡ 8 → ⊥) → refused r ≡ refused (refusal.Entry at) → ⊥
  another r n k = let q : r ≡ refusal.Entry at = cc in n (ap number_of q)

  not_done : (value : ℕ) (bytes : List ℕ) → done value bytes ≡ refused (refusal.Entry at) → ⊥
  not_done value bytes k = apart cc

  -- an act that has one test left, for ROOM
  room_own : (b : Bool) (value : ℕ) (bytes : List ℕ) → cond b (refused refusal.Room) (done value bytes) ≡ refused (refusal.Entry at) → ⊥
  room_own b value bytes k = not_done value bytes (past b _ _ _ (another refusal.Room (λ n. omega arith)) k).1

  -- none of an edit's
  add_own : (a : List ℕ) (tag : ℕ) (content : List ℕ) (o : Option Entry) → add_at a tag content o ≡ refused (refusal.Entry at) → ⊥
  unfolding add_in_void add_at_end
  add_own a tag content (Some e) k = not_done _ _ k
  add_own a tag content None k = room_own (ltb (room a) (entry_span (length content))) _ _ k

  void_own : (a : List ℕ) (o : Option Entry) → void_at a o ≡ refused (refusal.Entry at) → ⊥
  void_own a (Some e) k = not_done _ _ k
  void_own a None k = another refusal.None (λ n. omega arith) k

  act_own : (e : Edit) (a : List ℕ) (base : ℕ) → act e a base ≡ refused (refusal.Entry at) → ⊥
  unfolding add add_aligned add_aligned_at_end void relocate move_to tidy
  act_own (to_add tag content use_voids) a base k =
      let p = past (refuses_tag_add tag) _ _ _ (another refusal.Tag (λ n. omega arith)) k in
      add_own a tag content (taken_void use_voids (length content) a)
      (past (refuses_shape tag (length content)) _ _ _ (another refusal.Shape (λ n. omega arith)) p.1).1
  act_own (to_add_aligned tag content exponent) a base k =
      let p = past (refuses_tag_add tag) _ _ _ (another refusal.Tag (λ n. omega arith)) k in
      let q = past (refuses_shape tag (length content)) _ _ _ (another refusal.Shape (λ n. omega arith)) p.1 in
      room_own (ltb (room a) (length (aligned_bytes a base tag content exponent))) _ _
      (past (refuses_align exponent) _ _ _ (another refusal.Align (λ n. omega arith)) q.1).1
  act_own (to_void tag n) a base k =
      void_own a (occurrence tag n (entries_of a)) (past (refuses_tag tag) _ _ _ (another refusal.Tag (λ m. omega arith)) k).1
  act_own (to_relocate target target_base) a base k =
      room_own (ltb (length target) (shift a base target_base + (header_of a).used_size)) _ _
      (past (refuses_target target_base (length target)) _ _ _ (another refusal.Target (λ n. omega arith)) k).1
  act_own to_tidy a base k = not_done _ _ k

  -- none of the conversion's
  convert_own : (a : List ℕ) (by target_base len : ℕ)
      → cond (refuses_target target_base len) (refused refusal.Target) (convert_to a by len) ≡ refused (refusal.Entry at) → ⊥
  unfolding convert_to
  convert_own a by target_base len k =
      room_own (ltb len (by + ((header_of a).used_size + growth))) _ _
      (past (refuses_target target_base len) _ _ _ (another refusal.Target (λ n. omega arith)) k).1

find-from : (ed : Edition) (a : List ℕ) (base tag n : ℕ)
    → EightFrom (checks_of ed false a base) (find_answer (find_of ed a base tag n)).number (find_answer (find_of ed a base tag n)).at
unfolding find_of
find-from ed a base tag n e = from-check _ _ _ (find_own _ tag (occurrence tag n (entries_of a))) (found_eight _ e)

pub only_passed_up : (a : List ℕ) (base : ℕ) → OnlyPassedUp a base
unfolding certify
only_passed_up a base =
    record {
      checked = checked_eight _;
      found = find-from current a base;
      certified = λ serial test e. from_checks _ _ _ (certificate_own _ a serial test (tagged certificate_tag (entries_of a))) (certified_eight _ e);
      edited = λ x e. from_admission _ _ _ (act_own _ x a base) (done_eight _ e);
    }

pub only_passed_up09 : (a : List ℕ) (base : ℕ) → OnlyPassedUp09 a base
unfolding convert
only_passed_up09 a base =
    record {
      checked = checked_eight _;
      found = find-from edition09 a base;
      converted = λ target target_base e. from_admission _ _ _ (convert_own _ a (grown_shift a base target_base) target_base (length target)) (done_eight _ e);
    }
