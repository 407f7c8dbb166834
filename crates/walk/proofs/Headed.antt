-- What the check of the header answers, and that the survey goes on with the walk behind a good one.
use Rattle.std.specs.Prelude.{Err, None, Ok, Option, Result, Some}
use Rattle.wire.proofs.Apart.{apart}
use Rattle.walk.specs.declared.check.Surveyed.{Surveyed}
use Rattle.walk.specs.declared.cursor.Counts.{Counts}
use Rattle.std.proofs.Common.{◌≡◌, ℕ, ◌≤◌, Bool, true, false, cond, List, length, refl, arith}
use Rattle.rules.specs.declared.Header.{Header}
use Rattle.rules.specs.declared.Refusal.{Refusal}
use Rattle.rules.specs.declared.Refusal.TheVariants.{Checksum}
use Rattle.rules.specs.Header.{header_of}
use Rattle.rules.specs.Edition.{Edition}
use Rattle.rules.specs.Entries.{Walk, entries, broken, first_entry, seen, walk_of, walk, entries_of}
use Rattle.rules.specs.Check.{walked, header_refusal, checks_of}
use Rattle.rules.specs.Edition09.{edition09}
use Rattle.laws.proofs.Walk.{header-least}
use Rattle.laws.proofs.Check as laws
use Rattle.walk.specs.declared.format.Format.{Format}
use Rattle.walk.specs.declared.format.Format.TheVariants.{Current, Edition09}
use Rattle.walk.specs.declared.wanted.Wanted.{Wanted}
use Rattle.walk.specs.Format.{edition_of}
use Rattle.walk.specs.Headed.{headed, headed_of}
use Rattle.walk.specs.Wanted.{wanted_of, told}
use Rattle.walk.specs.Survey.{surveyed, survey_in}

-- ---- the header

module _ (h : Header) where
  -- a good header was not refused
  unrefused : (o : Option Refusal) (g : Header) → headed h o ≡ Ok g → (o ≡ None) × (g ≡ h)
  unrefused (Some r) g k = apart cc
  unrefused None g k = (refl, cc)

  -- a refused one was
  why : (o : Option Refusal) (r : Refusal) → headed h o ≡ Err r → o ≡ Some r
  why (Some q) r k = cc
  why None r k = apart cc

-- what a good header tells
pub record GoodHeader (ed : Edition) (editing : Bool) (a : List ℕ) (base : ℕ) (h : Header) : Type 0 where
  pub passed : header_refusal ed editing base (length a) (header_of a) ≡ None
  pub same : h ≡ header_of a
  pub least : ed.header_size ≤ h.used_size
  pub first : first_entry h ≤ h.used_size
  pub used : h.used_size ≤ length a

module _ (ed : Edition) (editing : Bool) (a : List ℕ) (base : ℕ) where
  pub good_header : (h : Header) → headed_of ed editing a base ≡ Ok h → GoodHeader ed editing a base h
  good_header h k =
      let p = unrefused (header_of a) _ h k in
      let z = (laws.header-sound ed editing base (length a) (header_of a) p.0).0.sizes in
      let least = header-least (header_of a).version ed.header_size _ z.header in
      record {
        passed = p.0;
        same = p.1;
        least = rw p.1 (omega (arith, least, z.first));
        first = rw p.1 z.first;
        used = rw p.1 (omega (arith, z.used, z.total));
      }

  -- and a refused one
  pub bad_header : (r : Refusal) → headed_of ed editing a base ≡ Err r
      → header_refusal ed editing base (length a) (header_of a) ≡ Some r
  bad_header r k = why (header_of a) _ r k

-- edition 0.9's header is the shortest
pub shortest : (f : Format) → edition09.header_size ≤ (edition_of f).header_size
shortest Current = omega arith
shortest Edition09 = omega arith

-- ---- the walk

-- the answer that a walk gives
abbrev pub answered : Header → Result Counts Refusal → Result Surveyed Refusal
answered h (Ok k) =
    Ok
    (record {
      facts = record {
        version = h.version;
        used = h.used_size;
        total = h.total_size;
        alignment = h.alignment;
        live = k.live;
        voids = k.voids;
      };
      header = h;
      found = k.found;
    })
answered h (Err r) = Err r

walk-answers : (h : Header) (w : Wanted) (x : Walk) → surveyed h (wanted_of w (seen x)) (walked h x) ≡ answered h (told w x)
walk-answers h w (entries es) = refl
walk-answers h w (broken at) = refl

-- ---- the survey

module _ (ed : Edition) (editing : Bool) (a : List ℕ) (base : ℕ) (w : Wanted) where
  -- what refuses the header refuses the list
  pub surveyed_bad : (r : Refusal) → headed_of ed editing a base ≡ Err r → survey_in ed editing a base w ≡ Err r
  unfolding checks_of
  surveyed_bad r k = simp (bad_header ed editing a base r k)

  -- behind a good header come the checksum and the walk
  pub surveyed_good : (h : Header) → headed_of ed editing a base ≡ Ok h
      → survey_in ed editing a base w ≡ cond (ed.summed a) (answered h (told w (walk_of h a))) (Err Checksum)
  unfolding checks_of walk entries_of
  surveyed_good h k = go (ed.summed a) refl
    where
      g : GoodHeader ed editing a base h
      g = good_header ed editing a base h k

      go : (b : Bool) → ed.summed a ≡ b → survey_in ed editing a base w ≡ cond b (answered h (told w (walk_of h a))) (Err Checksum)
      go true p = simp (g.passed, p, walk-answers, ← g.same)
      go false p = simp (g.passed, p)
