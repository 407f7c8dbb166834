-- What the walk tells of the wanted entry is of the list's own entries, none where the walk is broken.
use Rattle.std.specs.Prelude.{option_and_then}
use Rattle.std.specs.Result.{result_ok}
use Rattle.std.proofs.Common.{◌≡◌, ℕ, List, refl}
use Rattle.rules.specs.declared.Header.{Header}
use Rattle.rules.specs.Header.{header_of}
use Rattle.rules.specs.Entries.{Walk, entries, broken, walk_of, walk, seen, entries_of}
use Rattle.walk.specs.declared.cursor.Counts.{Counts}
use Rattle.walk.specs.declared.wanted.Wanted.{Wanted}
use Rattle.walk.specs.Wanted.{wanted_in, wanted_of, told}
use Rattle.walk.proofs.check.seek.Goals as goal

found-told : (w : Wanted) (k : Walk) → wanted_of w (seen k) ≡ option_and_then (λ (x : Counts). x.found) (result_ok (told w k))
unfolding wanted_in
found-told w (entries es) = refl
found-told w (broken at) = refl

-- of a list's own header it is one of the list's entries
found-own : (w : Wanted) (a : List ℕ) (h : Header) → h ≡ header_of a
    → wanted_of w (entries_of a) ≡ option_and_then (λ (x : Counts). x.found) (result_ok (told w (walk_of h a)))
unfolding walk entries_of
found-own w a h e = rw e (found-told w (walk_of (header_of a) a))

pub returns-in_err-ok : goal.returns-in_err-ok
returns-in_err-ok c =
    simp (c.from_residual.ensures, found-own c.args.w _ _ c.requires.0, ← c.walk.ensures, ← c.ok.ensures.value, c.in_err-ok.was)

pub returns : goal.returns
returns c = simp (found-own c.args.w _ _ c.requires.0, ← c.walk.ensures, ← c.ok.ensures.value, c.in_ok-ok.was)
