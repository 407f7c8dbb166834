-- What a `?` passes up, and what an `ok_or` in front of it was of.
use Rattle.std.specs.Prelude.{Option, None, Some, Result, Ok, Err, ok_or, IsErrAnd}
use Rattle.std.proofs.lemmas.Result.{err_from_is_err_and}
use mathlib.Core.Path.{◌≡◌, refl, ap, ◌∙◌}
use Rattle.wire.proofs.Apart.{apart}

-- the refusal that it met
pub passed_up : {T E : Type 0} {e : E} {r : Result T E} → IsErrAnd r (λ x. x ≡ e) → r ≡ Err e
passed_up {r = r} h = let p = err_from_is_err_and r h in p.1 ∙ ap Err p.2

-- there was nothing, and the refusal is the one given for that
pub ok_or-err : {T E : Type 0} (o : Option T) (d e : E) → ok_or o d ≡ Err e → (o ≡ None) × (e ≡ d)
ok_or-err None d e h = (refl, cc)
ok_or-err (Some x) d e h = apart cc

-- there was something
pub ok_or-ok : {T E : Type 0} (o : Option T) (d : E) (x : T) → ok_or o d ≡ Ok x → o ≡ Some x
ok_or-ok None d x h = apart cc
ok_or-ok (Some y) d x h = cc
