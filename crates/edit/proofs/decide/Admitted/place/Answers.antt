-- Where no void may be used or none fits, the outcome is that of an add at used_size; else the plan into that void comes to it.
use Rattle.std.specs.Prelude.{None}
use Rattle.std.proofs.Common.{◌≡◌, ℕ, Bool, true, false, List, length, refl, sym, ◌∙◌, arith}
use Rattle.rules.specs.Entries.{entries_of}
use Rattle.rules.specs.Add.{first_fit, taken_void}
use Rattle.edit.proofs.Laws.{admitted, void-room, in_void_formed, in_void-decided, add-end}
use Rattle.edit.proofs.decide.Admitted.place.Goals as goal
use Rattle.edit.proofs.decide.Admitted.place.Goals.{in_default-via-in-Some+else-use_voids, in_default-via-in_default}

pub in_void-p-requires : goal.in_void-p-requires
in_void-p-requires c =
    let m = admitted _ _ _ c.args.self.list.read c.args.self.admitted in
    let fits = sym c.requires.0 ∙ c.in-Some.is in
    ((void-room _ _ _ m _ _ fits).2, omega (arith, in_void_formed _ _ _ m _ _ _ fits c.requires.1))

pub with_checksum-requires : goal.with_checksum-requires
with_checksum-requires c =
    let m = admitted _ _ _ c.args.self.list.read c.args.self.admitted in
    rw c.in_void-p.ensures (in_void_formed _ _ _ m _ _ _ (sym c.requires.0 ∙ c.in-Some.is) c.requires.1)

pub returns-in-Some : goal.returns-in-Some
returns-in-Some c =
    let s = c.args.self in
    let m = admitted _ _ _ s.list.read s.admitted in
    let fits = sym c.requires.0 ∙ c.in-Some.is in
    let d = in_void-decided _ _ _ m s.bytes _ _ _ fits c.requires.1 in
    let u = c.if-use_voids.true in
    record {
      decides = rw (u, fits, c.with_checksum.ensures, c.in_void-p.ensures) d.0;
      value = rw (u, fits, ← s.list.read, c.with_checksum.ensures, c.in_void-p.ensures) d.1;
    }

-- where none fits, none is taken
none-fits : (use_voids : Bool) (n : ℕ) (a : List ℕ) → first_fit n (entries_of a) ≡ None → taken_void use_voids n a ≡ None
none-fits true n a k = k
none-fits false n a k = refl

pub returns-in_default : goal.returns-in_default
returns-in_default c =
    let s = c.args.self in
    let m = admitted _ _ _ s.list.read s.admitted in
    let none : taken_void c.args.use_voids (length c.args.«data».now) s.list.bytes.now ≡ None =
    elim c.in_default.branch [
      | in_default-via-in-Some+else-use_voids w ↦ rw w.if-use_voids.false
      | in_default-via-in_default w ↦ none-fits _ _ _ (sym c.requires.0 ∙ w.in_default.is)
    ] in
    let e = add-end _ _ _ m s.bytes in
    record {
      decides = rw (none, e) c.at_end.ensures.decides;
      value = rw (none, e, ← s.list.read) c.at_end.ensures.value;
    }
