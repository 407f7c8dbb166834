-- The eight bytes as one number: its low three bytes are the tag, the next is the header size, and the high four are the data size.
use Rattle.std.proofs.Common.{◌≡◌, ℕ, ◌+◌, ◌*◌, ◌/◌, ◌%◌, List, ap, ◌∙◌, add_assoc, arith}
use Rattle.wire.specs.Bytes.{field}
use Rattle.wire.proofs.Range.{Bytes}
use Rattle.wire.proofs.Field.{field_split, field_lt}
use Rattle.rules.specs.Entries.{entry_at}
use Rattle.walk.proofs.cursor.entry_at.Goals as goal

-- the number of the eight bytes, part by part
record Parts (a : List ℕ) (at : ℕ) : Type 0 where
  tag : field a at 8 % 16777216 ≡ field a at 3
  header : field a at 8 / 16777216 % 256 ≡ field a (at + 3) 1
  size : field a at 8 / 4294967296 ≡ field a (at + 4) 4

parts : (a : List ℕ) (at : ℕ) → Bytes a → Parts a at
parts a at b =
    let e : field a (at + 3) 5 ≡ field a (at + 3) 1 + 256 * field a (at + 4) 4 =
    field_split a (at + 3) 1 4 ∙ ap (λ (n : ℕ). field a (at + 3) 1 + 256 * field a n 4) (add_assoc at 3 1) in
    let w : field a at 8 ≡ field a at 3 + 16777216 * field a (at + 3) 5 = field_split a at 3 5 in
    let t = field_lt a at 3 b in
    let h = field_lt a (at + 3) 1 b in
    record { tag = omega arith; header = omega arith; size = omega arith }

pub returns : goal.returns
unfolding entry_at
returns c =
    let a = c.args in
    let p : Parts a.a.now a.at = parts a.a.now a.at (λ i. omega (arith, c.type_inv.a i)) in
    rw (c.read-w.ensures, p.tag, p.header, p.size)
