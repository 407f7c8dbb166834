-- The row that is found is the first that has the tag.
use Rattle.std.specs.Prelude.{Option, Some, None, ◌==◌}
use Rattle.std.specs.List.{find}
use Rattle.std.proofs.Common.{◌≡◌, ℕ, Bool, true, false, cond, List, [], ◌∷◌, refl}
use Rattle.rules.specs.declared.TagRow.{TagRow}
use Rattle.rules.specs.Tags.{breaks, breaks_table, tag_table}
use Rattle.tags.proofs.refuses_shape.Goals as goal

-- what a row that was found says
abbrev found_breaks : Option TagRow → ℕ → Bool
found_breaks (Some row) n = breaks row n
found_breaks None n = false

first_breaks : (rows : List TagRow) (tag n : ℕ) → breaks_table rows tag n ≡ found_breaks (find (λ row. row.tag == tag) rows) n
unfolding breaks_table
first_breaks [] tag n = refl
first_breaks (r ∷ rs) tag n = go (r.tag == tag) (first_breaks rs tag n)
  where
    go : (b : Bool) → breaks_table rs tag n ≡ found_breaks (find (λ row. row.tag == tag) rs) n
        → cond b (breaks r n) (breaks_table rs tag n) ≡ found_breaks (cond b (Some r) (find (λ row. row.tag == tag) rs)) n
    go true h = refl
    go false h = h

pub returns-in-Some : goal.returns-in-Some
unfolding tag_table
returns-in-Some c = simp (c.breaks.ensures, first_breaks, ← c.row_of.ensures, c.in-Some.is)

pub returns-in-None : goal.returns-in-None
unfolding tag_table
returns-in-None c = simp (first_breaks, ← c.row_of.ensures, c.in-None.is)
