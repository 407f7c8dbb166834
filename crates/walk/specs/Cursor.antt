-- One step of the walk.
use Rattle.std.specs.Prelude.{ℕ, ◌+◌, ◌-◌, cond, not, ◌&&◌, ◌||◌, List, ◌==◌, nat_lt, Option, Some, None, Result, Ok, Err}
use Rattle.rules.specs.declared.Entry.{Entry}
use Rattle.rules.specs.declared.Refusal.{Refusal}
use Rattle.rules.specs.declared.Refusal.TheVariants as refusal
use Rattle.rules.specs.Area.{multiple8}
use Rattle.rules.specs.Entries.{entry_at, is_void, span, bad_entry}
use Rattle.walk.specs.declared.cursor.Cursor.{Cursor}

-- the cursor behind an entry of n bytes whose header size breaks no rule, if it breaks no other
abbrev pub fitted : ℕ → ℕ → Entry → Option Cursor
fitted left n e =
    cond (nat_lt left n || is_void e && not (multiple8 e.data_size)) None (Some (record { at = e.at + n }))

-- the cursor behind an entry that breaks no rule
abbrev pub judged : ℕ → ℕ → Entry → Option Cursor
judged version left e = cond (bad_entry version left e) None (Some (record { at = e.at + span e }))

-- the entry at a place with the cursor behind it, or the refusal of one that breaks a rule
abbrev pub stepped : ℕ → Entry → Option Cursor → Result (Option (Entry × Cursor)) Refusal
stepped at e (Some c) = Ok (Some (e, c))
stepped at e None = Err (refusal.Entry at)

-- what stands at a place: the end, or an entry
unfoldable pub step_at : ℕ → List ℕ → ℕ → ℕ → Result (Option (Entry × Cursor)) Refusal
step_at version a used at = cond (at == used) (Ok None) (stepped at (entry_at a at) (judged version (used - at) (entry_at a at)))
