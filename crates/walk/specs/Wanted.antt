-- The entry that a walk is to remember, and what the walk tells.
use Rattle.rules.specs.declared.Refusal.{Refusal}
use Rattle.rules.specs.declared.Refusal.TheVariants as refusal
use Rattle.walk.specs.declared.cursor.Counts.{Counts}
use Rattle.std.specs.Prelude.{Err, None, Ok, Option, Result, Some, ℕ, ◌-◌, Bool, cond, ◌&&◌, List, [], ◌∷◌, ◌==◌, nat_le}
use Rattle.rules.specs.declared.Entry.{Entry}
use Rattle.rules.specs.Entries.{Walk, entries, broken, live_count, void_count}
use Rattle.walk.specs.declared.wanted.Wanted.{Wanted}
use Rattle.walk.specs.declared.wanted.Memory.{Memory}

-- an entry has the tag and at least so many bytes of data
abbrev pub wants : ℕ → ℕ → Entry → Bool
wants tag least e = e.tag_id == tag && nat_le least e.data_size

-- occurrence n of such entries, counted from 0 in list order
unfoldable pub wanted_in : ℕ → ℕ → ℕ → List Entry → Option Entry
wanted_in tag least n [] = None
wanted_in tag least n (e ∷ es) =
    cond (wants tag least e) (cond (n == 0) (Some e) (wanted_in tag least (n - 1) es)) (wanted_in tag least n es)

-- the entry that is wanted
abbrev pub wanted_of : Wanted → List Entry → Option Entry
wanted_of w es = wanted_in w.tag w.least w.n es

-- no entry has a tag of over three bytes
abbrev pub nothing_wanted : Wanted
nothing_wanted = record { tag = 0x1000000; least = 0; n = 0 }

-- what a walk tells: the numbers of live and void entries and the wanted entry, or the refusal of its broken place
abbrev pub told : Wanted → Walk → Result Counts Refusal
told w (entries es) = Ok (record { live = live_count es; voids = void_count es; found = wanted_of w es })
told w (broken at) = Err (refusal.Entry at)

-- ---- the memory of a walk: before the first entry, and behind one entry more

-- nothing is found yet, and n are to pass
abbrev pub forgetful : Wanted → Memory
forgetful w = record { left = w.n; found = None }

-- an entry of the wanted kind is passed by, found, or comes behind the one that was found
abbrev pub met : Entry → Memory → Option Entry → Memory
met e m (Some x) = m
met e m None = cond (m.left == 0) (record { left = 0; found = Some e }) (record { left = m.left - 1; found = None })

-- behind one entry more
abbrev pub remembered : Wanted → Entry → Memory → Memory
remembered w e m = cond (wants w.tag w.least e) (met e m m.found) m
