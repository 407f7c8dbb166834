-- Where a list goes in a target.
use Rattle.std.specs.Prelude.{Err, Ok, Result, ℕ, ◌+◌, ◌-◌, cond, ltb}
use Rattle.rules.specs.declared.Refusal.{Refusal}
use Rattle.rules.specs.declared.Refusal.TheVariants.{Target, Room}
use Rattle.rules.specs.Refusals.{refuses_target}
use Rattle.rules.specs.Relocate.{new_base}

-- how far behind the target base the lowest address lies that, with growth added, equals the old base modulo m
abbrev pub shift_by : ℕ → ℕ → ℕ → ℕ → ℕ
shift_by m base growth target = new_base m base (target + growth) - (target + growth)

-- refused by 12, refused by 14, or so far behind the target base
abbrev pub placed : ℕ → ℕ → ℕ → ℕ → ℕ → ℕ → Result ℕ Refusal
placed m base growth target len used =
    cond (refuses_target target len) (Err Target)
    (cond (ltb len (shift_by m base growth target + used)) (Err Room) (Ok (shift_by m base growth target)))
