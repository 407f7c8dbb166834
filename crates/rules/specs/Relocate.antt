-- Document 01, "Relocate".
use Rattle.std.specs.Prelude.{ℕ, ◌+◌, ◌-◌, ◌*◌, ◌/◌, ◌%◌, ◌^◌, cond, List, ◌++◌, length, take, replicate, ltb}
use Rattle.rules.specs.declared.Refusal.TheVariants.{Target, Room}
use Rattle.rules.specs.Area.{down8}
use Rattle.rules.specs.Header.{header_of, with_total}
use Rattle.rules.specs.Checksum.{seal}
use Rattle.rules.specs.Refusals.{refuses_target}
use Rattle.rules.specs.Outcome.{Outcome, refused, done}

-- the address in the target base's own block of m bytes that equals the old base modulo m
abbrev pub in_block : ℕ → ℕ → ℕ → ℕ
in_block m base target = target / m * m + base % m

-- "The new base is the lowest address at or above the target base that equals the old base modulo 2^alignment": that address in
-- the target base's own block of 2^alignment bytes or, where it is below the target base, the one in the next (source 001's steps)
unfoldable pub new_base : ℕ → ℕ → ℕ → ℕ
new_base m base target = cond (ltb (in_block m base target) target) (in_block m base target + m) (in_block m base target)

-- "The shift is new base minus target base."
unfoldable pub shift : List ℕ → ℕ → ℕ → ℕ
shift a base target_base = new_base (2 ^ (header_of a).alignment) base target_base - target_base

-- the used bytes, with the new total: the room from the shift on, rounded down to a multiple of 8
unfoldable pub moved : List ℕ → ℕ → List ℕ
moved a room = seal (with_total (down8 room) (take (header_of a).used_size a))

-- a target of len bytes with a list from the shift on: "every other target byte is 0"
unfoldable pub in_target : ℕ → ℕ → List ℕ → List ℕ
in_target len by list = replicate by 0 ++ (list ++ replicate (len - by - length list) 0)

-- "The used bytes go to the shift"
unfoldable pub target_bytes : List ℕ → ℕ → ℕ → List ℕ
target_bytes a by len = in_target len by (moved a (len - by))

-- 14: shift + used exceeds the target length
unfoldable pub move_to : List ℕ → ℕ → ℕ → Outcome
move_to a by len = cond (ltb len (by + (header_of a).used_size)) (refused Room) (done by (target_bytes a by len))

-- a relocation of a list that is admitted: 12, then the move; answers the shift, and the lent bytes are the target's
unfoldable pub relocate : List ℕ → ℕ → List ℕ → ℕ → Outcome
relocate a base target target_base =
    cond (refuses_target target_base (length target)) (refused Target) (move_to a (shift a base target_base) (length target))
