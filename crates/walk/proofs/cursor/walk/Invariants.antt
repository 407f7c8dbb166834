-- The invariant: what was counted and remembered, with what the rest of the walk tells, is what the whole tells; each entry took eight bytes or more.
use Rattle.std.proofs.Common.{◌≡◌, ◌+◌, ◌-◌, ◌*◌, ◌≤◌}
use Rattle.rules.specs.Entries.{walk_from, walk_of}
use Rattle.walk.specs.Wanted.{told}
use Rattle.walk.proofs.Steps.{told_from}
use Rattle.walk.proofs.cursor.walk.Given as goal

abbrev pub invariant-loop-e : goal.invariant-loop-e
invariant-loop-e l =
    let h = l.list.header in
    let a = l.list.bytes.now in
    (l.c.at ≤ h.used_size)
    × ((l.live + l.voids) * 8 ≤ l.c.at)
    × (told_from l.w l.live l.voids l.m (walk_from h.version a h.used_size l.c.at) ≡ told l.w (walk_of h a))

abbrev pub decreases-loop-e : goal.decreases-loop-e
decreases-loop-e l = l.list.header.used_size - l.c.at
