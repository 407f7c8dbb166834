-- Demand 3, proved of the written rules.
use mathlib.Core.Path.{◌≡◌, refl}
use Prim.Native.Nat.{ℕ}
use mathlib.Core.List.{List}
use Rattle.rules.specs.Edition.{current}
use Rattle.rules.specs.Check.{admit}
use Rattle.rules.specs.Outcome.{done}
use Rattle.rules.specs.Edit.{Edit, to_add, to_add_aligned, to_void, to_relocate, to_tidy, act}
use Rattle.rules.specs.Demand3.{AcceptedV1, Holds, Demand3}
use Rattle.demand3.proofs.InPlace.{admitted_done}
use Rattle.demand3.proofs.Add.{add_holds}
use Rattle.demand3.proofs.AddAligned.{add-aligned_holds}
use Rattle.demand3.proofs.Void.{void_holds}
use Rattle.demand3.proofs.Relocate.{relocate_holds}
use Rattle.demand3.proofs.Tidy.{tidy_holds}

-- demand 3 of each act
act_holds : (e : Edit) (a : List ℕ) (base value : ℕ) (bytes : List ℕ) → AcceptedV1 a base → act e a base ≡ done value bytes → Holds e a base value bytes
act_holds (to_add tag content use_voids) a base value bytes accepted h = add_holds a base tag value content use_voids bytes accepted h
act_holds (to_add_aligned tag content exponent) a base value bytes accepted h = add-aligned_holds a base tag value content exponent bytes accepted h
act_holds (to_void tag n) a base value bytes accepted h = void_holds a base tag n value bytes accepted h
act_holds (to_relocate target target_base) a base value bytes accepted h = relocate_holds a base target target_base value bytes accepted h
act_holds to_tidy a base value bytes accepted h = tidy_holds a base value bytes accepted h

-- The theorem. Take any list a at any base that a check accepts with version 1, and any edit of it: an add with any tag,
-- any bytes of data and voids allowed or not; an add aligned to any exponent; a void of any occurrence of any tag; a relocation to
-- any target at any base; a tidy. Suppose that the edit, run by the written rules, is not refused: it answers `value` and leaves `bytes`.
-- Then all of this holds at once of the result (of a relocation, the target from the new base to its end, at the new base; of any
-- other edit, the area afterwards, at its own base):
--   again      a check accepts the result, and it is of version 1;
--   checksum   its checksum byte is the checksum worked out afresh;
--   flags      its flags are those of a;
--   live       a fresh reading of it, tag and data of each live entry in list order, is the reading of a with the new entry put
--              in at its position (both adds), with the occurrence taken out (void), or the same (relocate, tidy);
--   others     every byte that the edit does not name is as it was in a: of the whole area, in a relocation of the used bytes;
--   size       as many bytes are lent afterwards as before;
--   addresses  after a relocation each entry's data address equals the old one modulo 2^alignment; after a tidy each live entry's is
--              the old one.
-- Each word of this is defined in rules' specs/Demand3.antt. The theorem speaks of the written rules alone: that a function does
-- what they say is that function's own statement.
pub demand3 : Demand3
demand3 e a base value bytes accepted h =
    act_holds e a base value bytes accepted (admitted_done current a base (admit a base) (act e a base) value bytes refl h).2
