-- Document 01, "Create".
use Rattle.std.specs.Prelude.{ℕ, ◌-◌, Bool, cond, List, ◌++◌, length, replicate}
use Rattle.rules.specs.declared.Refusal.TheVariants.{Area, Short}
use Rattle.rules.specs.Area.{down8}
use Rattle.rules.specs.Header.{header_size, header_bytes, fresh_header}
use Rattle.rules.specs.Checksum.{seal}
use Rattle.rules.specs.Refusals.{refuses_area, refuses_short_create}
use Rattle.rules.specs.Outcome.{Outcome, refused, done}

-- "writes the header, used 24, total L rounded down to a multiple of 8, and zero in every further byte of the area"
unfoldable pub fresh_list : ℕ → Bool → List ℕ
fresh_list len has = seal (header_bytes (fresh_header (down8 len) has) ++ replicate (len - header_size) 0)

-- create makes checks 1 and 2 only, and answers the total
unfoldable pub create : List ℕ → ℕ → Bool → Outcome
create a base has =
    cond (refuses_area base (length a)) (refused Area)
    (cond (refuses_short_create (length a)) (refused Short) (done (down8 (length a)) (fresh_list (length a) has)))
