-- Document 01, "Void".
use Rattle.std.specs.Prelude.{None, Option, Some, ℕ, cond, List}
use Rattle.wire.specs.Bytes.{splice}
use Rattle.rules.specs.declared.Entry.{Entry}
use Rattle.rules.specs.declared.Refusal.TheVariants as refusal
use Rattle.rules.specs.Area.{align8}
use Rattle.rules.specs.Entries.{entries_of, occurrence}
use Rattle.rules.specs.Checksum.{seal}
use Rattle.rules.specs.Refusals.{refuses_tag}
use Rattle.rules.specs.Outcome.{Outcome, refused, done}
use Rattle.rules.specs.AddAligned.{void_bytes}

-- "turns occurrence n of a tag into a void of data_size align8(old data_size). Its data and old padding become 0."
-- 13: no such occurrence of the tag
abbrev pub void_at : List ℕ → Option Entry → Outcome
void_at a (Some e) = done e.at (seal (splice a e.at (void_bytes (align8 e.data_size))))
void_at a None = refused refusal.None

-- a void in a list that is admitted: 9, then the void; answers the voided entry's offset
unfoldable pub void : List ℕ → ℕ → ℕ → Outcome
void a tag n = cond (refuses_tag tag) (refused refusal.Tag) (void_at a (occurrence tag n (entries_of a)))
