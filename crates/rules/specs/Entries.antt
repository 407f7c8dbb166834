-- Document 01, "Header and entries": an entry, what it must keep to, and the walk from entry to entry.
use Rattle.std.specs.Prelude.{None, Option, Some, ℕ, zero, suc, ◌+◌, ◌-◌, Bool, not, ◌&&◌, ◌||◌, cond, List, [], ◌∷◌, ◌++◌, ltb, eqb}
use Rattle.wire.specs.Bytes.{field, le_bytes}
use Rattle.rules.specs.declared.Header.{Header}
use Rattle.rules.specs.declared.Entry.{Entry}
use Rattle.rules.specs.Area.{align8, multiple8}
use Rattle.rules.specs.Header.{header_of, entry_header_size, current_version}

-- "An entry is tag (3 bytes), hdr_size (1), data_size (4), then data."
unfoldable pub entry_at : List ℕ → ℕ → Entry
entry_at a at = record { at = at; tag_id = field a at 3; hdr_size = field a (at + 3) 1; data_size = field a (at + 4) 4 }

-- the eight bytes of an entry header in version 1
unfoldable pub entry_header : ℕ → ℕ → List ℕ
entry_header tag size = le_bytes 3 tag ++ (le_bytes 1 entry_header_size ++ le_bytes 4 size)

-- "Tag 0 is a void; every other entry is live."
abbrev pub is_void : Entry → Bool
is_void e = eqb e.tag_id 0

-- the bytes that an entry takes: the next one is align8(entry hdr_size + data_size) further on
abbrev pub span : Entry → ℕ
span e = align8 (e.hdr_size + e.data_size)

-- where an entry's data starts, counted from the start of the area
abbrev pub data_offset : Entry → ℕ
data_offset e = e.at + e.hdr_size

-- a header size, a list's or an entry's, is not `own` (version 1) or is under it (above)
abbrev pub wrong_header_size : ℕ → ℕ → ℕ → Bool
wrong_header_size version own size = eqb version current_version && not (eqb size own) || not (eqb version current_version) && ltb size own

-- refusal 8 at a place, with `left` bytes from there up to used_size: "entry hdr_size is not 8 (version 1) or under 8 (above),
-- or align8(hdr_size + data_size) exceeds what is left, or a void's data_size is no multiple of 8"
abbrev pub bad_entry : ℕ → ℕ → Entry → Bool
bad_entry version left e =
    wrong_header_size version entry_header_size e.hdr_size
    || ltb left (span e)
    || is_void e && not (multiple8 e.data_size)

-- what a walk gives: the entries in list order, or the place of the first entry that breaks a rule
pub data Walk : Type 0 where
  entries : List Entry → Walk
  broken : ℕ → Walk

-- an entry in front of what the rest of the walk gives
abbrev pub follow : Entry → Walk → Walk
follow e (entries es) = entries (e ∷ es)
follow e (broken at) = broken at

-- the walk from a place, in at most n steps: "The list ends where the place equals used_size", where no entry is read
unfoldable pub walk_in : ℕ → ℕ → List ℕ → ℕ → ℕ → Walk
walk_in zero version a used at = cond (eqb at used) (entries []) (broken at)
walk_in (suc n) version a used at =
    let rest = walk_in n version a used (at + span (entry_at a at)) in
    cond (eqb at used) (entries []) (cond (bad_entry version (used - at) (entry_at a at)) (broken at) (follow (entry_at a at) rest))

-- the walk from a place; an entry takes 8 bytes or more, so the steps suffice
unfoldable pub walk_from : ℕ → List ℕ → ℕ → ℕ → Walk
walk_from version a used at = walk_in (used - at) version a used at

-- "The first entry is at align8(header hdr_size)"
abbrev pub first_entry : Header → ℕ
first_entry h = align8 h.hdr_size

-- the walk of a list whose header is h
abbrev pub walk_of : Header → List ℕ → Walk
walk_of h a = walk_from h.version a h.used_size (first_entry h)

-- the walk of a list by its own header
unfoldable pub walk : List ℕ → Walk
walk a = walk_of (header_of a) a

-- the entries that a walk gives, none where it is broken
abbrev pub seen : Walk → List Entry
seen (entries es) = es
seen (broken at) = []

-- the entries of an accepted list, in list order
unfoldable pub entries_of : List ℕ → List Entry
entries_of a = seen (walk a)

-- the number of live entries
unfoldable pub live_count : List Entry → ℕ
live_count [] = 0
live_count (e ∷ es) = cond (is_void e) (live_count es) (1 + live_count es)

-- and of void ones
unfoldable pub void_count : List Entry → ℕ
void_count [] = 0
void_count (e ∷ es) = cond (is_void e) (1 + void_count es) (void_count es)

-- occurrence n of a tag, counted from 0 in list order
unfoldable pub occurrence : ℕ → ℕ → List Entry → Option Entry
occurrence tag n [] = None
occurrence tag n (e ∷ es) =
    cond (eqb e.tag_id tag) (cond (eqb n 0) (Some e) (occurrence tag (n - 1) es)) (occurrence tag n es)

-- the live ones of some entries
unfoldable pub live_ones : List Entry → List Entry
live_ones [] = []
live_ones (e ∷ es) = cond (is_void e) (live_ones es) (e ∷ live_ones es)
