-- Document 02, request 9, "Power cut in the middle of an edit": the journal, the single stores of an edit and of a recovery, refusal 16 and
-- recovery's 17. Nothing here knows what a transfer list is: an edit is the old area and the new one.
use Rattle.std.specs.Prelude.{
  ℕ,
  zero,
  suc,
  ◌+◌,
  ◌*◌,
  ◌/◌,
  ◌%◌,
  Bool,
  true,
  not,
  ◌&&◌,
  ◌||◌,
  cond,
  List,
  [],
  ◌∷◌,
  ◌++◌,
  length,
  get_or,
  set,
  replicate,
  leb,
  eqb,
  Option,
  None,
  Some,
  option_map,
}
use Rattle.wire.specs.Bytes.{field, le_bytes}

-- ---- stores

-- one byte stored: in which buffer, at which place, which value
pub data Store : Type 0 where
  in_journal : ℕ → ℕ → Store
  in_area : ℕ → ℕ → Store

-- the area, and "a journal in a second lent buffer"
pub record Memory : Type 0 where
  pub journal : List ℕ
  pub area : List ℕ

abbrev pub memory : List ℕ → List ℕ → Memory
memory j a = record { journal = j; area = a }

abbrev pub store : Store → Memory → Memory
store (in_journal i v) m = memory (set m.journal i v) m.area
store (in_area i v) m = memory m.journal (set m.area i v)

-- one after the other
abbrev pub store_all : List Store → Memory → Memory
store_all [] m = m
store_all (s ∷ ss) m = store_all ss (store s m)

-- bytes stored from a place on, "rising"
abbrev pub rising : (ℕ → ℕ → Store) → ℕ → List ℕ → List Store
rising to at [] = []
rising to at (b ∷ bs) = to at b ∷ rising to (at + 1) bs

-- ---- records

-- the "whole records in the buffer", of "a row of 16-byte records with no header"; no store is behind them: "odd bytes behind them are never
-- written"
abbrev pub records : List ℕ → ℕ
records j = length j / 16

-- record i's "kind at byte 0 (0 empty, 1 word, 2 commit)"
abbrev pub kind : List ℕ → ℕ → ℕ
kind j i = get_or j (16 * i) 0

-- the k bytes of a from at on; a byte behind the end counts 0
abbrev pub part : List ℕ → ℕ → ℕ → List ℕ
part a at zero = []
part a at (suc k) = get_or a at 0 ∷ part a (at + 1) k

-- eight bytes and their place in the area
pub record Word : Type 0 where
  pub offset : ℕ
  pub bytes : List ℕ

-- what record i says of a word: its "4-byte offset, eight data bytes"
abbrev pub word_at : List ℕ → ℕ → Word
word_at j i = record { offset = field j (16 * i + 4) 4; bytes = part j (16 * i + 8) 8 }

-- ---- the words that change

-- the k bytes from at on are the same in both
abbrev pub alike : List ℕ → List ℕ → ℕ → ℕ → Bool
alike old new at zero = true
alike old new at (suc k) = eqb (get_or old at 0) (get_or new at 0) && alike old new (at + 1) k

-- of n words from at on those that change, "in rising order", with their new bytes
unfoldable pub words_from : ℕ → ℕ → List ℕ → List ℕ → List Word
words_from zero at old new = []
words_from (suc n) at old new =
    cond (alike old new at 8) (words_from n (at + 8) old new)
    (record { offset = at; bytes = part new at 8 } ∷ words_from n (at + 8) old new)

-- "each 8-byte word of the area that changes": words count from the area's first byte, and bytes behind the last whole word belong to none
unfoldable pub changed_words : List ℕ → List ℕ → List Word
changed_words old new = words_from (length old / 8) 0 old new

-- ---- the stores of an edit

-- a record's bytes 1 to 15: "three zero bytes, a 4-byte offset, eight data bytes"
abbrev pub body_of : ℕ → List ℕ → List ℕ
body_of offset bytes = 0 ∷ 0 ∷ 0 ∷ (le_bytes 4 offset ++ bytes)

-- a record, its "bytes 1 to 15 rising and its kind last"
abbrev pub record_stores : ℕ → ℕ → ℕ → List ℕ → List Store
record_stores i k offset bytes = rising in_journal (16 * i + 1) (body_of offset bytes) ++ (in_journal (16 * i) k ∷ [])

-- from record i on "One word record" for each word, "then one commit record with zeros"
abbrev pub journal_stores : ℕ → List Word → List Store
journal_stores i [] = record_stores i 2 0 (replicate 8 0)
journal_stores i (w ∷ ws) = record_stores i 1 w.offset w.bytes ++ journal_stores (i + 1) ws

-- "then the words are applied in that order, every byte stored, rising, changed or not"
abbrev pub apply_stores : List Word → List Store
apply_stores [] = []
apply_stores (w ∷ ws) = rising in_area w.offset w.bytes ++ apply_stores ws

-- "then the kind of every whole record is stored as 0, 0 already or not, first to last": of n records from record i on. Nothing else of a record
-- is stored again: "spent records keep their bytes 1 to 15"
abbrev pub clear_stores : ℕ → ℕ → List Store
clear_stores i zero = []
clear_stores i (suc n) = in_journal (16 * i) 0 ∷ clear_stores (i + 1) n

-- all of it, of an edit that makes the new area out of the old one
unfoldable pub edit_stores : List ℕ → List ℕ → List ℕ → List Store
edit_stores j old new =
    journal_stores 0 (changed_words old new) ++ (apply_stores (changed_words old new) ++ clear_stores 0 (records j))

-- the commit is stored with the last byte of the journal's stores, its kind: that is the store with this number
abbrev pub commit_store : List ℕ → List ℕ → ℕ
commit_store old new = 16 * (length (changed_words old new) + 1)

-- ---- refusal 16

-- the kinds of n records from record i on are at most `most`
abbrev pub kinds_up_to : ℕ → ℕ → List ℕ → ℕ → Bool
kinds_up_to most zero j i = true
kinds_up_to most (suc n) j i = leb (kind j i) most && kinds_up_to most n j (i + 1)

-- 16, "exactly when some kind is not 0 or the changed words plus one exceed the whole records in the buffer"
unfoldable pub refuses_journal : List ℕ → List ℕ → List ℕ → Bool
refuses_journal j old new = not (kinds_up_to 0 (records j) j 0) || leb (records j) (length (changed_words old new))

-- ---- recovery

-- a word: go on; a commit: these are all; anything else: nothing is applied
abbrev pub by_kind : ℕ → Option (List Word) → Option (List Word)
by_kind zero more = None
by_kind (suc zero) more = more
by_kind (suc (suc zero)) more = Some []
by_kind (suc (suc (suc k))) more = None

-- "Recovery applies the words if the first record that is not a word is a commit": those words, of n records from record i on
abbrev pub pending : ℕ → List ℕ → ℕ → Option (List Word)
pending zero j i = None
pending (suc n) j i = by_kind (kind j i) (option_map (λ (ws : List Word). word_at j i ∷ ws) (pending n j (i + 1)))

-- an offset is a multiple of 8, and offset + 8 does not exceed L
abbrev pub fits_in : ℕ → ℕ → Bool
fits_in len offset = eqb (offset % 8) 0 && leb (offset + 8) len

-- so is that of each word that would be applied
abbrev pub fits : ℕ → List Word → Bool
fits len [] = true
fits len (w ∷ ws) = fits_in len w.offset && fits len ws

-- the stores of a recovery that has these words to apply: "and then, applied or not, clears the same way"
abbrev pub recovery_of : ℕ → List Store → Option (List Word) → Option (List Store)
recovery_of len clear None = Some clear
recovery_of len clear (Some ws) = cond (fits len ws) (Some (apply_stores ws ++ clear)) None

-- the stores of a recovery, which "makes no other check"; none where it "gives 17 and changes nothing exactly when a kind exceeds 2, or a word
-- it would apply has an offset that is no multiple of 8 or offset + 8 exceeds L"
unfoldable pub recovery : Memory → Option (List Store)
recovery m =
    let n : ℕ = records m.journal in
    cond (kinds_up_to 2 n m.journal 0) (recovery_of (length m.area) (clear_stores 0 n) (pending n m.journal 0)) None

-- a recovery that is refused stores nothing
abbrev pub stores_of : Option (List Store) → List Store
stores_of None = []
stores_of (Some ss) = ss
