-- Examples of the journal's rules, by computation: an area of 20 bytes, of which the second word changes, and a journal of two records and a byte.
use mathlib.Core.Path.{◌≡◌, refl}
use Prim.Native.Nat.{ℕ}
use mathlib.Core.Bool.{true, false}
use Rattle.std.specs.Prelude.{Option, None, Some}
use mathlib.Core.List.{List, [], ◌∷◌, ◌++◌}
use lib.ListN.{drop, replicate}
use Rattle.wire.specs.Bytes.{field, le_bytes}
use Rattle.journal.specs.Journal.{
  Store,
  in_journal,
  in_area,
  memory,
  store_all,
  words_from,
  changed_words,
  edit_stores,
  commit_store,
  refuses_journal,
  recovery,
}

-- ---- bytes

abbrev old : List ℕ
old = replicate 20 255

-- bytes 9 and 15 change, so the word at 8 does; the byte at 8 stays
abbrev new : List ℕ
new = replicate 9 255 ++ (1 ∷ (replicate 5 255 ++ (2 ∷ replicate 4 255)))

-- a record with a kind, an offset's lowest byte, and eight bytes
abbrev row : ℕ → ℕ → List ℕ → List ℕ
row kind offset bytes = kind ∷ 0 ∷ 0 ∷ 0 ∷ offset ∷ 0 ∷ 0 ∷ 0 ∷ bytes

abbrev eight : List ℕ
eight = 255 ∷ 1 ∷ 255 ∷ 255 ∷ 255 ∷ 255 ∷ 255 ∷ 2 ∷ []

abbrev zeros : List ℕ
zeros = replicate 8 0

-- two records and a byte behind them
abbrev journal_of : List ℕ → List ℕ → List ℕ
journal_of first second = first ++ (second ++ (7 ∷ []))

-- an empty journal in which old bytes stand
abbrev empty : List ℕ
empty = journal_of (0 ∷ replicate 15 9) (0 ∷ replicate 15 9)

-- what a recovery of the old area with this journal stores
abbrev recovers : List ℕ → Option (List Store)
recovers j = recovery (memory j old)

-- ---- the edit

-- "each record's bytes 1 to 15 rising and its kind last", the words applied, "every byte stored, rising, changed or not", the kinds cleared
abbrev stores : List Store
stores =
    in_journal 1 0 ∷ in_journal 2 0 ∷ in_journal 3 0 ∷ in_journal 4 8 ∷ in_journal 5 0 ∷ in_journal 6 0 ∷ in_journal 7 0 ∷ in_journal 8 255 ∷ in_journal 9 1
    ∷ in_journal 10 255 ∷ in_journal 11 255 ∷ in_journal 12 255 ∷ in_journal 13 255 ∷ in_journal 14 255 ∷ in_journal 15 2 ∷ in_journal 0 1
    ∷ in_journal 17 0 ∷ in_journal 18 0 ∷ in_journal 19 0 ∷ in_journal 20 0 ∷ in_journal 21 0 ∷ in_journal 22 0 ∷ in_journal 23 0 ∷ in_journal 24 0
    ∷ in_journal 25 0 ∷ in_journal 26 0 ∷ in_journal 27 0 ∷ in_journal 28 0 ∷ in_journal 29 0 ∷ in_journal 30 0 ∷ in_journal 31 0 ∷ in_journal 16 2
    ∷ in_area 8 255 ∷ in_area 9 1 ∷ in_area 10 255 ∷ in_area 11 255 ∷ in_area 12 255 ∷ in_area 13 255 ∷ in_area 14 255 ∷ in_area 15 2
    ∷ in_journal 0 0 ∷ in_journal 16 0 ∷ []

-- eight bytes stored from the area's first on
abbrev applied : List Store
applied =
    in_area 0 255 ∷ in_area 1 1 ∷ in_area 2 255 ∷ in_area 3 255 ∷ in_area 4 255 ∷ in_area 5 255 ∷ in_area 6 255 ∷ in_area 7 2 ∷ []

-- the clearing alone
abbrev cleared : List Store
cleared = in_journal 0 0 ∷ in_journal 16 0 ∷ []

pub record JournalExamples : Type 0 where
  -- the stores of the edit, and the number of the one with the commit's kind
  pub edit : edit_stores empty old new ≡ stores
  pub commit : commit_store old new ≡ 32
  -- after all of them: the new area; records that keep their bytes, and the odd byte
  pub after : store_all stores (memory empty old) ≡ memory (journal_of (row 0 8 eight) (row 0 0 zeros)) new
  -- 16: not with an empty journal of two records; with one record; with a kind that is not 0 in a record behind those that the edit uses
  pub accepted : refuses_journal empty old new ≡ false
  pub short : refuses_journal (replicate 31 0) old new ≡ true
  pub kind : refuses_journal (replicate 32 0 ++ row 1 0 zeros) old new ≡ true
  -- recovery: a word and a commit; the word alone; the commit first; nothing
  pub committed : recovers (journal_of (row 1 8 eight) (row 2 0 zeros)) ≡ Some (drop 32 stores)
  pub uncommitted : recovers (journal_of (row 1 8 eight) (row 0 0 zeros)) ≡ Some cleared
  pub behind : recovers (journal_of (row 2 0 zeros) (row 1 8 eight)) ≡ Some cleared
  pub nothing : recovers empty ≡ Some cleared
  -- 17: a kind of 3, behind the commit too; an offset of 4; one of 16, since 24 exceeds 20; not if the word would not be applied
  pub three : recovers (journal_of (row 2 0 zeros) (row 3 0 zeros)) ≡ None
  pub odd : recovers (journal_of (row 1 4 eight) (row 2 0 zeros)) ≡ None
  pub far : recovers (journal_of (row 1 16 eight) (row 2 0 zeros)) ≡ None
  pub unread : recovers (journal_of (row 1 16 eight) (row 0 0 zeros)) ≡ Some cleared
  -- a word that ends where the area ends
  pub last : recovery (memory (journal_of (row 1 0 eight) (row 2 0 zeros)) (replicate 8 255)) ≡ Some (applied ++ cleared)

pub journal_examples : JournalExamples
unfolding field le_bytes words_from changed_words edit_stores refuses_journal recovery
journal_examples =
    record {
      edit = refl;
      commit = refl;
      after = refl;
      accepted = refl;
      short = refl;
      kind = refl;
      committed = refl;
      uncommitted = refl;
      behind = refl;
      nothing = refl;
      three = refl;
      odd = refl;
      far = refl;
      unread = refl;
      last = refl;
    }
