-- Document 02, request 3: "Tidy the voids". The entries of the tidy list, its bytes, and the call.
use Rattle.std.specs.Prelude.{ℕ, ◌+◌, ◌-◌, cond, List, [], ◌∷◌, replicate}
use Rattle.wire.specs.Bytes.{splice}
use Rattle.rules.specs.declared.Entry.{Entry}
use Rattle.rules.specs.Header.{header_of, header_size, with_used}
use Rattle.rules.specs.Entries.{is_void, span, entries_of, live_ones}
use Rattle.rules.specs.Checksum.{seal}
use Rattle.rules.specs.Outcome.{Outcome, done}
use Rattle.rules.specs.AddAligned.{void_bytes}

-- "each run of neighbouring voids becomes one void over the same stretch": the void e with its neighbour f behind it, as one
abbrev pub joined : Entry → Entry → Entry
joined e f =
    record { at = e.at; tag_id = e.tag_id; hdr_size = e.hdr_size; data_size = e.data_size + span f }

-- a void in front of entries that are tidy: "voids at the end are given back"; "One void alone counts as a run."
abbrev pub void_before : Entry → List Entry → List Entry
void_before e [] = []
void_before e (f ∷ fs) = cond (is_void f) (joined e f ∷ fs) (e ∷ f ∷ fs)

-- the entries of the tidy list: "Live entries stay at their offsets"
unfoldable pub tidied : List Entry → List Entry
tidied [] = []
tidied (e ∷ es) = cond (is_void e) (void_before e (tidied es)) (e ∷ tidied es)

-- "its data zero": each void among some entries written out, over what stood there
unfoldable pub write_voids : List Entry → List ℕ → List ℕ
write_voids [] a = a
write_voids (e ∷ es) a = write_voids es (cond (is_void e) (splice a e.at (void_bytes e.data_size)) a)

-- where the last of some entries ends, or `first` where there is none
unfoldable pub end_of : ℕ → List Entry → ℕ
end_of first [] = first
end_of first (e ∷ es) = end_of (e.at + span e) es

-- the new used size: the end of the last live entry, or 24 where there is none
abbrev pub tidy_used : List ℕ → ℕ
tidy_used a = end_of header_size (live_ones (entries_of a))

-- "used shrinks, and the bytes given back become zero"
abbrev pub give_back : ℕ → ℕ → List ℕ → List ℕ
give_back old new a = with_used new (splice a new (replicate (old - new) 0))

-- the tidy list, its checksum not yet right
unfoldable pub tidy_bytes : List ℕ → List ℕ
tidy_bytes a = give_back (header_of a).used_size (tidy_used a) (write_voids (tidied (entries_of a)) a)

-- tidying a list that is admitted: "the checksum is right", and "the answer is the new used size"
unfoldable pub tidy : List ℕ → Outcome
tidy a = done (tidy_used a) (seal (tidy_bytes a))
