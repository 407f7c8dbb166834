-- Document 02, request 9: "Edit and recovery are also offered as steps of one stored byte each, every step's result fixed". A step on any state
-- and any buffers; what it answers; where an edit and a recovery begin; and the steps run to the end.
use Rattle.std.specs.Prelude.{Some, None, ℕ, zero, suc, ◌+◌, ◌-◌, ◌*◌, ◌/◌, ◌%◌, Bool, ◌&&◌, ◌||◌, cond, List, [], ◌∷◌, length, get_or, leb, ltb, eqb, Option}
use Rattle.wire.specs.Bytes.{field}
use Rattle.rules.specs.declared.DoneAnswer.{DoneAnswer}
use Rattle.rules.specs.Header.{header_size, entry_header_size}
use Rattle.journal.specs.Journal as journal
use Rattle.journal.specs.Journal.{
  Memory,
  in_journal,
  in_area,
  store_all,
  records,
  kind,
  part,
  words_from,
  changed_words,
  body_of,
  refuses_journal,
  recovery,
  stores_of,
}
use Rattle.plan.specs.declared.Plan.{Plan}
use Rattle.plan.specs.Plan.{after}
use Rattle.words.specs.Words.{next_offset}
use Rattle.steps.specs.declared.Steps.{Steps}
use Rattle.steps.specs.declared.Stepped.{Stepped}
use Rattle.steps.specs.declared.Store.{Store}
use Rattle.steps.specs.declared.Store.TheVariants.{Journal, Area}
use Rattle.steps.specs.declared.Step.{Step}

-- ---- states

-- the phases: a word record is written, the commit record is, words are applied, kinds are cleared; the end
abbrev pub writing : ℕ
writing = 0

abbrev pub committing : ℕ
committing = 1

abbrev pub applying : ℕ
applying = 2

abbrev pub clearing : ℕ
clearing = 3

abbrev pub at_end : ℕ
at_end = 4

-- an answer without a place; refusals 16 and 17 have neither value nor place
abbrev pub value_answer : ℕ → DoneAnswer
value_answer value = record { number = 0; value = value; at = 0 }

abbrev pub refusal_answer : ℕ → DoneAnswer
refusal_answer number = record { number = number; value = 0; at = 0 }

-- a state: where it stands, the answer at the end, and the plan that it carries, whose value is the answer's
abbrev pub state : ℕ → ℕ → ℕ → ℕ → DoneAnswer → Plan → Steps
state phase index byte word d p =
    record {
      index = index;
      word = word;
      phase = phase;
      byte = byte;
      done = d;
      checksum = p.checksum;
      alignment = p.alignment;
      used_size = p.used_size;
      at = p.at;
      padding = p.padding;
      tag_id = p.tag_id;
      data_size = p.data_size;
      zeros = p.zeros;
      behind = p.behind;
    }

-- the plan that a state carries
abbrev pub plan_of : Steps → Plan
plan_of s =
    record {
      value = s.done.value;
      checksum = s.checksum;
      alignment = s.alignment;
      used_size = s.used_size;
      at = s.at;
      padding = s.padding;
      tag_id = s.tag_id;
      data_size = s.data_size;
      zeros = s.zeros;
      behind = s.behind;
    }

-- no plan: zeros
abbrev pub no_plan : Plan
no_plan =
    record {
      value = 0;
      checksum = 0;
      alignment = 0;
      used_size = 0;
      at = 0;
      padding = 0;
      tag_id = 0;
      data_size = 0;
      zeros = 0;
      behind = 0;
    }

-- the same edit or recovery, standing elsewhere
abbrev pub stand : Steps → ℕ → ℕ → ℕ → ℕ → Steps
stand s phase index byte word = state phase index byte word s.done (plan_of s)

-- the end, with its answer
abbrev pub stopped : DoneAnswer → Steps
stopped d = state at_end 0 0 0 d no_plan

-- where an edit with a plan stands before its first word is known
abbrev pub carrying : Plan → Steps
carrying p = state writing 0 0 0 (value_answer p.value) p

-- the plan that a state carries can be written into len bytes, with n bytes of data
unfoldable pub can_write : Steps → ℕ → ℕ → Bool
can_write s len n =
    ltb s.checksum 256
    && ltb s.alignment 256
    && leb header_size s.at
    && eqb (s.at % 8) 0
    && (eqb s.padding 0 || leb entry_header_size s.padding)
    && leb (n + (s.at + s.padding + entry_header_size + s.zeros + s.behind)) len

-- ---- what a step does

-- the stores of the rules
abbrev pub stored : Option Store → List journal.Store
stored None = []
stored (Some (Journal at value)) = in_journal at value ∷ []
stored (Some (Area at value)) = in_area at value ∷ []

-- "handed a state or buffers other than the step before left, it stores at most one byte in them or gives 17"
abbrev pub refuse : Step
refuse = record { store = None; next = stopped (refusal_answer 17) }

-- the place in a record of the byte that is stored after `byte` others: "bytes 1 to 15 rising and its kind last"
abbrev pub slot : ℕ → ℕ
slot byte = cond (ltb byte 15) (byte + 1) 0

-- on to record index for the next word that changes, or for the commit where there is none
abbrev pub to_word : Steps → ℕ → ℕ → ℕ → Steps
to_word s len index word = cond (eqb word len) (stand s committing index 0 0) (stand s writing index 0 word)

-- after a byte of a word record
unfoldable pub after_word : Steps → List ℕ → List ℕ → Steps
after_word s old new =
    cond (ltb s.byte 15) (stand s writing s.index (s.byte + 1) s.word)
    (to_word s (length old) (s.index + 1)
    (next_offset (length old) (words_from ((length old - (s.word + 8)) / 8) (s.word + 8) old new)))

-- the state stands in a record of the journal
abbrev pub in_record : Steps → List ℕ → Bool
in_record s j = ltb s.index (records j) && ltb s.byte 16

-- and at a word of an area of len bytes
abbrev pub at_word : Steps → ℕ → Bool
at_word s len = eqb (s.word % 8) 0 && ltb s.word (len / 8 * 8)

-- a byte of a word record; the new area is the one that the plan makes of the area as it stands
unfoldable pub word_step : List ℕ → Steps → List ℕ → List ℕ → Step
word_step content s j a =
    let new : List ℕ = after (plan_of s) a content in
    cond (in_record s j && at_word s (length a) && can_write s (length a) (length content))
    (record {
      store = Some (Journal (16 * s.index + slot s.byte) (get_or (1 ∷ body_of s.word (part new s.word 8)) (slot s.byte) 0));
      next = after_word s a new;
    })
    refuse

-- after a byte of the commit record, which stands behind as many records as there are words
abbrev pub after_commit : Steps → Steps
after_commit s =
    cond (ltb s.byte 15) (stand s committing s.index (s.byte + 1) s.word)
    (cond (eqb s.index 0) (stand s clearing 0 0 0) (stand s applying 0 0 0))

-- a byte of the commit record
unfoldable pub commit_step : Steps → List ℕ → Step
commit_step s j =
    cond (in_record s j)
    (record { store = Some (Journal (16 * s.index + slot s.byte) (cond (ltb s.byte 15) 0 2)); next = after_commit s })
    refuse

-- after a byte of a word in the area: the next byte, the next record's word, or the clearing
unfoldable pub after_apply : Steps → List ℕ → Steps
after_apply s j =
    cond (ltb s.byte 7) (stand s applying s.index (s.byte + 1) s.word)
    (cond (ltb (s.index + 1) (records j) && eqb (kind j (s.index + 1)) 1) (stand s applying (s.index + 1) 0 s.word)
    (stand s clearing 0 0 s.word))

-- a byte of a word in the area, which has len bytes
unfoldable pub apply_step : Steps → List ℕ → ℕ → Step
apply_step s j len =
    let offset : ℕ = field j (16 * s.index + 4) 4 in
    cond (ltb s.index (records j) && ltb s.byte 8 && leb (offset + 8) len)
    (record { store = Some (Area (offset + s.byte) (get_or j (16 * s.index + 8 + s.byte) 0)); next = after_apply s j })
    refuse

-- a kind cleared; after the last of them the end
unfoldable pub clear_step : Steps → List ℕ → Step
clear_step s j =
    cond (ltb s.index (records j))
    (record {
      store = Some (Journal (16 * s.index) 0);
      next = cond (ltb (s.index + 1) (records j)) (stand s clearing (s.index + 1) 0 s.word) (stopped s.done);
    })
    refuse

-- "After the end a step stores nothing"
abbrev pub rest_step : Steps → Step
rest_step s = record { store = None; next = s }

abbrev pub by_phase : ℕ → Step → Step → Step → Step → Step → Step → Step
by_phase phase write commit apply clear rest other =
    cond (eqb phase writing) write
    (cond (eqb phase committing) commit (cond (eqb phase applying) apply (cond (eqb phase clearing) clear (cond (eqb phase at_end) rest other))))

-- a step on any state and any buffers
unfoldable pub step_of : List ℕ → Steps → Memory → Step
step_of content s m =
    by_phase s.phase (word_step content s m.journal m.area) (commit_step s m.journal) (apply_step s m.journal (length m.area))
    (clear_step s m.journal) (rest_step s) refuse

-- the buffers after it
abbrev pub stepped : List ℕ → Steps → Memory → Memory
stepped content s m = store_all (stored (step_of content s m).store) m

-- what is answered: "its answer coming with the last byte or, where none is stored, at once"
abbrev pub report : Steps → Stepped
report s =
    cond (eqb s.phase at_end) (record { state = s; ended = 1; done = s.done }) (record { state = s; ended = 0; done = value_answer 0 })

-- ---- where they begin

-- an edit with a plan, of an area into the new one: "Refusal 16, after all others"
unfoldable pub edit_start : Plan → List ℕ → Memory → Steps
edit_start p new m =
    cond (refuses_journal m.journal m.area new) (stopped (refusal_answer 16))
    (to_word (carrying p) (length m.area) 0 (next_offset (length m.area) (changed_words m.area new)))

-- a recovery: with its first store, or at the end where it has none or is refused with 17
abbrev pub beginning : Option (List journal.Store) → Steps
beginning None = stopped (refusal_answer 17)
beginning (Some []) = stopped (value_answer 0)
beginning (Some (in_area i v ∷ ss)) = stand (stopped (value_answer 0)) applying 0 0 0
beginning (Some (in_journal i v ∷ ss)) = stand (stopped (value_answer 0)) clearing 0 0 0

unfoldable pub recover_start : Memory → Steps
recover_start m = beginning (recovery m)

-- ---- run to the end

-- an answer and the buffers afterwards
pub record Ended : Type 0 where
  pub done : DoneAnswer
  pub buffers : Memory

abbrev pub ended : DoneAnswer → Memory → Ended
ended d m = record { done = d; buffers = m }

-- at most so many steps are left, with n whole records: each lowers it (`nearer`), so that so many are enough (`to-end-step`)
unfoldable pub left : ℕ → Steps → ℕ
left n s =
    cond (eqb s.phase writing || eqb s.phase committing) (9 * n + 3 + (16 * (n - s.index) - s.byte))
    (cond (eqb s.phase applying) (n + 2 + (8 * (n - s.index) - s.byte))
    (cond (eqb s.phase clearing) (1 + (n - s.index)) (cond (eqb s.phase at_end) 0 1)))

-- at most so many steps, up to the end
unfoldable pub up_to_end : ℕ → List ℕ → Steps → Memory → Ended
up_to_end zero content s m = ended s.done m
up_to_end (suc n) content s m =
    cond (eqb s.phase at_end) (ended s.done m) (up_to_end n content (step_of content s m).next (stepped content s m))

-- "its steps run to the end"
unfoldable pub to_end : List ℕ → Steps → Memory → Ended
to_end content s m = up_to_end (left (records m.journal) s) content s m

-- ---- recovery, whole

-- 0 without a value, or 17
abbrev pub recovery_answer : Option (List journal.Store) → DoneAnswer
recovery_answer None = refusal_answer 17
recovery_answer (Some ss) = value_answer 0

-- what a recovery answers and leaves
unfoldable pub recovered : Memory → Ended
recovered m = ended (recovery_answer (recovery m)) (store_all (stores_of (recovery m)) m)
