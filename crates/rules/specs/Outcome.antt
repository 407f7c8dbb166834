-- What create, the edits and the conversion come to: a refusal, which changes no byte, or a number to answer with the lent bytes afterwards.
use Rattle.rules.specs.declared.Facts.{Facts}
use Rattle.std.specs.Prelude.{Err, Ok, Result, ℕ, List}
use Rattle.rules.specs.declared.Refusal.{Refusal}
use Rattle.rules.specs.declared.DoneAnswer.{DoneAnswer}
use Rattle.rules.specs.Refusals.{number_of, place_of}

-- a refusal, or the number that is answered and the lent bytes afterwards
pub data Outcome : Type 0 where
  refused : Refusal → Outcome
  done : ℕ → List ℕ → Outcome

-- what the call answers
abbrev pub answer : Outcome → Result ℕ Refusal
answer (refused r) = Err r
answer (done value bytes) = Ok value

-- the lent bytes afterwards, from those before: a refused call changes no byte
abbrev pub bytes_after : List ℕ → Outcome → List ℕ
bytes_after before (refused r) = before
bytes_after before (done value bytes) = bytes

-- the answer in numbers, with the place as added by request 8
abbrev pub done_answer : Result ℕ Refusal → DoneAnswer
done_answer (Ok value) = record { number = 0; value = value; at = 0 }
done_answer (Err r) = record { number = number_of r; value = 0; at = place_of r }

-- a refused check ends the call there
abbrev pub after_admission : Result Facts Refusal → Outcome → Outcome
after_admission (Ok f) x = x
after_admission (Err r) x = refused r
