-- What the check of the header alone answers: a refusal of 1 to 6, or the header.
use Rattle.std.specs.Prelude.{Err, None, Ok, Option, Result, Some, ℕ, Bool, List, length}
use Rattle.rules.specs.declared.Header.{Header}
use Rattle.rules.specs.declared.Refusal.{Refusal}
use Rattle.rules.specs.Header.{header_of}
use Rattle.rules.specs.Edition.{Edition}
use Rattle.rules.specs.Check.{header_refusal}

-- of a header and the refusal that it met, if any
abbrev pub headed : Header → Option Refusal → Result Header Refusal
headed h (Some r) = Err r
headed h None = Ok h

-- of the bytes of an edition's list at a base
abbrev pub headed_of : Edition → Bool → List ℕ → ℕ → Result Header Refusal
headed_of ed editing a base = headed (header_of a) (header_refusal ed editing base (length a) (header_of a))
