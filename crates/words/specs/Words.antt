-- Which plans can be written into an area, and the first of some words.
use Rattle.std.specs.Prelude.{◌≡◌, ℕ, ◌+◌, ◌%◌, ◌^◌, ◌≤◌, ◌<◌, cond, ◌&&◌, List, [], ◌∷◌, leb, ltb}
use Rattle.rules.specs.Header.{header_size, entry_header_size}
use Rattle.journal.specs.Journal.{Word}
use Rattle.plan.specs.declared.Plan.{Plan}
use Rattle.plan.specs.Plan.{void_span}

-- a plan can be written into an area of len bytes, with n bytes of data: its stretch starts at a multiple of 8 behind the header and lies
-- inside the area, and a padding void takes no byte or 8 or more
pub record Writable (p : Plan) (len n : ℕ) : Type 0 where
  pub low : header_size ≤ p.at
  pub eights : p.at % 8 ≡ 0
  pub inside : p.at + p.padding + entry_header_size + n + p.zeros + p.behind ≤ len
  pub padding : p.padding ≡ void_span p.padding
  pub short : (p.at < 2 ^ 32) × (p.padding < 2 ^ 32) × (p.zeros < 2 ^ 32) × (p.behind < 2 ^ 32)

-- the offset of the first word, or the area's length where there is none
abbrev pub next_offset : ℕ → List Word → ℕ
next_offset len [] = len
next_offset len (w ∷ ws) = w.offset

-- from the header's words on to the stretch
abbrev pub skip_to : ℕ → ℕ → ℕ
skip_to at stretch = cond (leb 16 at && ltb at stretch) stretch at
