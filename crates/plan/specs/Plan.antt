-- What a plan says: the bytes of its stretch, the area afterwards, and the outcome that it stands for.
use Rattle.std.specs.Prelude.{Err, Ok, Result, ◌≡◌, ℕ, ◌+◌, ◌-◌, ◌*◌, ◌/◌, ◌%◌, ◌≤◌, ◌<◌, ◌^◌, max, cond, List, [], ◌++◌, length, set, replicate, ltb}
use Rattle.std.specs.Int.Bits.{bit_xor}
use Rattle.wire.specs.Bytes.{le_bytes, xor, splice}
use Rattle.rules.specs.declared.Header.{Header}
use Rattle.rules.specs.Header.{header_of, header_size, entry_header_size, has_checksum, checksum_at, with_alignment, with_used}
use Rattle.rules.specs.declared.Refusal.{Refusal}
use Rattle.rules.specs.Entries.{entry_header}
use Rattle.rules.specs.AddAligned.{void_bytes}
use Rattle.rules.specs.Outcome.{Outcome, refused, done}
use Rattle.laws.proofs.Patch.{patched}
use Rattle.plan.specs.declared.Plan.{Plan}

-- the eight bytes of an entry header as one number
abbrev pub entry_word : ℕ → ℕ → ℕ
entry_word tag size = tag + 2 ^ 24 * 8 + 2 ^ 32 * size

-- the header of a void that takes n bytes; fewer than 8 are none
unfoldable pub void_header : ℕ → List ℕ
void_header n = cond (ltb n entry_header_size) [] (entry_header 0 (n - entry_header_size))

-- and the whole void
unfoldable pub whole_void : ℕ → List ℕ
whole_void n = cond (ltb n entry_header_size) [] (void_bytes (n - entry_header_size))

-- the bytes of its header
abbrev pub header_span : ℕ → ℕ
header_span n = cond (ltb n entry_header_size) 0 entry_header_size

-- and its own
abbrev pub void_span : ℕ → ℕ
void_span n = cond (ltb n entry_header_size) 0 n

-- the stretch: the padding void, the entry with its data and zeros, and the header of the void behind
unfoldable pub stretch_of : Plan → List ℕ → List ℕ
stretch_of p content =
    whole_void p.padding
    ++ (entry_header p.tag_id p.data_size ++ (content ++ (replicate p.zeros 0 ++ void_header p.behind)))

-- its length, with n bytes of data
abbrev pub stretch_length : Plan → ℕ → ℕ
stretch_length p n = p.padding + entry_header_size + n + p.zeros + header_span p.behind

-- the area with the plan's checksum byte, alignment and used_size
unfoldable pub fields_after : Plan → List ℕ → List ℕ
fields_after p a = with_used p.used_size (with_alignment p.alignment (set a checksum_at p.checksum))

-- and with its stretch too: the area afterwards
unfoldable pub after : Plan → List ℕ → List ℕ → List ℕ
after p a content = splice (fields_after p a) p.at (stretch_of p content)

-- a plan with the checksum byte that the area will have, from the old and the new named bytes
unfoldable pub with_checksum : List ℕ → List ℕ → Plan → Plan
with_checksum a content p =
    record {
      value = p.value;
      checksum = patched a p.alignment p.used_size p.at (stretch_of p content);
      alignment = p.alignment;
      used_size = p.used_size;
      at = p.at;
      padding = p.padding;
      tag_id = p.tag_id;
      data_size = p.data_size;
      zeros = p.zeros;
      behind = p.behind;
    }

-- what a decision comes to
unfoldable pub outcome_of : List ℕ → List ℕ → Result Plan Refusal → Outcome
outcome_of a content (Ok p) = done p.value (after p a content)
outcome_of a content (Err r) = refused r

-- a plan is well-formed for a list with the header h in len bytes, and n bytes of data: its stretch starts at a multiple of 8 behind the
-- header, among the used bytes or at their end, and lies inside the area's whole words of 8 bytes; used_size reaches to its end; a padding void takes no byte
-- or 8 or more; numbers fit their fields
pub record WellFormed (h : Header) (len n : ℕ) (p : Plan) : Type 0 where
  pub low : header_size ≤ p.at
  pub eights : p.at % 8 ≡ 0
  pub old : p.at ≤ h.used_size
  pub used : p.used_size ≡ max h.used_size (p.at + stretch_length p n)
  pub inside : p.at + p.padding + entry_header_size + n + p.zeros + p.behind ≤ len / 8 * 8
  pub padding : p.padding ≡ void_span p.padding
  pub tag : p.tag_id < 2 ^ 24
  pub alignment : p.alignment < 256
  pub small : len < 2 ^ 32

-- a plan that is to be written can be
abbrev pub CanWrite : List ℕ → List ℕ → Result Plan Refusal → Type 0
CanWrite a content (Ok p) = WellFormed (header_of a) (length a) (length content) p
CanWrite a content (Err r) = Unit

-- a decision comes to the outcome o
pub record Decides (a content : List ℕ) (o : Outcome) (r : Result Plan Refusal) : Type 0 where
  pub comes : outcome_of a content r ≡ o
  pub writable : CanWrite a content r

-- the checksum byte of a list whose total_size becomes t, from the old and the new one
unfoldable pub total_patch : Header → ℕ → ℕ
total_patch h t =
    cond (has_checksum h) (bit_xor (bit_xor h.checksum (xor (le_bytes 4 h.total_size))) (xor (le_bytes 4 t))) 0
