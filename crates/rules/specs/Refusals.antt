-- Document 01, "When a call is turned away": the fourteen refusals, each with its number and exactly when it comes.
-- 8 ENTRY is the walk's (Entries), 10 SHAPE the tag table's (Tags), 13 NONE and 14 ROOM are each operation's own.
-- Request 5's 18 to 20 stand in Certificate, request 9's 16 and 17 in the crates journal and steps.
use Rattle.std.specs.Prelude.{ℕ, ◌+◌, Bool, not, ◌&&◌, ◌||◌, List, leb, ltb, eqb}
use Rattle.rules.specs.declared.Refusal.{Refusal}
use Rattle.rules.specs.declared.Refusal.TheVariants.{
  Area,
  Short,
  Signature,
  Version,
  Readonly,
  Sizes,
  Checksum,
  Entry,
  Tag,
  Shape,
  Align,
  Target,
  None,
  Room,
}
use Rattle.rules.specs.Area.{align8, multiple8, usable, max_length, max_alignment, max_address}
use Rattle.rules.specs.Header.{header_size, current_version, least_alignment}
use Rattle.rules.specs.Entries.{wrong_header_size}
use Rattle.rules.specs.Edition.{Edition}
use Rattle.rules.specs.declared.Header.{Header}

-- the table's numbers and names
abbrev pub number_of : Refusal → ℕ
number_of Area = 1
number_of Short = 2
number_of Signature = 3
number_of Version = 4
number_of Readonly = 5
number_of Sizes = 6
number_of Checksum = 7
number_of (Entry at) = 8
number_of Tag = 9
number_of Shape = 10
number_of Align = 11
number_of Target = 12
number_of None = 13
number_of Room = 14

-- the place in an answer, as added by request 8: "The walk's refusal is to carry the offset of the first entry that breaks a rule"; "Other
-- refusals answer 0 there."
abbrev pub place_of : Refusal → ℕ
place_of Area = 0
place_of Short = 0
place_of Signature = 0
place_of Version = 0
place_of Readonly = 0
place_of Sizes = 0
place_of Checksum = 0
place_of (Entry at) = at
place_of Tag = 0
place_of Shape = 0
place_of Align = 0
place_of Target = 0
place_of None = 0
place_of Room = 0

-- 1: the area is not usable
abbrev pub refuses_area : ℕ → ℕ → Bool
refuses_area base len = not (usable base len)

-- 2: L is under 24, the edition's header size (as amended by request 1, 16 in edition 0.9); for create, L is 24 or less
abbrev pub refuses_short : Edition → ℕ → Bool
refuses_short ed len = ltb len ed.header_size

abbrev pub refuses_short_create : ℕ → Bool
refuses_short_create len = leb len header_size

-- 3: the signature differs, as amended by request 1 from the edition's
abbrev pub refuses_signature : Edition → Header → Bool
refuses_signature ed h = not (eqb h.signature ed.signature)

-- 4: version is 0
abbrev pub refuses_version : Header → Bool
refuses_version h = eqb h.version 0

-- 5: version is over 1 and the call is add, add aligned, void or relocate or, as amended by requests 1 and 3, a conversion or a tidy
abbrev pub refuses_readonly : Bool → Header → Bool
refuses_readonly editing h = editing && ltb current_version h.version

-- an alignment is outside 3 to 21, as amended by request 7
abbrev pub outside_alignment : ℕ → Bool
outside_alignment a = ltb a least_alignment || ltb max_alignment a

-- 6: hdr_size is not 24 (version 1) or is under 24 (above), 24 being the edition's header size (as amended by request 1, 16 in edition
-- 0.9); alignment is outside 3 to 21 (as amended by request 7); used or total is no multiple of 8; used is under align8(hdr_size); used
-- exceeds total; total exceeds L
abbrev pub refuses_sizes : Edition → Header → ℕ → Bool
refuses_sizes ed h len =
    wrong_header_size h.version ed.header_size h.hdr_size
    || outside_alignment h.alignment
    || not (multiple8 h.used_size)
    || not (multiple8 h.total_size)
    || ltb h.used_size (align8 h.hdr_size)
    || ltb h.total_size h.used_size
    || ltb len h.total_size

-- 7: the checksum rule, as amended by request 1 the edition's, is broken
abbrev pub refuses_checksum : Edition → List ℕ → Bool
refuses_checksum ed a = not (ed.summed a)

-- 9: tag is 0 or over 0xffffff; for both adds also 0x800000 to 0xffefff
abbrev pub refuses_tag : ℕ → Bool
refuses_tag tag = eqb tag 0 || ltb 0xffffff tag

abbrev pub refuses_tag_add : ℕ → Bool
refuses_tag_add tag = refuses_tag tag || leb 0x800000 tag && leb tag 0xffefff

-- 11: aligned add with exponent outside 3 to 21, as amended by request 7
abbrev pub refuses_align : ℕ → Bool
refuses_align exponent = outside_alignment exponent

-- 12: target base + target length exceeds 2^48, or target length exceeds 16,777,216, as amended by request 7
abbrev pub refuses_target : ℕ → ℕ → Bool
refuses_target base len = ltb max_address (base + len) || ltb max_length len
