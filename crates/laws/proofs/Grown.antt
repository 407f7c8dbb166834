-- A converted list: its entries, its header's fields as they are read, and its checksum.
use mathlib.Core.Path.{◌≡◌, refl, ◌∙◌}
use Prim.Native.Nat.{ℕ, ◌+◌, ◌-◌, ◌^◌, ◌<◌}
use native.Mathlib.Omega.{arith}
use mathlib.Core.List.{List, ◌++◌}
use lib.ListN.{length, take, get_or, length-append}
use lib.Seq.{take_all}
use lib.Bits.{bit_xor, xor_zero_r}
use Rattle.wire.specs.Bytes.{field, le_bytes, xor}
use Rattle.wire.proofs.XorLaws.{xor-append}
use Rattle.rules.specs.declared.Header.{Header}
use Rattle.rules.specs.Area.{down8}
use Rattle.rules.specs.Header.{header_of, header_size, header_bytes, fresh_header, signature, current_version}
use Rattle.rules.specs.Checksum.{fresh_checksum}
use Rattle.rules.specs.Edition09.{edition09, growth, old_entries, grown_header}
use Rattle.laws.proofs.Check.{Sound, used-least, used-most}
use Rattle.laws.proofs.Lists.{length_part}
use Rattle.laws.proofs.Xor.{xor-without}
use Rattle.laws.proofs.FreshList.{length-header_bytes}
use Rattle.laws.proofs.Ready.{used_of, total_of}
use Rattle.laws.proofs.Seal.{fresh}

-- an old list that is accepted has as many bytes of entries as are used behind its header
pub old-length : (a : List ℕ) (base : ℕ) → Sound edition09 a base → length (old_entries a) ≡ used_of a - edition09.header_size
unfolding old_entries
old-length a base s =
    length_part a edition09.header_size (used_of a - edition09.header_size)
    (omega (arith, used-least edition09 a base s, used-most edition09 a base s))

-- the fields of a list that starts with a converted list's header, h being the old one
pub record Grown (h : Header) (room : ℕ) (c : List ℕ) : Type 0 where
  pub signed : (header_of c).signature ≡ signature
  pub version : (header_of c).version ≡ current_version
  pub header : (header_of c).hdr_size ≡ header_size
  pub alignment : (header_of c).alignment ≡ h.alignment
  pub used : used_of c ≡ h.used_size + growth
  pub total : total_of c ≡ down8 room
  pub flags : (header_of c).flags ≡ 1

-- such a list
abbrev grown_list : Header → ℕ → List ℕ → List ℕ
grown_list h room rest = header_bytes (grown_header h room) ++ rest

-- and the list that a conversion seals
abbrev pub unsealed09 : List ℕ → ℕ → List ℕ
unsealed09 a room = grown_list (header_of a) room (old_entries a)

module _ (h : Header) (room : ℕ) (rest : List ℕ) where
  -- where its numbers fit their fields they are read so
  pub grown : h.alignment < 2 ^ 8 → h.used_size + growth < 2 ^ 32 → down8 room < 2 ^ 32 → Grown h room (grown_list h room rest)
  unfolding header_of field header_bytes grown_header fresh_header le_bytes
  grown al us to =
      record {
        signed = refl;
        version = refl;
        header = refl;
        alignment = omega arith;
        used = omega arith;
        total = omega arith;
        flags = refl;
      }

  -- its checksum byte is still 0
  unsummed : get_or (grown_list h room rest) 4 0 ≡ 0
  unfolding header_bytes grown_header fresh_header le_bytes
  unsummed = refl

  -- its checksum, where the header and the rest are its used bytes: the exclusive or of both
  pub grown_fresh : let c = grown_list h room rest in Grown h room c → used_of c ≡ header_size + length rest
      → fresh_checksum c ≡ bit_xor (xor (header_bytes (grown_header h room))) (xor rest)
  unfolding header_of
  grown_fresh g u =
      let c : List ℕ = grown_list h room rest in
      let l : length c ≡ header_size + length rest = rw (length-append, length-header_bytes) in
      let t : take (field c 8 4) c ≡ c = take_all (field c 8 4) c (omega arith) in
      fresh c ∙ rw (g.flags, t, xor-without c 4 (omega arith), unsummed, xor_zero_r, xor-append)
