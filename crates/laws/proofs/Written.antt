-- Entries as they are written: bytes that stand at a place of a list, and the row that an entry's own bytes make there.
use mathlib.Core.Path.{◌≡◌, refl, sym, ◌∙◌}
use Prim.Native.Nat.{ℕ, ◌+◌, ◌-◌, ◌%◌, ◌^◌, ◌≤◌, ◌<◌}
use native.Mathlib.Omega.{arith}
use native.Mathlib.Nat.{zero-add}
use mathlib.Core.Bool.{false}
use mathlib.Core.List.{List, [], ◌∷◌, ◌++◌}
use lib.ListN.{length, take, drop, get_or, replicate, length-append, get_or-append}
use lib.Seq.{get_or-append-add}
use borrow.Author.Tests.{ne_eqb}
use Rattle.wire.specs.Bytes.{field, le_bytes}
use Rattle.wire.proofs.Field.{field_cong, field-le_bytes, length-le_bytes}
use Rattle.rules.specs.declared.Entry.{Entry}
use Rattle.rules.specs.Area.{align8}
use Rattle.rules.specs.Entries.{entry_at, entry_header, is_void}
use Rattle.rules.specs.Add.{entry_span, entry_bytes}
use Rattle.rules.specs.Demand3.{live_in}
use Rattle.laws.proofs.EntryBytes.{length-entry_header}
use Rattle.laws.proofs.Row.{absurd_bool}
use Rattle.laws.proofs.Lists.{part-is}
use Rattle.laws.proofs.Live.{Read}

-- the bytes new stand in c from place p on
abbrev pub Written : List ℕ → ℕ → List ℕ → Type 0
Written c p new = (i : ℕ) → i < length new → get_or c (p + i) 0 ≡ get_or new i 0

-- of two stretches the first stands there
pub written_left : (c : List ℕ) (p : ℕ) (x y : List ℕ) → Written c p (x ++ y) → Written c p x
written_left c p x y h i l = h i (omega (arith, length-append x y)) ∙ get_or-append x y 0 i l

-- and the second behind it
pub written_right : (c : List ℕ) (p : ℕ) (x y : List ℕ) (n : ℕ) → length x ≡ n → Written c p (x ++ y) → Written c (p + n) y
written_right c p x y n e h i l =
    let k : get_or c (p + (length x + i)) 0 ≡ get_or (x ++ y) (length x + i) 0 = h (length x + i) (omega (arith, length-append x y)) in
    let q : p + n + i ≡ p + (length x + i) = omega arith in
    rw q (k ∙ get_or-append-add x y i 0)

-- a number whose bytes stand there is read there
written_field : (c : List ℕ) (p k n : ℕ) → n < 256 ^ k → Written c p (le_bytes k n) → field c p k ≡ n
written_field c p k n h w =
    let e : length (le_bytes k n) ≡ k = length-le_bytes k n in
    field_cong c (le_bytes k n) p 0 k (λ i l. rw zero-add (w i (omega arith))) ∙ field-le_bytes k n h

-- the entry with a tag and n bytes of data at a place
abbrev pub entry_of : ℕ → ℕ → ℕ → Entry
entry_of p tag n = record { at = p; tag_id = tag; hdr_size = 8; data_size = n }

-- an entry header that stands there is read there
pub written_header : (c : List ℕ) (p tag n : ℕ) → tag < 2 ^ 24 → n < 2 ^ 32 → Written c p (entry_header tag n) → entry_of p tag n ≡ entry_at c p
unfolding entry_header entry_at
written_header c p tag n ht hn w =
    let x : List ℕ = le_bytes 1 8 ++ le_bytes 4 n in
    let t : field c p 3 ≡ tag = written_field c p 3 tag ht (written_left c p (le_bytes 3 tag) x w) in
    let r : Written c (p + 3) x = written_right c p (le_bytes 3 tag) x 3 (length-le_bytes 3 tag) w in
    let s : field c (p + 3) 1 ≡ 8 = written_field c (p + 3) 1 8 (omega arith) (written_left c (p + 3) (le_bytes 1 8) (le_bytes 4 n) r) in
    let q : p + 3 + 1 ≡ p + 4 = omega arith in
    let d : field c (p + 4) 4 ≡ n =
    written_field c (p + 4) 4 n hn (rw q at (written_right c (p + 3) (le_bytes 1 8) (le_bytes 4 n) 1 (length-le_bytes 1 8) r)) in
    rw (t, s, d)

-- a void whose header stands there is not read
pub written_void : (c : List ℕ) (p n q : ℕ) → p + (8 + n) ≡ q → n % 8 ≡ 0 → n < 2 ^ 32 → Written c p (entry_header 0 n)
    → Read c p q (entry_of p 0 n ∷ []) []
unfolding live_in
written_void c p n q e h8 hn w =
    record {
      row = (written_header c p 0 n (omega arith) hn w, record { header = refl; eights = λ t. h8 }, omega arith);
      live = refl;
    }

-- an entry whose bytes stand there is read with its tag and its data
pub written_entry : (c : List ℕ) (p tag : ℕ) (content : List ℕ) → 0 < tag → tag < 2 ^ 24 → length content < 2 ^ 32
    → p + entry_span (length content) ≤ length c → Written c p (entry_bytes tag content)
    → Read c p (p + entry_span (length content)) (entry_of p tag (length content) ∷ []) (record { tag = tag; content = content } ∷ [])
unfolding entry_bytes live_in
written_entry c p tag content solid low short l w =
    let n : ℕ = length content in
    let z : List ℕ = replicate (align8 n - n) 0 in
    let live : is_void (entry_of p tag n) ≡ false = ne_eqb tag 0 (λ e. omega arith) in
    let r : Written c (p + 8) (content ++ z) = written_right c p (entry_header tag n) (content ++ z) 8 (length-entry_header tag n) w in
    let d : take n (drop (p + 8) c) ≡ content = part-is c (p + 8) content (omega arith) (written_left c (p + 8) content z r) in
    record {
      row = (
        written_header c p tag n low short (written_left c p (entry_header tag n) (content ++ z) w),
        record { header = refl; eights = λ t. absurd_bool (sym t ∙ live) },
        refl,
      );
      live = rw (live, d);
    }
