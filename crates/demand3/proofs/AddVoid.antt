-- Demand 3 for an add that takes a void.
use Rattle.std.specs.Prelude.{Some}
use mathlib.Core.Path.{◌≡◌, refl, sym, ◌∙◌, subst}
use Prim.Native.Nat.{ℕ, ◌+◌, ◌-◌, ◌%◌, ◌^◌, ◌≤◌, ◌<◌}
use native.Mathlib.Omega.{arith}
use mathlib.Core.Bool.{Bool, true, false, cond}
use mathlib.Core.List.{List, [], ◌∷◌, ◌++◌}
use lib.ListN.{length, length-append}
use lib.Dec.{leb}
use borrow.Author.Tests.{leb-true, leb-false}
use Rattle.wire.proofs.Apart.{apart}
use Rattle.wire.specs.Bytes.{splice}
use Rattle.rules.specs.declared.Entry.{Entry}
use Rattle.rules.specs.Area.{max_length}
use Rattle.rules.specs.Header.{header_size}
use Rattle.rules.specs.Entries.{entry_header, is_void, span, entries_of, live_count}
use Rattle.rules.specs.Checksum.{seal}
use Rattle.rules.specs.Add.{entry_span, entry_bytes, taken_void, remainder, void_behind, first_fit}
use Rattle.rules.specs.Edit.{to_add}
use Rattle.rules.specs.Demand3.{AcceptedV1, Holds, Live, live_in, reading, put_in, live_before}
use Rattle.laws.proofs.EntryBytes.{length-entry_bytes, length-entry_header}
use Rattle.laws.proofs.Live.{Read, read_none, read_append, first_fit_lem, live-append, live-length, before_all, before_none, put_in_lem}
use Rattle.laws.proofs.Ready.{Ready, ready_of, used_of}
use Rattle.laws.proofs.Written.{Written, written_left, written_right, written_void, written_entry, entry_of}
use Rattle.laws.proofs.Change.{Put, put_splice, Placed, placed, change_within}
use Rattle.demand3.proofs.InPlace.{in_place_holds}

-- the bytes that an add writes over a void of v bytes of data
abbrev pub filling : ℕ → List ℕ → ℕ → List ℕ
filling tag content v = entry_bytes tag content ++ void_behind v (length content)

-- what is written behind the entry fits there
behind-fits : (v n : ℕ) → length (void_behind v n) ≤ remainder v n
unfolding void_behind
behind-fits v n = go (leb 8 (remainder v n)) refl
  where
    go : (b : Bool) → leb 8 (remainder v n) ≡ b → length (cond b (entry_header 0 (remainder v n - 8)) []) ≤ remainder v n
    go true k = rw length-entry_header (leb-true 8 (remainder v n) k)
    go false k = omega arith

-- and makes a void of what is left, if anything is
behind-void : (c : List ℕ) (p v n q : ℕ) → p + remainder v n ≡ q → v % 8 ≡ 0 → v < 2 ^ 32 → Written c p (void_behind v n)
    → (ys : List Entry) × Read c p q ys []
unfolding void_behind
behind-void c p v n q e v8 h w = go (leb 8 (remainder v n)) refl w
  where
    go : (b : Bool) → leb 8 (remainder v n) ≡ b → Written c p (cond b (entry_header 0 (remainder v n - 8)) [])
        → (ys : List Entry) × Read c p q ys []
    go true k x =
        let l : 8 ≤ remainder v n = leb-true 8 (remainder v n) k in
        (entry_of p 0 (remainder v n - 8) ∷ [], written_void c p (remainder v n - 8) q (omega arith) (omega arith) (omega arith) x)
    go false k x = let l : remainder v n < 8 = leb-false 8 (remainder v n) k in ([], read_none c p q (omega arith))

-- the new entry's position among the live ones: behind those before the void
put_there : (a : List ℕ) (xs : List Entry) (e : Entry) (ys : List Entry) (x : Live) → Placed a xs e ys → is_void e ≡ true
    → put_in (live_before e.at (xs ++ (e ∷ ys))) x (live_in a (xs ++ (e ∷ ys))) ≡ live_in a xs ++ (x ∷ live_in a ys)
unfolding live_before live_in
put_there a xs e ys x p empty =
    let z : live_before e.at (e ∷ ys) ≡ 0 = rw empty (before_none a e.at (e.at + span e) (used_of a) ys p.back (omega arith)) in
    let b = before_all a e.at header_size e.at xs (e ∷ ys) p.front (omega arith) z in
    let l : live_in a (xs ++ (e ∷ ys)) ≡ live_in a xs ++ live_in a ys = live-append a xs (e ∷ ys) ∙ rw empty in
    rw (b, l) (put_in_lem (live_count xs) x (live_in a xs) (live_in a ys) (live-length a xs))

module _ (a : List ℕ) (base tag value : ℕ) (content : List ℕ) (use_voids : Bool) (bytes : List ℕ) (e : Entry) (solid : 0 < tag)
    (low : tag < 2 ^ 24) (found : taken_void use_voids (length content) a ≡ Some e)
    (is : seal (splice a e.at (filling tag content e.data_size)) ≡ bytes) where
  -- the entry in the place of the void e
  filled : (xs ys : List Entry) → entries_of a ≡ xs ++ (e ∷ ys) → Ready a base (xs ++ (e ∷ ys)) → is_void e ≡ true
      → length content ≤ e.data_size → Holds (to_add tag content use_voids) a base value bytes
  unfolding reading
  filled xs ys whole r empty fits =
      let p : Placed a xs e ys = placed a base xs e ys r in
      let n : ℕ = length content in
      let v : ℕ = e.data_size in
      let s : ℕ = e.at + entry_span n in
      let new : List ℕ = filling tag content v in
      let c : List ℕ = splice a e.at new in
      let v8 : e.data_size % 8 ≡ 0 = p.regular.eights empty in
      let w : span e ≡ entry_span n + remainder v n = omega (arith, p.regular.header) in
      let le : length (entry_bytes tag content) ≡ entry_span n = length-entry_bytes tag content in
      let ln : length new ≡ entry_span n + length (void_behind v n) = rw (length-append, le) in
      let ll : length new ≤ span e = omega (arith, behind-fits v n) in
      let high : e.at + span e ≤ length a = omega (arith, p.high, r.header.sizes.used, r.header.sizes.total) in
      let short : length a ≤ max_length = r.header.usable.short in
      let t : Put a c e.at new = put_splice a e.at new (omega arith) in
      let y = written_right c e.at (entry_bytes tag content) (void_behind v n) (entry_span n) le t.written in
      let b = behind-void c s v n (e.at + span e) (omega arith) v8 (omega arith) y in
      let x = written_left c e.at (entry_bytes tag content) (void_behind v n) t.written in
      let k = written_entry c e.at tag content solid low (omega arith) (omega (arith, t.size)) x in
      in_place_holds (to_add tag content use_voids) a base value bytes refl is (rw (found, ln)) p.low t
      (change_within (e.at + span e) xs ys r t (omega arith) p.front p.back (read_append k b.1))
      (rw (found, whole) (sym (put_there a xs e ys (record { tag = tag; content = content }) p empty))) tt

  -- the entry in the place of the void that is taken
  pub add-void_holds : AcceptedV1 a base → Holds (to_add tag content use_voids) a base value bytes
  add-void_holds accepted =
      let k = first_fit_lem (length content) (entries_of a) e (seek use_voids found) in
      filled k.0.before k.0.behind k.0.whole (subst (Ready a base) k.0.whole (ready_of a base accepted)) k.1 k.2
    where
      seek : (b : Bool) → taken_void b (length content) a ≡ Some e → first_fit (length content) (entries_of a) ≡ Some e
      seek true h = h
      seek false h = apart cc
