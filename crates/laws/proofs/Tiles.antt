-- Tidying, byte by byte: the entries to be, the voids among them written out, and what a row comes to when it is tidied.
use mathlib.Core.Path.{◌≡◌, refl, sym, ap, ◌∙◌, subst}
use Prim.Native.Nat.{ℕ, ◌+◌, ◌%◌, ◌^◌, ◌≤◌, ◌<◌}
use native.Mathlib.Omega.{arith}
use mathlib.Core.Bool.{Bool, true, false, cond}
use mathlib.Core.List.{List, [], ◌∷◌, ◌++◌}
use lib.ListN.{length, take, drop, replicate}
use borrow.Author.Tests.{eqb-true}
use Rattle.wire.specs.Bytes.{splice}
use Rattle.wire.proofs.Splice.{in_three, length-splice, get_or-splice_in, get_or-splice-behind}
use Rattle.rules.specs.declared.Entry.{Entry}
use Rattle.rules.specs.Entries.{entry_header, is_void, span, live_ones}
use Rattle.rules.specs.AddAligned.{void_bytes}
use Rattle.rules.specs.Tidy.{joined, void_before, tidied, write_voids, end_of}
use Rattle.rules.specs.Demand3.{Live, live_at, live_in, Stretch, bytes_from, void_stretches}
use Rattle.laws.proofs.Walk.{All}
use Rattle.laws.proofs.Row.{absurd_bool, Row, Same, row_le, place_of}
use Rattle.laws.proofs.Lists.{part-is}
use Rattle.laws.proofs.EntryBytes.{length-void_bytes}
use Rattle.laws.proofs.Live.{Read, read_none, read_append, read_same}
use Rattle.laws.proofs.Differs.{Outside, Differs, splice_differs}
use Rattle.laws.proofs.Written.{Written, written_left, written_void, entry_of}

-- ---- tiles

-- one behind the other, from p to m: voids that are yet to be written out, and live entries of a, of which xs is read
pub data Tiles (a : List ℕ) (m : ℕ) : ℕ → List Entry → List Live → Type 0 where
  ends : {p : ℕ} → p ≡ m → Tiles a m p [] []
  void : {p n : ℕ} {ts : List Entry} {xs : List Live} → n % 8 ≡ 0 → n < 2 ^ 32 → Tiles a m (p + (8 + n)) ts xs → Tiles a m p (entry_of p 0 n ∷ ts) xs
  live : {p q : ℕ} {t : Entry} {ts : List Entry} {x : Live} {xs : List Live} → is_void t ≡ false → Read a p q (t ∷ []) (x ∷ [])
      → Tiles a m q ts xs → Tiles a m p (t ∷ ts) (x ∷ xs)

module _ {a : List ℕ} {m : ℕ} where
  -- they do not end before they start
  pub tiles_le : {p : ℕ} {ts : List Entry} {xs : List Live} → Tiles a m p ts xs → p ≤ m
  tiles_le (ends e) = omega arith
  tiles_le (void h l t) = omega (arith, tiles_le t)
  tiles_le {p} (live {q = q} {t = e} v r t) = omega (arith, row_le a p q (e ∷ []) r.row, tiles_le t)

  -- no void of theirs covers a place before them
  tiles_before : {p : ℕ} {ts : List Entry} {xs : List Live} → Tiles a m p ts xs → (i : ℕ) → i < p → Outside (void_stretches ts) i
  unfolding void_stretches
  tiles_before (ends e) i l = tt
  tiles_before (void h k t) i l = (omega arith, tiles_before t i (omega arith))
  tiles_before {p} (live {q = q} {t = e} v r t) i l = rw v (tiles_before t i (omega (arith, row_le a p q (e ∷ []) r.row)))

-- ---- the voids written out

-- a void between low and m is written out in c
pub record Out (c : List ℕ) (low m : ℕ) (t : Entry) : Type 0 where
  pub behind : low ≤ t.at
  pub inside : t.at + length (void_bytes t.data_size) ≤ m
  pub written : Written c t.at (void_bytes t.data_size)

-- so is every void among ts
abbrev pub VoidsOut : List ℕ → ℕ → ℕ → List Entry → Type 0
VoidsOut c low m ts = All (λ (t : Entry). is_void t ≡ true → Out c low m t) ts

-- c is a with the voids among ts, which stand from p to m, written out
pub record Wrote (a c : List ℕ) (low p m : ℕ) (ts : List Entry) (xs : List Live) : Type 0 where
  pub size : length c ≡ length a
  pub read : Read c p m ts xs
  pub voids : VoidsOut c low m ts
  pub differs : Differs a c (void_stretches ts)

-- and so it is, where ts are tiles of a list with the same bytes there
pub wrote : {a₀ : List ℕ} {m p : ℕ} {ts : List Entry} {xs : List Live} (low : ℕ) (a : List ℕ) → low ≤ p → m ≤ length a₀ → m ≤ length a → Same a₀ a p m
    → Tiles a₀ m p ts xs → Wrote a (write_voids ts a) low p m ts xs
unfolding write_voids void_stretches void_bytes
wrote {m = m} {p = p} low a h l₀ l s (ends e) = record { size = refl; read = read_none a p m e; voids = tt; differs = λ i o. refl }
wrote {a₀} {m} {p} low a h l₀ l s (live {q = q} {t = e} {ts = ts} v r t) =
    let p≤q : p ≤ q = row_le a₀ p q (e ∷ []) r.row in
    let q≤m : q ≤ m = tiles_le t in
    let k = wrote low a (omega arith) l₀ l (λ i x y. s i (omega arith) y) t in
    let c : List ℕ = write_voids ts a in
    let n : length c ≡ length a = k.size in
    let same : Same a₀ c p q = λ i x y. s i x (omega arith) ∙ sym (k.differs i (tiles_before t i y)) in
    rw v (record {
      size = n;
      read = read_append (rw r.live at (read_same a₀ c p q (e ∷ []) r.row (omega arith) (omega arith) same)) k.read;
      voids = (λ w. absurd_bool (sym w ∙ v), k.voids);
      differs = λ i o. k.differs i (rw v at o);
    })
wrote {m = m} {p = p} low a h l₀ l s (void {n = n} {ts = ts} h8 hn t) =
    let new : List ℕ = void_bytes n in
    let b : List ℕ = splice a p new in
    let ln : length new ≡ 8 + n = length-void_bytes n in
    let high : p + (8 + n) ≤ m = tiles_le t in
    let lb : length b ≡ length a = length-splice a p new (omega arith) in
    let k = wrote low b (omega arith) l₀ (omega arith) (λ i x y. s i (omega arith) y ∙ sym (get_or-splice-behind a p new (omega arith) i (omega arith))) t in
    let c : List ℕ = write_voids ts b in
    let lc : length c ≡ length b = k.size in
    let w : Written c p new = λ i x. k.differs (p + i) (tiles_before t (p + i) (omega arith)) ∙ get_or-splice_in a p new (omega arith) i x in
    record {
      size = lc ∙ lb;
      read = read_append (written_void c p n (p + (8 + n)) refl h8 hn (written_left c p (entry_header 0 n) (replicate n 0) w)) k.read;
      voids = (λ v. record { behind = h; inside = omega arith; written = w }, k.voids);
      differs = λ i o. k.differs i o.1
          ∙ splice_differs a p new (omega arith) i ((λ x. let y : p + span (entry_of p 0 n) ≤ i = o.0 x in omega arith), tt);
    }

-- they are written out in another list with the same bytes there
pub voids_same : (d c : List ℕ) (low m : ℕ) (ts : List Entry) → Same d c low m → VoidsOut d low m ts → VoidsOut c low m ts
voids_same d c low m [] s h = tt
voids_same d c low m (t ∷ ts) s h = (λ v. moved (h.0 v), voids_same d c low m ts s h.1)
  where
    moved : Out d low m t → Out c low m t
    moved o =
        record {
          behind = o.behind;
          inside = o.inside;
          written = λ i l. sym (s (t.at + i) (omega (arith, o.behind)) (omega (arith, o.inside))) ∙ o.written i l;
        }

-- bytes put in where they stand change nothing
pub splice_written : (c : List ℕ) (p : ℕ) (new : List ℕ) → p + length new ≤ length c → Written c p new → splice c p new ≡ c
unfolding splice
splice_written c p new l w =
    sym (ap (λ (x : List ℕ). take p c ++ (x ++ drop (p + length new) c)) (part-is c p new l w)) ∙ in_three c p (length new)

-- and so does writing out voids that are written out
pub wrote_again : (c : List ℕ) (low m : ℕ) (ts : List Entry) → m ≤ length c → VoidsOut c low m ts → write_voids ts c ≡ c
unfolding write_voids
wrote_again c low m [] l h = refl
wrote_again c low m (t ∷ ts) l h = go (is_void t) refl (wrote_again c low m ts l h.1)
  where
    new : List ℕ
    new = void_bytes t.data_size

    go : (b : Bool) → is_void t ≡ b → write_voids ts c ≡ c → write_voids ts (cond b (splice c t.at new) c) ≡ c
    go true v k = let o = h.0 v in rw (splice_written c t.at new (omega (arith, o.inside)) o.written) k
    go false v k = k

-- ---- a row, tidied

-- where entries that stand up to m end, counted from x where there are none
abbrev end_in : List Entry → ℕ → ℕ → ℕ
end_in [] x m = x
end_in (t ∷ ts) x m = m

-- tiles end where they end
end_tiles : {a : List ℕ} {m p : ℕ} {ts : List Entry} {xs : List Live} → Tiles a m p ts xs → end_in ts p m ≡ m
end_tiles (ends e) = e
end_tiles (void h l t) = refl
end_tiles (live v r t) = refl

-- a void in front does not move the end
end_before : (e : Entry) (ts : List Entry) (x p m : ℕ) → end_in ts x m ≡ end_in (void_before e ts) x (end_in ts p m)
end_before e [] x p m = refl
end_before e (f ∷ fs) x p m = go (is_void f)
  where
    go : (b : Bool) → m ≡ end_in (cond b (joined e f ∷ fs) (e ∷ f ∷ fs)) x m
    go true = refl
    go false = refl

-- the entries es, which stand in a from p to q, when they are tidied: they end at `end`, where the last live one does; and a place outside the
-- voids' stretches is outside those of the tidy list, and not given back
pub record Tidied (a : List ℕ) (p q : ℕ) (es : List Entry) : Type 0 where
  pub end : ℕ
  pub tiles : Tiles a end p (tidied es) (live_in a es)
  pub last : (x : ℕ) → end_of x (live_ones es) ≡ end_in (tidied es) x end
  pub most : end ≤ q
  pub outside : (i : ℕ) → Outside (void_stretches es) i → Outside (void_stretches (tidied es)) i × (end ≤ i → q ≤ i)

-- a void of n bytes of data at p, in front of tiles
record Fronted (a : List ℕ) (p q n m : ℕ) (ts : List Entry) (xs : List Live) : Type 0 where
  pub tiles : Tiles a (end_in ts p m) p (void_before (entry_of p 0 n) ts) xs
  pub most : end_in ts p m ≤ q
  pub outside : (i : ℕ) → (p ≤ i → p + (8 + n) ≤ i) → Outside (void_stretches ts) i → (m ≤ i → q ≤ i)
      → Outside (void_stretches (void_before (entry_of p 0 n) ts)) i × (end_in ts p m ≤ i → q ≤ i)

fronted : {a : List ℕ} {p q n m : ℕ} {ts : List Entry} {xs : List Live} → n % 8 ≡ 0 → m ≤ q → q < 2 ^ 32 → Tiles a m (p + (8 + n)) ts xs
    → Fronted a p q n m ts xs
unfolding void_stretches
fronted {p = p} {q = q} {n = n} h8 most short (ends e) =
    record { tiles = ends refl; most = omega arith; outside = λ i o k g. (tt, λ x. let y : p + (8 + n) ≤ i = o x in g (omega arith)) }
fronted {a} {p} {q} {n} {m} h8 most short (void {n = n₂} {ts = ts} k8 hn t) =
    let s : span (entry_of (p + (8 + n)) 0 n₂) ≡ 8 + n₂ = omega arith in
    let j : p + (8 + n) + (8 + n₂) ≡ p + (8 + (n + (8 + n₂))) = omega arith in
    let l : p + (8 + n) + (8 + n₂) ≤ m = tiles_le t in
    record {
      tiles = rw s (void {n = n + (8 + n₂)} (omega arith) (omega arith) (rw j at t));
      most = most;
      outside = λ i o k g. (
        (
          λ x.
              let y : p + (8 + n) ≤ i = o x in
              let z : p + (8 + n) + span (entry_of (p + (8 + n)) 0 n₂) ≤ i = k.0 y in
              omega arith,
          k.1,
        ),
        g,
      );
    }
fronted {p = p} {n = n} h8 most short (live v r t) =
    let l = tiles_le (live v r t) in
    record {
      tiles = rw v (void h8 (omega arith) (live v r t));
      most = most;
      outside = λ i o k g. (rw v ((λ x. let y : p + (8 + n) ≤ i = o x in omega arith), k), g);
    }

-- an entry by its parts
pub entry_is : (at tag header n p : ℕ) → at ≡ p → tag ≡ 0 → header ≡ 8
    → ◌≡◌ {A = Entry} (record { at = at; tag_id = tag; hdr_size = header; data_size = n }) (entry_of p 0 n)
entry_is at tag header n p h k l = rw (h, k, l)

-- each row is tidied so
pub tidied_row : (a : List ℕ) (p q : ℕ) (es : List Entry) → q < 2 ^ 32 → Row a p q es → Tidied a p q es
unfolding tidied live_ones end_of void_stretches live_in
tidied_row a p q [] short r =
    record { end = p; tiles = ends refl; last = λ x. refl; most = omega arith; outside = λ i o. (tt, λ x. omega arith) }
tidied_row a p q (e ∷ es) short r = go (is_void e) refl (tidied_row a (p + span e) q es short r.2)
  where
    at : e.at ≡ p
    at = place_of a p r.0

    go : (b : Bool) → is_void e ≡ b → Tidied a (p + span e) q es → Tidied a p q (e ∷ es)
    go false v k =
        record {
          end = k.end;
          tiles = rw v (live {x = live_at a e} v (record { row = (r.0, r.1, refl); live = rw v }) k.tiles);
          last = λ x. rw v (k.last (e.at + span e) ∙ rw at (end_tiles k.tiles));
          most = k.most;
          outside = λ i o.
              let same : void_stretches (e ∷ tidied es) ≡ void_stretches (tidied es) = rw v in
              rw v (subst (λ (ss : List Stretch). Outside ss i × (k.end ≤ i → q ≤ i)) (sym same) (k.outside i (rw v at o)));
        }
    go true v k =
        let n : ℕ = e.data_size in
        let n8 : e.data_size % 8 ≡ 0 = r.1.eights v in
        let s : span e ≡ 8 + e.data_size = omega (arith, r.1.header) in
        let is : e ≡ entry_of p 0 n = entry_is e.at e.tag_id e.hdr_size n p at (eqb-true _ _ v) r.1.header in
        let f = fronted {n = n} n8 k.most short (rw s at k.tiles) in
        record {
          end = end_in (tidied es) p k.end;
          tiles = rw v (subst (λ (x : Entry). Tiles a (end_in (tidied es) p k.end) p (void_before x (tidied es)) (live_in a es)) (sym is) f.tiles);
          last = λ x. rw v (k.last x ∙ end_before e (tidied es) x p k.end);
          most = f.most;
          outside = λ i o.
              let o₂ = rw v at o in
              let g = k.outside i o₂.1 in
              rw v (subst (λ (x : Entry). Outside (void_stretches (void_before x (tidied es))) i × (end_in (tidied es) p k.end ≤ i → q ≤ i)) (sym is)
              (f.outside i (λ x. let low : e.at ≤ i = omega (arith, at) in let y : e.at + span e ≤ i = o₂.0 low in omega (arith, at)) g.0 g.1));
        }

-- the last live entry of a row ends where its tidied entries do
pub tidied-end : {a : List ℕ} {p q : ℕ} {es : List Entry} → (k : Tidied a p q es) → end_of p (live_ones es) ≡ k.end
tidied-end {p = p} k = k.last p ∙ end_tiles k.tiles

-- no void of a row covers a place before it
pub voids_behind : (a : List ℕ) (p q : ℕ) (es : List Entry) → Row a p q es → (i : ℕ) → i < p → Outside (void_stretches es) i
unfolding void_stretches
voids_behind a p q [] r i l = tt
voids_behind a p q (e ∷ es) r i l = go (is_void e) (voids_behind a (p + span e) q es r.2 i (omega arith))
  where
    at : e.at ≡ p
    at = place_of a p r.0

    go : (b : Bool) → Outside (void_stretches es) i → Outside (cond b (bytes_from e.at (span e) ∷ void_stretches es) (void_stretches es)) i
    go true k = (λ x. absurd (omega (arith, at)), k)
    go false k = k
