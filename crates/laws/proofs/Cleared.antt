-- The tidy list of a list that is ready, before it is sealed: its entries, its bytes and its numbers.
use mathlib.Core.Path.{◌≡◌, refl, sym, ◌∙◌}
use Prim.Native.Nat.{ℕ, ◌-◌, ◌^◌, ◌≤◌, ◌<◌}
use native.Mathlib.Omega.{arith}
use mathlib.Core.List.{List, ◌∷◌}
use lib.ListN.{length, get_or, replicate, length-replicate}
use Rattle.wire.specs.Bytes.{field, le_bytes, splice}
use Rattle.wire.proofs.Splice.{length-splice, get_or-splice_in}
use Rattle.wire.proofs.Field.{field-splice_same}
use Rattle.rules.specs.declared.Entry.{Entry}
use Rattle.rules.specs.Header.{header_of, header_size, used_at}
use Rattle.rules.specs.Entries.{entries_of}
use Rattle.rules.specs.Tidy.{tidied, write_voids, tidy_used, give_back, tidy_bytes}
use Rattle.rules.specs.Demand3.{Stretch, bytes_from, live_in, void_stretches}
use Rattle.laws.proofs.Row.{Same}
use Rattle.laws.proofs.Live.{read_same}
use Rattle.laws.proofs.Differs.{Outside, Differs, differs_field, splice_differs, number_differs, length_number}
use Rattle.laws.proofs.Ready.{Ready, ready_top, used_of}
use Rattle.laws.proofs.Written.{Written}
use Rattle.laws.proofs.Change.{Changed, changed_by}
use Rattle.laws.proofs.Tiles.{tiles_le, VoidsOut, Wrote, wrote, voids_same, Tidied, tidied_row, tidied-end, voids_behind}

-- c is d with used_size m, and zeros from there up to u
record GivenBack (d c : List ℕ) (m u : ℕ) : Type 0 where
  pub size : length c ≡ length d
  pub used : used_of c ≡ m
  pub number : Written c used_at (le_bytes 4 m)
  pub same : (i : ℕ) → (8 ≤ i → 12 ≤ i) → (m ≤ i → u ≤ i) → get_or c i 0 ≡ get_or d i 0

given_back : (d : List ℕ) (m u : ℕ) → 24 ≤ m → m ≤ u → u ≤ length d → u < 2 ^ 32 → GivenBack d (give_back u m d) m u
unfolding header_of
given_back d m u low most top short =
    let zeros : List ℕ = replicate (u - m) 0 in
    let lz : length zeros ≡ u - m = length-replicate (u - m) 0 in
    let g : List ℕ = splice d m zeros in
    let lg : length g ≡ length d = length-splice d m zeros (omega arith) in
    record {
      size = length_number g 8 4 m (omega arith) ∙ lg;
      used = field-splice_same g 8 4 m (omega arith) (omega arith);
      number = get_or-splice_in g 8 (le_bytes 4 m) (omega arith);
      same = λ i x y.
          number_differs g 8 4 m (omega arith) i (x, tt)
          ∙ splice_differs d m zeros (omega arith) i ((λ h. let v : u ≤ i = y h in omega arith), tt);
    }

-- c is the tidy list of a, which has the entries es, and is to have u used bytes
pub record Cleared (a c : List ℕ) (base u : ℕ) (es : List Entry) : Type 0 where
  pub changed : Changed a c base (tidied es) (live_in a es)
  pub size : length c ≡ length a
  pub differs : Differs a c (bytes_from used_at 4 ∷ void_stretches es)
  pub used : used_of c ≡ u
  pub low : header_size ≤ u
  pub most : u ≤ used_of a
  pub inside : u ≤ length c
  pub number : Written c used_at (le_bytes 4 u)
  pub voids : VoidsOut c header_size u (tidied es)

-- its entries having been tidied, with the voids written out in d
cleared_by : (a d c : List ℕ) (base : ℕ) (es : List Entry) (r : Ready a base es) (k : Tidied a 24 (used_of a) es)
    → Wrote a d 24 24 k.end (tidied es) (live_in a es) → GivenBack d c k.end (used_of a) → Cleared a c base k.end es
unfolding header_of
cleared_by a d c base es r k w g =
    let u : ℕ = field a 8 4 in
    let m : ℕ = k.end in
    let z = r.header.sizes in
    let top : m ≤ length a = omega (arith, k.most, z.used, z.total) in
    let ld : length d ≡ length a = w.size in
    let lc : length c ≡ length d = g.size in
    let mid : Same d c 24 m = λ i x y. sym (g.same i (λ h. omega arith) (λ h. absurd (omega arith))) in
    let ss : List Stretch = bytes_from 8 4 ∷ void_stretches es in
    let differs : Differs a c ss = λ i o. (let q = k.outside i o.1 in g.same i o.0 q.1 ∙ w.differs i q.0) in
    let head : (i : ℕ) → i < 24 → Outside (void_stretches es) i = voids_behind a 24 u es r.row in
    let al : field c 7 1 ≡ field a 7 1 = differs_field a c ss 7 1 differs (λ i x y. (λ h. absurd (omega arith), head i (omega arith))) in
    let read = rw w.read.live at (read_same d c 24 m (tidied es) w.read.row (omega arith) (omega arith) mid) in
    record {
      changed = changed_by ss r (lc ∙ ld) differs (λ i l h. (h.1.1.0, head i l)) (rw al z.least) (rw al z.most)
          (rw g.used (omega (arith, k.most, z.used))) (rw g.used read);
      size = lc ∙ ld;
      differs = differs;
      used = g.used;
      low = tiles_le k.tiles;
      most = k.most;
      inside = omega arith;
      number = g.number;
      voids = voids_same d c 24 m (tidied es) mid w.voids;
    }

-- it is what the rule seals
pub cleared : (a : List ℕ) (base : ℕ) → Ready a base (entries_of a) → Cleared a (tidy_bytes a) base (tidy_used a) (entries_of a)
unfolding tidy_bytes
cleared a base r =
    let es : List Entry = entries_of a in
    let u : ℕ = used_of a in
    let d : List ℕ = write_voids (tidied es) a in
    let top : used_of a ≤ length a = ready_top a base es r in
    let short : used_of a < 2 ^ 32 = omega (arith, r.header.usable.short) in
    let k : Tidied a 24 u es = tidied_row a 24 u es short r.row in
    let end : tidy_used a ≡ k.end = tidied-end k in
    let w = wrote 24 a (omega arith) (omega (arith, k.most)) (omega (arith, k.most)) (λ i x y. refl) k.tiles in
    let g = given_back d k.end u (tiles_le k.tiles) k.most (omega (arith, w.size)) short in
    rw end (cleared_by a d (give_back u k.end d) base es r k w g)
