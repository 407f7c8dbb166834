-- Demand 3 for tidy, and that tidying twice is the same as once.
use mathlib.Core.Path.{◌≡◌, refl, sym, ap, ◌∙◌}
use Prim.Native.Nat.{ℕ, ◌+◌, ◌-◌}
use native.Mathlib.Omega.{arith}
use mathlib.Core.List.{List, ◌∷◌, map}
use lib.ListN.{length, get_or}
use Rattle.wire.specs.Bytes.{le_bytes}
use Rattle.wire.proofs.Splice.{splice-nil}
use Rattle.wire.proofs.Field.{length-le_bytes}
use Rattle.rules.specs.declared.Entry.{Entry}
use Rattle.rules.specs.Header.{header_size, with_used}
use Rattle.rules.specs.Edition.{current}
use Rattle.rules.specs.Entries.{data_offset, entries_of, live_ones}
use Rattle.rules.specs.Checksum.{seal}
use Rattle.rules.specs.Check.{admit}
use Rattle.rules.specs.Outcome.{done}
use Rattle.rules.specs.Tidy.{tidied, write_voids, end_of, tidy_used, tidy_bytes, tidy}
use Rattle.rules.specs.Edit.{to_tidy, act}
use Rattle.rules.specs.Demand3.{AcceptedV1, Holds, bytes_from, reading, void_stretches}
use Rattle.rules.specs.TidyTwice.{TidyOnce, TidyTwice}
use Rattle.laws.proofs.Row.{Same}
use Rattle.laws.proofs.Differs.{Outside, outside, seal_differs}
use Rattle.laws.proofs.Seal.{seal-length, seal-used, seal-again}
use Rattle.laws.proofs.Ready.{ready_of, accepted, used_of}
use Rattle.laws.proofs.Change.{Settled, settle}
use Rattle.laws.proofs.Tidy.{tidied-tidied, live-tidied, tidied-is-tidy}
use Rattle.laws.proofs.Tiles.{voids_same, splice_written, wrote_again}
use Rattle.laws.proofs.Cleared.{Cleared, cleared}
use Rattle.demand3.proofs.InPlace.{admitted_done, admits, sealed_holds}

-- ---- demand 3

-- Demand 3 for tidy
pub tidy_holds : (a : List ℕ) (base value : ℕ) (bytes : List ℕ) → AcceptedV1 a base → tidy a ≡ done value bytes → Holds to_tidy a base value bytes
unfolding tidy reading
tidy_holds a base value bytes h is =
    let es : List Entry = entries_of a in
    let c : List ℕ = tidy_bytes a in
    let k : Cleared a c base (tidy_used a) es = cleared a base (ready_of a base h) in
    let q : Settled c base (tidied es) (seal c) = settle c base (tidied es) k.changed.ready in
    let sealed : seal c ≡ bytes = cc in
    let others : (i : ℕ) → Outside (bytes_from 4 1 ∷ bytes_from 8 4 ∷ void_stretches es) i → get_or (seal c) i 0 ≡ get_or a i 0 =
    λ i o. seal_differs c i (o.0, tt) ∙ k.differs i o.1 in
    sealed_holds to_tidy a base value bytes refl sealed k.size (λ i n. others i (outside _ i n)) k.changed refl
    (ap (λ (l : List Entry). map (λ (e : Entry). base + data_offset e) l) (ap live_ones q.walked ∙ live-tidied es))

-- ---- tidying twice

-- b has the entries ts and u used bytes, and all that a tidying of it writes stands there
record Standing (b : List ℕ) (u : ℕ) (ts : List Entry) : Type 0 where
  pub walked : entries_of b ≡ ts
  pub tidy : tidied ts ≡ ts
  pub end : end_of header_size (live_ones ts) ≡ u
  pub used : used_of b ≡ u
  pub voids : write_voids ts b ≡ b
  pub number : with_used u b ≡ b
  pub checksum : seal b ≡ b

-- then tidying changes nothing
standing_bytes : (b : List ℕ) (u : ℕ) (ts : List Entry) → Standing b u ts → tidy_bytes b ≡ b
unfolding tidy_bytes
standing_bytes b u ts s =
    let none : u - u ≡ 0 = omega arith in
    rw (s.walked, s.tidy, s.voids, s.end, s.used, none, splice-nil b u, s.number)

standing_tidy : (b : List ℕ) (u : ℕ) (ts : List Entry) → Standing b u ts → tidy b ≡ done u b
unfolding tidy
standing_tidy b u ts s = rw (standing_bytes b u ts s, s.walked, s.end, s.checksum)

-- of a list that was tidied all that stands there
once : (a : List ℕ) (base : ℕ) → AcceptedV1 a base → TidyOnce base (tidy_used a) (seal (tidy_bytes a))
once a base h =
    let es : List Entry = entries_of a in
    let c : List ℕ = tidy_bytes a in
    let b : List ℕ = seal c in
    let u : ℕ = tidy_used a in
    let k : Cleared a c base u es = cleared a base (ready_of a base h) in
    let q : Settled c base (tidied es) b = settle c base (tidied es) k.changed.ready in
    let lb : length b ≡ length c = seal-length c in
    let mid : Same c b 24 u = λ i x y. sym (seal_differs c i (λ z. omega arith, tt)) in
    let l4 : length (le_bytes 4 u) ≡ 4 = length-le_bytes 4 u in
    let s : Standing b u (tidied es) =
    record {
      walked = q.walked;
      tidy = tidied-tidied es;
      end = ap (end_of header_size) (live-tidied es);
      used = seal-used c ∙ k.used;
      voids = wrote_again b 24 u (tidied es) (omega (arith, k.inside)) (voids_same c b 24 u (tidied es) mid k.voids);
      number = splice_written b 8 (le_bytes 4 u) (omega (arith, k.low, k.inside))
          (λ i l. seal_differs c (8 + i) (λ z. omega arith, tt) ∙ k.number i l);
      checksum = seal-again b q.checksum;
    } in
    record { twice = admits b base q.again (tidy b) ∙ standing_tidy b u (tidied es) s; tidy = rw q.walked (tidied-is-tidy es) }

-- The theorem: of any list at any base whose tidying is not refused, tidying the result again answers the same and leaves the same bytes;
-- in the result no two voids are neighbours, and the last entry, if there is one, is live.
pub tidy-twice : TidyTwice
unfolding tidy
tidy-twice a base value bytes h =
    let k = admitted_done current a base (admit a base) (act to_tidy a base) value bytes refl h in
    let v : tidy_used a ≡ value = cc in
    let b : seal (tidy_bytes a) ≡ bytes = cc in
    rw (← v, ← b) (once a base (accepted a base k.0 k.1))
