-- The law of change: how a list that is ready becomes another, and that a ready list can be sealed. New bytes are put in at one
-- place, and of the header only the checksum, the alignment and used_size may change.
use mathlib.Core.Path.{◌≡◌, refl, sym, ap, ◌∙◌}
use mathlib.Core.Logic.{inl}
use Prim.Native.Nat.{ℕ, ◌+◌, ◌≤◌, ◌<◌}
use native.Mathlib.Omega.{arith}
use mathlib.Core.List.{List, [], ◌∷◌, ◌++◌, append-nil}
use lib.ListN.{length, get_or}
use Rattle.wire.specs.Bytes.{field, splice}
use Rattle.wire.proofs.Splice.{length-splice, get_or-splice_in}
use Rattle.wire.proofs.Field.{field-splice-other}
use Rattle.rules.specs.Area.{max_alignment}
use Rattle.rules.specs.declared.Entry.{Entry}
use Rattle.rules.specs.Header.{header_of, header_size, least_alignment, checksum_at, alignment_at, used_at, with_alignment, with_used}
use Rattle.rules.specs.Entries.{span, entries_of}
use Rattle.rules.specs.Checksum.{fresh_checksum, seal}
use Rattle.rules.specs.Demand3.{AcceptedV1, Live, live_in, reading, Stretch, bytes_from, header_stretches}
use Rattle.laws.proofs.Row.{Regular, Row, row_le, row_split, place_of, Same}
use Rattle.laws.proofs.Live.{Read, read_none, read_append, read_same}
use Rattle.laws.proofs.Differs.{Outside, Differs, differs_field, splice_differs, number_differs, length_number, seal_differs}
use Rattle.laws.proofs.Seal.{seal-length, seal-field, seal_fresh, seal_holds}
use Rattle.laws.proofs.Ready.{Ready, used_of, total_of, header-size, ready_top, ready_accepted, ready_by}
use Rattle.laws.proofs.Written.{Written}

-- ---- new bytes at a place

-- c is a with the bytes new from p on; in the header checksum, alignment and used_size may differ
pub record Put (a c : List ℕ) (p : ℕ) (new : List ℕ) : Type 0 where
  pub size : length c ≡ length a
  pub written : Written c p new
  pub differs : Differs a c (bytes_from p (length new) ∷ header_stretches)

-- no bytes
pub put_none : (a : List ℕ) (p : ℕ) → Put a a p []
put_none a p = record { size = refl; written = λ i l. absurd (omega arith); differs = λ i o. refl }

-- bytes behind the header
pub put_splice : (a : List ℕ) (p : ℕ) (new : List ℕ) → p + length new ≤ length a → Put a (splice a p new) p new
put_splice a p new l =
    record {
      size = length-splice a p new l;
      written = get_or-splice_in a p new (omega arith);
      differs = λ i o. splice_differs a p new (omega arith) i (o.0, tt);
    }

module _ {a c new : List ℕ} {p : ℕ} (put : Put a c p new) (low : header_size ≤ p) where
  -- a further change of those header fields
  put_header : (d : List ℕ) → length d ≡ length c → Differs c d header_stretches → Put a d p new
  put_header d l h =
      record {
        size = l ∙ put.size;
        written = λ i x. h (p + i) (omega arith) ∙ put.written i x;
        differs = λ i o. h i o.1 ∙ put.differs i o;
      }

  -- the checksum
  pub put_seal : Put a (seal c) p new
  put_seal = put_header (seal c) (seal-length c) (λ i o. seal_differs c i (o.0, tt))

  -- the alignment
  pub put_alignment : (n : ℕ) → header_size ≤ length c → Put a (with_alignment n c) p new
  put_alignment n l =
      put_header (with_alignment n c) (length_number c alignment_at 1 n (omega arith))
      (λ i o. number_differs c alignment_at 1 n (omega arith) i (o.1.0, tt))

  -- used_size
  pub put_used : (n : ℕ) → header_size ≤ length c → Put a (with_used n c) p new
  put_used n l =
      put_header (with_used n c) (length_number c used_at 4 n (omega arith))
      (λ i o. number_differs c used_at 4 n (omega arith) i (o.1.1.0, tt))

-- ---- the law

-- c is ready with the entries es, of which it reads xs
pub record Changed (a c : List ℕ) (base : ℕ) (es : List Entry) (xs : List Live) : Type 0 where
  pub ready : Ready c base es
  pub live : live_in c es ≡ xs
  pub flags : (header_of c).flags ≡ (header_of a).flags

-- c differs from a list that is ready in some stretches, of the header in these three fields at the most: it is ready with the entries
-- ns that stand behind its header
pub changed_by : {a c : List ℕ} {base : ℕ} {es ns : List Entry} {ls : List Live} (ss : List Stretch) → Ready a base es → length c ≡ length a
    → Differs a c ss → ((i : ℕ) → i < header_size → Outside header_stretches i → Outside ss i)
    → least_alignment ≤ (header_of c).alignment → (header_of c).alignment ≤ max_alignment → used_of c ≤ total_of a → Read c header_size (used_of c) ns ls
    → Changed a c base ns ls
unfolding header_of
changed_by {a} {c} {base} {es} {ns} ss r n d o least most fits k =
    let top : field a 12 4 ≤ length a = r.header.sizes.total in
    let f : (at m : ℕ) → at + m ≤ header_size → ((i : ℕ) → at ≤ i → i < at + m → Outside header_stretches i) → field c at m ≡ field a at m =
    λ at m l h. differs_field a c ss at m d (λ i x y. o i (omega arith) (h i x y)) in
    let total : field c 12 4 ≡ field a 12 4 = f 12 4 (omega arith) (omega arith) in
    record {
      ready = ready_by c base ns
          (record {
            usable = rw n r.header.usable;
            signed = f 0 4 (omega arith) (omega arith) ∙ r.header.signed;
            version = f 5 1 (omega arith) (omega arith) ∙ r.version;
            header = f 6 1 (omega arith) (omega arith) ∙ header-size a base es r;
            least = least;
            most = most;
            total8 = rw total r.header.sizes.total8;
            used = rw total fits;
            total = rw (total, n) top;
            row = k.row;
          });
      live = k.live;
      flags = f 16 4 (omega arith) (omega arith);
    }

-- behind the entries xs of a list that is ready, the entries ns stand from p to q, and behind them ys up to used_size
pub change : {a c new : List ℕ} {base p q : ℕ} {es ns ys : List Entry} {ls ms : List Live} (xs : List Entry) → Ready a base es → Put a c p new
    → least_alignment ≤ (header_of c).alignment → (header_of c).alignment ≤ max_alignment → used_of c ≤ total_of a
    → Row a header_size p xs → Read c p q ns ls → Read c q (used_of c) ys ms
    → Changed a c base (xs ++ (ns ++ ys)) (live_in a xs ++ (ls ++ ms))
change {a} {c} {new} {base} {p} {q} {es} {ns} {ys} xs r t least most fits front row behind =
    let low : 24 ≤ p = row_le a header_size p xs front in
    let p≤q : p ≤ q = row_le c p q ns row.row in
    let q≤u : q ≤ used_of c = row_le c q (used_of c) ys behind.row in
    let top : total_of a ≤ length a = r.header.sizes.total in
    let n : length c ≡ length a = t.size in
    let same : Same a c 24 p = λ i x y. sym (t.differs i (omega arith)) in
    changed_by (bytes_from p (length new) ∷ header_stretches) r n t.differs (λ i x h. (omega arith, h)) least most fits
    (read_append (read_same a c 24 p xs front (omega arith) (omega arith) same) (read_append row behind))

-- the entries of a behind the new bytes stand there as before
pub behind_same : {a c new : List ℕ} {p : ℕ} (q : ℕ) (ys : List Entry) → Put a c p new → used_of c ≡ used_of a → used_of a ≤ length a
    → header_size ≤ q → p + length new ≤ q → Row a q (used_of a) ys → Read c q (used_of c) ys (live_in a ys)
behind_same {a} {c} q ys t u l low h r = rw u (read_same a c q (used_of a) ys r l (omega (arith, t.size)) (λ i x y. sym (t.differs i (omega arith))))

-- ---- sealing

-- what holds of the result b, once c, with the entries es, is sealed
pub record Settled (c : List ℕ) (base : ℕ) (es : List Entry) (b : List ℕ) : Type 0 where
  pub again : AcceptedV1 b base
  pub checksum : get_or b checksum_at 0 ≡ fresh_checksum b
  pub flags : (header_of b).flags ≡ (header_of c).flags
  pub walked : entries_of b ≡ es
  pub live : reading b ≡ live_in c es

-- it is accepted, its checksum is fresh, and it is read as it was written
pub settle : (c : List ℕ) (base : ℕ) (es : List Entry) → Ready c base es → Settled c base es (seal c)
unfolding header_of reading live_in
settle c base es r =
    let u : field (seal c) 8 4 ≡ field c 8 4 = seal-field c 8 4 (omega arith) in
    let al : field (seal c) 7 1 ≡ field c 7 1 = seal-field c 7 1 (omega arith) in
    let z = r.header.sizes in
    let low : 24 ≤ field c 8 4 = row_le c 24 (used_of c) es r.row in
    let top : field c 8 4 ≤ length c = omega arith in
    let t : Put c (seal c) 24 [] = put_seal (put_none c 24) (omega arith) in
    let k : Changed c (seal c) base es (live_in c es) =
    change [] r t (rw al z.least) (rw al z.most) (rw u z.used) refl (read_none (seal c) 24 24 refl)
    (behind_same 24 es t u top (omega arith) (omega arith) r.row) in
    let d = ready_accepted (seal c) base es k.ready (seal_holds c (omega arith) top) in
    record {
      again = d.0;
      checksum = seal_fresh c (omega arith) top;
      flags = k.flags;
      walked = d.1;
      live = ap (live_in (seal c)) d.1 ∙ k.live;
    }

-- ---- the two forms of a change

-- new bytes up to q at the most: the entries ns stand from p to q, and those behind stay
pub change_within : {a new : List ℕ} {base p : ℕ} {es ns : List Entry} {ls : List Live} (q : ℕ) (xs ys : List Entry) → Ready a base es
    → Put a (splice a p new) p new → p + length new ≤ q → Row a header_size p xs → Row a q (used_of a) ys → Read (splice a p new) p q ns ls
    → Changed a (splice a p new) base (xs ++ (ns ++ ys)) (live_in a xs ++ (ls ++ live_in a ys))
unfolding header_of
change_within {a} {new} {base} {p} {es} q xs ys r t fits front back row =
    let c : List ℕ = splice a p new in
    let z = r.header.sizes in
    let low : 24 ≤ p = row_le a header_size p xs front in
    let high : q ≤ used_of a = row_le a q (used_of a) ys back in
    let top : field a 8 4 ≤ length a = ready_top a base es r in
    let same : (at k : ℕ) → at + k ≤ 24 → field c at k ≡ field a at k = λ at k l. field-splice-other a p new at k (omega arith) (inl (omega arith)) in
    let u : field c 8 4 ≡ field a 8 4 = same 8 4 (omega arith) in
    let al : field c 7 1 ≡ field a 7 1 = same 7 1 (omega arith) in
    change xs r t (rw al z.least) (rw al z.most) (rw u z.used) front row (behind_same q ys t u top (omega arith) fits back)

-- nothing stands behind: the entries ns stand from p to used_size
pub change_end : {a c new : List ℕ} {base p : ℕ} {es ns : List Entry} {ls : List Live} (xs : List Entry) → Ready a base es → Put a c p new
    → least_alignment ≤ (header_of c).alignment → (header_of c).alignment ≤ max_alignment → used_of c ≤ total_of a
    → Row a header_size p xs → Read c p (used_of c) ns ls → Changed a c base (xs ++ ns) (live_in a xs ++ ls)
change_end {c = c} {ns = ns} {ls = ls} xs r t least most fits front row =
    rw (append-nil ns, append-nil ls) at (change xs r t least most fits front row (read_none c (used_of c) (used_of c) refl))

-- ---- one entry

-- the entry e of a list that is ready: it starts behind xs and ends before ys
pub record Placed (a : List ℕ) (xs : List Entry) (e : Entry) (ys : List Entry) : Type 0 where
  pub regular : Regular e
  pub low : header_size ≤ e.at
  pub high : e.at + span e ≤ used_of a
  pub front : Row a header_size e.at xs
  pub back : Row a (e.at + span e) (used_of a) ys

-- each entry stands so
pub placed : (a : List ℕ) (base : ℕ) (xs : List Entry) (e : Entry) (ys : List Entry) → Ready a base (xs ++ (e ∷ ys)) → Placed a xs e ys
placed a base xs e ys r =
    let k = row_split a header_size (used_of a) xs (e ∷ ys) r.row in
    let t : e.at ≡ k.0 = place_of a k.0 k.2.0 in
    let f : Row a header_size e.at xs = rw t k.1 in
    let b : Row a (e.at + span e) (used_of a) ys = rw t k.2.2 in
    record {
      regular = k.2.1;
      low = row_le a header_size e.at xs f;
      high = row_le a (e.at + span e) (used_of a) ys b;
      front = f;
      back = b;
    }
