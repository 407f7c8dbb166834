-- Laws of the whole: the reservation block, the structure, the blocks by the header.
use mathlib.Core.Path.{◌≡◌, refl, sym, ap, subst, ◌∙◌}
use Prim.Native.Nat.{ℕ, ◌+◌, ◌-◌, ◌≤◌, ◌<◌}
use native.Mathlib.Omega.{arith}
use mathlib.Core.Logic.{◌⊎◌, ⊎_elim}
use mathlib.Core.Bool.{Bool, true, false, ◌&&◌, false≢true}
use mathlib.Core.List.{List, ◌++◌}
use lib.ListN.{length, get_or, drop}
use lib.Seq.{length-take-le}
use Rattle.std.specs.List.{slice_range}
use Rattle.std.proofs.lemmas.List.{length-drop}
use lib.Dec.{leb, eqb}
use borrow.Author.Tests.{leb-true, eqb-true, eq-eqb}
use Rattle.devicetree.specs.declared.header.Header.{Header}
use Rattle.std.proofs.Common.{Option, Some, None}
use Rattle.devicetree.specs.declared.tokens.Kind.{Kind}
use Rattle.devicetree.specs.declared.tokens.Kind.TheVariants.{BeginNode, End}
use Rattle.devicetree.specs.Header.{header_of, Zeros, pair_size, Reservation, last, pair, header_size, identified, ordered, headed}
use Rattle.devicetree.specs.Structure.{Token, Node, end}
use Rattle.devicetree.specs.Tree.{Root, Structure, deepest, structure_of, strings_of, Blocks, Tree, Checked, accepted, refused}
use Rattle.devicetree.specs.Decided.{Answers, Decides, DecidesToken}
use Rattle.devicetree.proofs.Deciding.{holds, only, never, Same, said_yes, said_no, answers_test, answers_same, both}
use Rattle.devicetree.proofs.CutLaws.{Chunk, next_chunk, part_zeros}
use Rattle.devicetree.proofs.TokenLaws.{token_only, token_never, token_is}
use Rattle.devicetree.proofs.PartLaws.{ends-here}

-- ---- the reservation block

module _ {d : List ℕ} {end : ℕ} where
  pub reservation-long : {at : ℕ} → Reservation d end at → at + pair_size ≤ end
  reservation-long (last h z) = h
  reservation-long (pair f r) = let x = reservation-long r in omega arith

  pub reservation-behind : {at : ℕ} → (Zeros d at (at + pair_size) → ⊥) → Reservation d end at → Reservation d end (at + pair_size)
  reservation-behind f (last h z) = absurd (f z)
  reservation-behind f (pair g r) = r

-- none where the block can't be lent
pub reservation_nowhere : {d : List ℕ} {end at : ℕ} → (end < at) ⊎ (length d < end) → end ≤ length d → Reservation d end at → ⊥
reservation_nowhere h l r = let x = reservation-long r in ⊎_elim (λ i. omega arith) (λ i. omega arith) h

-- left are the pairs from some place on, and the block ends from there on exactly where it does from the start
pub record Pairs (d : List ℕ) (end at : ℕ) (left : List ℕ) : Type 0 where
  pub p : ℕ
  pub within : p ≤ end
  pub are : left ≡ slice_range d p end
  pub to : Reservation d end at → Reservation d end p
  pub from : Reservation d end p → Reservation d end at

module _ {d : List ℕ} {end at : ℕ} where
  pub pairs_start : {left : List ℕ} → at ≤ end → left ≡ slice_range d at end → Pairs d end at left
  pairs_start h e = record { p = at; within = h; are = e; to = λ r. r; from = λ r. r }

  module _ (l : end ≤ length d) {left : List ℕ} (P : Pairs d end at left) (x rest : List ℕ) (f : left ≡ x ++ rest) (n : length x ≡ pair_size) where
    pair_next : Chunk d P.p end pair_size x rest
    pair_next = next_chunk d P.p end pair_size l P.within P.are f n

    pair_zeros : (Zeros x 0 (length x) → Zeros d P.p (P.p + pair_size)) × (Zeros d P.p (P.p + pair_size) → Zeros x 0 (length x))
    pair_zeros = part_zeros d P.p (P.p + pair_size) x (λ i j h. pair_next.reads i j (omega arith)) (omega arith)

    pub pairs_end : {r : Bool} → Answers (Zeros x 0 (length x)) r → r ≡ true → Reservation d end at
    pairs_end a e = P.from (last pair_next.inside (pair_zeros.0 (said_yes a e)))

    pub pairs_more : {r : Bool} → Answers (Zeros x 0 (length x)) r → r ≡ false → Pairs d end at rest
    pairs_more a e =
        let g : Zeros d P.p (P.p + pair_size) → ⊥ = λ z. said_no a e (pair_zeros.1 z) in
        record {
          p = P.p + pair_size;
          within = pair_next.inside;
          are = pair_next.left;
          to = λ r. reservation-behind g (P.to r);
          from = λ r. P.from (pair g r);
        }

  pub pairs_over : {left : List ℕ} → end ≤ length d → Pairs d end at left → length left < pair_size → Reservation d end at → ⊥
  pairs_over l P h r =
      let x = reservation-long (P.to r) in
      omega (arith, simp (length-take-le (end - P.p) (drop P.p d) (simp length-drop (omega arith))) at (ap length P.are))

-- ---- the order of the blocks, in numbers

pub record Order (h : Header) (len : ℕ) : Type 0 where
  pub structure : h.off_dt_struct + h.size_dt_struct ≤ h.off_dt_strings
  pub strings : h.off_dt_strings + h.size_dt_strings ≤ h.totalsize
  pub within : h.totalsize ≤ len

pub order : (h : Header) (len : ℕ) → headed h len ≡ true → Order h len
order h len e =
    let structure = h.off_dt_struct + h.size_dt_struct in
    let strings = h.off_dt_strings + h.size_dt_strings in
    let o = (both (identified h) _ (both (identified h && ordered h len) _ e).0).1 in
    let a = both (leb header_size h.off_mem_rsvmap && leb structure h.off_dt_strings && leb strings h.totalsize) _ o in
    let b = both (leb header_size h.off_mem_rsvmap && leb structure h.off_dt_strings) _ a.0 in
    let c = both (leb header_size h.off_mem_rsvmap) _ b.0 in
    record { structure = leb-true _ _ c.1; strings = leb-true _ _ b.1; within = leb-true _ _ a.1 }

-- the structure's end is within the data
pub structure-length : (d : List ℕ) (h : Header) → headed h (length d) ≡ true
    → length (structure_of d h) ≡ h.off_dt_struct + h.size_dt_struct
structure-length d h e =
    let o = order h (length d) e in
    let s = o.structure in
    let t = o.strings in
    let u = o.within in
    length-take-le (h.off_dt_struct + h.size_dt_struct) d (omega arith)

-- ---- the root

module _ {s t : List ℕ} {at : ℕ} {r : Option (Kind × ℕ)} (T : DecidesToken s at r) where
  module _ {k : Kind} {a : ℕ} (q : r ≡ Some (k, a)) where
    begins_at : {n : ℕ} (x : Root s t at n) → (BeginNode ≡ k) × (x.a ≡ a)
    begins_at x = token_only T q x.begins (λ f. omega arith)

    pub root-node : k ≡ BeginNode → a < length s → get_or s a 0 ≡ 0 → Same (Root s t at) (Node s t deepest a)
    root-node e i z =
        record {
          to = λ n x. subst (λ (i : ℕ). Node s t deepest i n) (begins_at x).1 x.node;
          from = λ n x. record { a = a; begins = token_is T q e; unnamed = ends-here i z; node = x };
        }

-- ---- the structure

module _ {s t : List ℕ} {at : ℕ} {o : Option ℕ} (R : Decides (Root s t at) o) where
  pub structure-none : o ≡ None → Structure s t at → ⊥
  structure-none e x = never R e x.n x.root

  module _ {n : ℕ} (h : o ≡ Some n) {r : Option (Kind × ℕ)} (E : DecidesToken s n r) where
    ends_of : (x : Structure s t at) → Token s end n (length s)
    ends_of x = subst (λ (i : ℕ). Token s end i (length s)) (only R h x.n x.root) x.ends

    pub structure_open : r ≡ None → Structure s t at → ⊥
    structure_open e x = token_never E e (ends_of x) (λ f. omega arith)

    module _ {k : Kind} {e : ℕ} (q : r ≡ Some (k, e)) where
      pub structure_other : (k ≡ End → ⊥) → Structure s t at → ⊥
      structure_other f x = f (sym (token_only E q (ends_of x) (λ f. omega arith)).0)

      pub structure-ends : k ≡ End → Answers (Structure s t at) (eqb e (length s))
      structure-ends f = answers_test (eqb e (length s)) there back
        where
          there : eqb e (length s) ≡ true → Structure s t at
          there y = record { n = n; root = holds R h; ends = subst (λ (i : ℕ). Token s end n i) (eqb-true e (length s) y) (token_is E q f) }

          back : Structure s t at → eqb e (length s) ≡ true
          back x = eq-eqb e (length s) (sym (token_only E q (ends_of x) (λ f. omega arith)).1)

-- ---- the blocks by the header

module _ {d : List ℕ} {h : Header} where
  pub blocks_unheaded : headed h (length d) ≡ false → Blocks d h → ⊥
  blocks_unheaded e x = false≢true (sym e ∙ x.header)

  pub blocks-structure : {s t : List ℕ} {r : Bool} → headed h (length d) ≡ true → Reservation d h.off_dt_struct h.off_mem_rsvmap
      → s ≡ structure_of d h → t ≡ strings_of d h → Answers (Structure s t h.off_dt_struct) r → Answers (Blocks d h) r
  blocks-structure {s} {t} e r es et a = answers_same there back a
    where
      there : Structure s t h.off_dt_struct → Blocks d h
      there x =
          let y = subst (λ (i : List ℕ). Structure i t h.off_dt_struct) es x in
          record { header = e; reservation = r; structure = subst (λ (i : List ℕ). Structure (structure_of d h) i h.off_dt_struct) et y }

      back : Blocks d h → Structure s t h.off_dt_struct
      back x =
          let y = subst (λ (i : List ℕ). Structure (structure_of d h) i h.off_dt_struct) (sym et) x.structure in
          subst (λ (i : List ℕ). Structure i t h.off_dt_struct) (sym es) y

pub tree_blocks : {d : List ℕ} {h : Header} {r : Bool} → header_size ≤ length d → h ≡ header_of d → Answers (Blocks d h) r → Answers (Tree d) r
tree_blocks {d} l e a =
    answers_same
    (λ x. record { long = l; blocks = subst (λ (i : Header). Blocks d i) e x })
    (λ x. subst (λ (i : Header). Blocks d i) (sym e) x.blocks)
    a

-- ---- the rule settles the number

pub checked-only : {d : List ℕ} {r q : ℕ} → Checked d r → Checked d q → r ≡ q
checked-only (accepted x) (accepted y) = refl
checked-only (accepted x) (refused f) = absurd (f x)
checked-only (refused f) (accepted x) = absurd (f x)
checked-only (refused f) (refused g) = refl
