-- Laws of names in the data and of paths.
use mathlib.Core.Path.{◌≡◌, refl, sym, ap, subst, ◌∙◌}
use Prim.Native.Nat.{ℕ, zero, suc, ◌+◌, ◌-◌, ◌≤◌, ◌<◌}
use native.Mathlib.Omega.{arith}
use mathlib.Core.List.{List, [], ◌∷◌, ◌++◌}
use lib.ListN.{length, get_or, take, drop, length-append, take-append-drop, length-drop, get_or-append}
use lib.Seq.{get_or-take, length-take-le, take-length, take-append_seam, drop-append_seam, get_or-append-add}
use mathlib.Core.Bool.{Bool}
use lib.Dec.{eqb}
use Rattle.std.specs.Cmp.Lexicographic.{pointwise}
use Rattle.std.proofs.Common.{Option, Some, None}
use Rattle.std.proofs.lemmas.Bool.Decides.{Decides-eqb}
use Rattle.std.proofs.lemmas.Slice.Eq.{slice_eq-Decides}
use Rattle.devicetree.specs.Structure.{Ends}
use Rattle.devicetree.specs.Decided.{Answers, Decides}
use Rattle.devicetree.proofs.Deciding.{holds, only, never, answers_test, answers_same}
use Rattle.lookup.specs.Lookup.{part, slash, PathName, Names, ended, next}
use Rattle.lookup.specs.Search.{Named, PartEnd}

-- ---- names in the data

module _ {block : List ℕ} {at : ℕ} {r : Option ℕ} (D : Decides (Ends block at) r) where
  pub unnamed : r ≡ None → (w : List ℕ) → Named block at w → ⊥
  unnamed e w x = never D e x.z x.ends

  pub named_same : {z : ℕ} {w : List ℕ} {b : _} → r ≡ Some z → Answers (part block at (z - at) ≡ w) b → Answers (Named block at w) b
  named_same {z} {w} e a =
      answers_same
      (λ x. record { z = z; ends = holds D e; is = x })
      (λ x. ap (λ (y : ℕ). part block at (y - at)) (sym (only D e x.z x.ends)) ∙ x.is)
      a

-- a name ends in its block
pub ends-between : {block : List ℕ} {at z : ℕ} → Ends block at z → (at ≤ z) × (z ≤ length block)
ends-between x = let i = x.inside in (x.from, omega arith)

-- by the library's `==`
pub same_answers : {a b : List ℕ} {r : Bool} → r ≡ pointwise eqb a b → Answers (a ≡ b) r
same_answers {a} {b} {r} e = let d = slice_eq-Decides Decides-eqb a b r e in answers_test r d.0 d.1

-- ---- where a path's part ends

-- what is behind a place, as a part
pub part-behind : (l : List ℕ) (e : ℕ) → part l e (length l - e) ≡ drop e l
part-behind l e = ap (λ (n : ℕ). take n (drop e l)) (sym (length-drop e l)) ∙ take-length (drop e l)

pub part-end-only : {path : List ℕ} {e f : ℕ} → PartEnd path e → PartEnd path f → f ≡ e
part-end-only {path} {e} {f} x y =
    let a = x.from in
    let b = y.from in
    let i = x.inside in
    let j = y.inside in
    let u : f < e → ⊥ = λ h. x.uncut f b h (y.stops (omega arith)) in
    let v : e < f → ⊥ = λ h. y.uncut e a h (x.stops (omega arith)) in
    omega arith

-- ---- a path's first name

-- it ends at e, and the rest is left
pub record FirstName (path c rest : List ℕ) : Type 0 where
  pub e : ℕ
  pub starts : get_or path 0 0 ≡ slash
  pub to : PartEnd path e
  pub some : 1 < e
  pub is : part path 1 (e - 1) ≡ c
  pub left : drop e path ≡ rest

-- what is behind a path's names starts with a slash
rest-starts : {rest : List ℕ} {cs : List (List ℕ)} → Names rest cs → 0 < length rest → get_or rest 0 0 ≡ slash
rest-starts ended h = absurd (omega arith)
rest-starts (next u p r) h = ap (λ (l : List ℕ). get_or l 0 0) u

some-long : (c : List ℕ) → (c ≡ [] → ⊥) → 0 < length c
some-long [] f = absurd (f refl)
some-long (x ∷ xs) f = omega arith

behind-first : (x : ℕ) (l : List ℕ) (k : ℕ) → 1 ≤ k → get_or (x ∷ l) k 0 ≡ get_or l (k - 1) 0
behind-first x l zero h = absurd (omega arith)
behind-first x l (suc k) h = ap (λ (i : ℕ). get_or l i 0) (let e : k ≡ suc k - 1 = omega arith in e)

first-name_of : (c rest : List ℕ) {cs : List (List ℕ)} → PathName c → Names rest cs → FirstName (slash ∷ (c ++ rest)) c rest
first-name_of c rest p r =
    let l = length-append c rest in
    let s = some-long c p.nonempty in
    record {
      e = suc (length c);
      starts = refl;
      to =
          record {
            from = omega arith;
            inside = omega arith;
            uncut = λ k h i f.
                p.uncut (k - 1) (omega arith)
                (sym (get_or-append c rest 0 (k - 1) (omega arith)) ∙ sym (behind-first slash (c ++ rest) k h) ∙ f);
            stops = λ h.
                let e : length c ≡ length c + 0 = omega arith in
                ap (λ (i : ℕ). get_or (c ++ rest) i 0) e ∙ get_or-append-add c rest 0 0 ∙ rest-starts r (omega arith);
          };
      some = omega arith;
      is = let e : suc (length c) - 1 ≡ length c = omega arith in ap (λ (i : ℕ). take i (c ++ rest)) e ∙ take-append_seam c rest;
      left = drop-append_seam c rest;
    }

pub first-name : {path c rest : List ℕ} {cs : List (List ℕ)} → path ≡ slash ∷ (c ++ rest) → PathName c → Names rest cs → FirstName path c rest
first-name {path} {c} {rest} u p r = subst (λ (l : List ℕ). FirstName l c rest) (sym u) (first-name_of c rest p r)

-- a path without bytes has no names
pub names-none : {path : List ℕ} {names : List (List ℕ)} → length path ≡ 0 → Names path names → names ≡ []
names-none h ended = refl
names-none h (next u p r) = absurd (let e = ap length u in omega arith)

pub no_names : {path : List ℕ} {names : List (List ℕ)} → [] ≡ names → Names path names → length path ≡ 0
no_names e ended = refl
no_names e (next {c = c} {cs = cs} u p r) = let f : [] ≡ (c ∷ cs) = e in absurd (let z : ◌≡◌ {A = ℕ} 0 1 = cc in omega arith)

-- ---- names cut off where the part ends

pub record Cut (path : List ℕ) (e : ℕ) (names : List (List ℕ)) : Type 0 where
  pub others : List (List ℕ)
  pub are : names ≡ part path 1 (e - 1) ∷ others
  pub left : Names (drop e path) others

pub names-cut : {path : List ℕ} {e : ℕ} {names : List (List ℕ)} → PartEnd path e → Names path names → Cut path e names
names-cut x ended = let a = x.from in let i = x.inside in absurd (omega arith)
names-cut {path} {e} x (next {c = c} {cs = cs} u p r) =
    let f = first-name u p r in
    let q : f.e ≡ e = part-end-only x f.to in
    let g : c ≡ part path 1 (e - 1) = sym f.is ∙ ap (λ (i : ℕ). part path 1 (i - 1)) q in
    record {
      others = cs;
      are = ap (λ (l : List ℕ). l ∷ cs) g;
      left = subst (λ (l : List ℕ). Names l cs) (sym f.left ∙ ap (λ (i : ℕ). drop i path) q) r;
    }

cut_path : (path : List ℕ) (e : ℕ) → get_or path 0 0 ≡ slash → e ≤ length path → 1 ≤ e → path ≡ slash ∷ (part path 1 (e - 1) ++ drop e path)
cut_path [] e s i a = absurd (omega arith)
cut_path (x ∷ l) zero s i a = absurd (omega arith)
cut_path (x ∷ l) (suc e) s i a =
    let q : suc e - 1 ≡ e = omega arith in
    let w : take (suc e - 1) l ++ drop e l ≡ l = ap (λ (j : ℕ). take j l ++ drop e l) q ∙ take-append-drop e l in
    ap (λ (y : ℕ). y ∷ l) s ∙ ap (λ (m : List ℕ). slash ∷ m) (sym w)

part-name : (path : List ℕ) (e : ℕ) → PartEnd path e → 1 < e → PathName (part path 1 (e - 1))
part-name [] e x h = let i = x.inside in absurd (omega arith)
part-name (y ∷ l) e x h =
    let i = x.inside in
    let n = length-take-le (e - 1) l (omega arith) in
    record {
      nonempty = λ u. let z = ap length u in omega arith;
      uncut = λ k g f. x.uncut (suc k) (omega arith) (omega arith) (sym (get_or-take (e - 1) l k 0 (omega arith)) ∙ f);
    }

pub cut-names : {path : List ℕ} {e : ℕ} {cs : List (List ℕ)} → get_or path 0 0 ≡ slash → PartEnd path e → 1 < e → Names (drop e path) cs
    → Names path (part path 1 (e - 1) ∷ cs)
cut-names {path} {e} s x h r = next (cut_path path e s x.inside x.from) (part-name path e x h) r
