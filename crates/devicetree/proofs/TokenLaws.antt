-- Laws of tokens.
use mathlib.Core.Path.{◌≡◌, refl, sym, ap, subst, ◌∙◌}
use Prim.Native.Nat.{ℕ, ◌+◌, ◌-◌, ◌≤◌, ◌<◌}
use native.Mathlib.Omega.{arith}
use mathlib.Core.List.{List}
use lib.ListN.{length}
use borrow.Author.Tests.{tests}
use Rattle.std.proofs.Common.{Option, Some, None, rules}
use Rattle.std.proofs.lemmas.Option.{none-some, same_Some}
use Rattle.devicetree.specs.declared.tokens.Kind.{Kind}
use Rattle.devicetree.specs.declared.tokens.Kind.TheVariants.{Nop}
use Rattle.devicetree.specs.Header.{cell}
use Rattle.devicetree.specs.Structure.{Token, here, skip, nop}
use Rattle.devicetree.specs.Decided.{kind_of, number, DecidesToken}

-- only NOPs stand from a place up to another
pub record Skipped (s : List ℕ) (at p : ℕ) : Type 0 where
  pub to : (k n : ℕ) → (k ≡ nop → ⊥) → Token s k at n → Token s k p n
  pub from : (k n : ℕ) → Token s k p n → Token s k at n

-- a kind keeps its number
number_kind : (k : ℕ) → number (kind_of k) ≡ k
number_kind k = search (rules, tests)

module _ {s : List ℕ} where
  pub token_bounds : {k at n : ℕ} → Token s k at n → (at + 4 ≤ n) × (n ≤ length s)
  token_bounds (here w) = let e = w.next in (omega arith, w.inside)
  token_bounds (skip w t) = let b = token_bounds t in let e = w.next in (omega arith, b.1)

  -- where no NOP stands, the token is the number there
  token_here : {k p n : ℕ} → (cell s p ≡ nop → ⊥) → Token s k p n → (k ≡ cell s p) × (n ≡ p + 4)
  token_here f (here w) = (sym w.is, w.next)
  token_here f (skip w t) = absurd (f w.is)

  -- where a NOP stands, any other token comes behind it
  token_behind : {k p n : ℕ} → cell s p ≡ nop → (k ≡ nop → ⊥) → Token s k p n → Token s k (p + 4) n
  token_behind e f (here w) = absurd (f (sym w.is ∙ e))
  token_behind {k} {p} {n} e f (skip w t) = subst (λ (m : ℕ). Token s k m n) w.next t

  -- ---- a decided token

  module _ {p : ℕ} {r : Option (Kind × ℕ)} (d : DecidesToken s p r) where
    -- it is the only one
    pub token_only : {k : Kind} {n k' m : ℕ} → r ≡ Some (k, n) → Token s k' p m → (k' ≡ nop → ⊥) → (kind_of k' ≡ k) × (m ≡ n)
    token_only {k' = k'} {m = m} e t f = let q = same_Some _ _ (sym (d.complete k' m t f) ∙ e) in (ap (λ x. x.0) q, ap (λ x. x.1) q)

    pub token_never : {k' m : ℕ} → r ≡ None → Token s k' p m → (k' ≡ nop → ⊥) → ⊥
    token_never {k' = k'} {m = m} e t f = none-some _ (sym e ∙ d.complete k' m t f)

    -- it stands where it was looked for, under the number of its kind
    pub token_is : {k j : Kind} {n : ℕ} → r ≡ Some (k, n) → k ≡ j → Token s (number j) p n
    token_is {k} {n = n} q e = subst (λ (x : Kind). Token s (number x) p n) e (d.sound k n q).0

    pub stands-bounds : {k : Kind} {n : ℕ} → r ≡ Some (k, n) → (p + 4 ≤ n) × (n ≤ length s)
    stands-bounds q = token_bounds (token_is q refl)

  -- ---- the loop over NOPs

  pub skipped_none : {at : ℕ} → Skipped s at at
  skipped_none = record { to = λ k n f t. t; from = λ k n t. t }

  pub skipped_more : {at p : ℕ} → Skipped s at p → p + 4 ≤ length s → kind_of (cell s p) ≡ Nop → Skipped s at (p + 4)
  skipped_more {p = p} g h q =
      let e = sym (number_kind (cell s p)) ∙ ap number q in
      record {
        to = λ k n f t. token_behind e f (g.to k n f t);
        from = λ k n t. g.from k n (skip (record { is = e; next = refl; inside = h }) t);
      }

  pub token_found : {at p : ℕ} {k : Kind} → Skipped s at p → p + 4 ≤ length s → k ≡ kind_of (cell s p) → (k ≡ Nop → ⊥)
      → DecidesToken s at (Some (k, p + 4))
  token_found {at} {p} {k} g h q f =
      let is : number k ≡ cell s p = ap number q ∙ number_kind (cell s p) in
      let other : cell s p ≡ nop → ⊥ = λ e. f (q ∙ ap kind_of e) in
      record {
        sound = λ j n e.
            let x = same_Some _ _ e in
            let a : k ≡ j = ap (λ x. x.0) x in
            let b : p + 4 ≡ n = ap (λ x. x.1) x in
            let i : cell s p ≡ number j = sym is ∙ ap number a in
            (g.from (number j) n (here (record { is = i; next = sym b; inside = subst (λ (i : ℕ). i ≤ length s) b h })), λ z. other (i ∙ z));
        complete = λ j n t ne.
            let x = token_here other (g.to j n ne t) in
            let a : k ≡ kind_of j = q ∙ ap kind_of (sym x.0) in
            let b : p + 4 ≡ n = sym x.1 in
            cc;
      }

  pub token_none : {at p : ℕ} → Skipped s at p → length s - p < 4 → DecidesToken s at None
  token_none g h =
      record {
        sound = λ k n q. absurd (none-some _ q);
        complete = λ k n t ne. let x = token_bounds (g.to k n ne t) in absurd (omega arith);
      }

  pub token_outside : {at : ℕ} → length s < at → DecidesToken s at None
  token_outside h =
      record {
        sound = λ k n q. absurd (none-some _ q);
        complete = λ k n t ne. let x = token_bounds t in absurd (omega arith);
      }
