-- What create writes: a list that is accepted, has no entry, and whose checksum is fresh.
use mathlib.Core.Path.{◌≡◌, refl, subst}
use Prim.Native.Nat.{ℕ, ◌<◌}
use native.Mathlib.Omega.{arith}
use mathlib.Core.Bool.{Bool, cond}
use mathlib.Core.List.{List, []}
use lib.ListN.{length, get_or, length-append, length-replicate}
use borrow.Author.Tests.{leb-false}
use Rattle.wire.specs.Bytes.{field, le_bytes}
use Rattle.rules.specs.Area.{down8}
use Rattle.rules.specs.declared.Refusal.TheVariants.{Area, Short}
use Rattle.rules.specs.Header.{header_of, header_size, header_bytes, fresh_header, checksum_at}
use Rattle.rules.specs.Entries.{entries_of}
use Rattle.rules.specs.Checksum.{fresh_checksum, seal}
use Rattle.rules.specs.Refusals.{refuses_area, refuses_short_create}
use Rattle.rules.specs.Outcome.{Outcome, refused, done}
use Rattle.rules.specs.Create.{fresh_list, create}
use Rattle.rules.specs.Demand3.{AcceptedV1, live_in, reading}
use Rattle.laws.proofs.Check.{Usable, usable_of}
use Rattle.laws.proofs.FreshList.{length-header_bytes, unsealed}
use Rattle.laws.proofs.Ready.{Ready, ready_by}
use Rattle.laws.proofs.Change.{Settled, settle}
use Rattle.demand3.proofs.InPlace.{passed}

-- what holds of a new list
pub record Created (bytes : List ℕ) (base : ℕ) : Type 0 where
  pub again : AcceptedV1 bytes base
  pub empty : entries_of bytes ≡ []
  pub unread : reading bytes ≡ []
  pub checksum : get_or bytes checksum_at 0 ≡ fresh_checksum bytes

-- it is ready, with no entry
fresh_ready : (base len : ℕ) (has : Bool) → Usable base len → header_size < len → Ready (unsealed len has) base []
unfolding header_of field header_bytes fresh_header le_bytes
fresh_ready base len has usable long =
    let l : length (unsealed len has) ≡ len = rw (length-append, length-header_bytes, length-replicate) (omega arith) in
    let t : (header_of (unsealed len has)).total_size ≡ down8 len = omega (arith, usable.short) in
    ready_by (unsealed len has) base []
    (record {
      usable = rw l usable;
      signed = refl;
      version = refl;
      header = refl;
      least = omega arith;
      most = omega arith;
      total8 = rw t (omega arith);
      used = rw t (omega arith);
      total = rw (t, l) (omega arith);
      row = refl;
    })

-- create, where it is not refused, writes such a list
pub created : (a : List ℕ) (base : ℕ) (has : Bool) (value : ℕ) (bytes : List ℕ) → create a base has ≡ done value bytes → Created bytes base
unfolding create fresh_list live_in
created a base has value bytes h =
    let len : ℕ = length a in
    let end : Outcome = done (down8 len) (fresh_list len has) in
    let k₁ = passed (refuses_area base len) Area (cond (refuses_short_create len) (refused Short) end) value bytes h in
    let k₂ = passed (refuses_short_create len) Short end value bytes k₁.1 in
    let d : end ≡ done value bytes = k₂.1 in
    let b : fresh_list len has ≡ bytes = cc in
    let c : List ℕ = unsealed len has in
    let s : Settled c base [] (seal c) = settle c base [] (fresh_ready base len has (usable_of base len k₁.0) (leb-false len header_size k₂.0)) in
    subst (λ (l : List ℕ). Created l base) b
    (record { again = s.again; empty = s.walked; unread = s.live; checksum = s.checksum })
