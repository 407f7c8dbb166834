-- Demand 3 for void.
use Rattle.std.specs.Prelude.{None, Option, Some}
use mathlib.Core.Path.{◌≡◌, refl, sym, ◌∙◌, subst}
use Prim.Native.Nat.{ℕ, ◌+◌, ◌≤◌, ◌<◌}
use native.Mathlib.Omega.{arith}
use mathlib.Core.List.{List, [], ◌∷◌, ◌++◌}
use lib.ListN.{length, replicate}
use Rattle.wire.proofs.Apart.{apart}
use Rattle.wire.specs.Bytes.{splice}
use Rattle.rules.specs.declared.Entry.{Entry}
use Rattle.rules.specs.declared.Refusal.TheVariants.{Tag}
use Rattle.rules.specs.Area.{align8}
use Rattle.rules.specs.Entries.{entry_header, span, entries_of, occurrence}
use Rattle.rules.specs.Checksum.{seal}
use Rattle.rules.specs.Refusals.{refuses_tag}
use Rattle.rules.specs.Outcome.{done}
use Rattle.rules.specs.Add.{entry_span}
use Rattle.rules.specs.AddAligned.{void_bytes}
use Rattle.rules.specs.Void.{void_at, void}
use Rattle.rules.specs.Edit.{to_void}
use Rattle.rules.specs.Demand3.{AcceptedV1, Holds, live_in, reading, take_out}
use Rattle.laws.proofs.Passed.{tag_range}
use Rattle.laws.proofs.EntryBytes.{length-void_bytes}
use Rattle.laws.proofs.Live.{live-append, Read, Occurs, occurs}
use Rattle.laws.proofs.Ready.{Ready, ready_of}
use Rattle.laws.proofs.Written.{written_left, written_void, entry_of}
use Rattle.laws.proofs.Change.{Put, put_splice, Placed, placed, change_within}
use Rattle.demand3.proofs.InPlace.{passed, in_place_holds}

-- the entry e, which is occurrence n of the tag, is written over by a void
voided : (a : List ℕ) (base tag n value : ℕ) (bytes : List ℕ) (xs : List Entry) (e : Entry) (ys : List Entry) → Ready a base (xs ++ (e ∷ ys))
    → occurrence tag n (entries_of a) ≡ Some e → take_out tag n (live_in a (entries_of a)) ≡ live_in a (xs ++ ys)
    → seal (splice a e.at (void_bytes (align8 e.data_size))) ≡ bytes → Holds (to_void tag n) a base value bytes
unfolding reading void_bytes
voided a base tag n value bytes xs e ys r found out is =
    let p : Placed a xs e ys = placed a base xs e ys r in
    let m : ℕ = align8 e.data_size in
    let new : List ℕ = void_bytes m in
    let c : List ℕ = splice a e.at new in
    let l : length new ≡ 8 + m = length-void_bytes m in
    let s : span e ≡ 8 + m = omega (arith, p.regular.header) in
    let w : entry_span e.data_size ≡ 8 + m = omega arith in
    let high : e.at + span e ≤ length a = omega (arith, p.high, r.header.sizes.used, r.header.sizes.total) in
    let t : Put a c e.at new = put_splice a e.at new (omega arith) in
    let v : Read c e.at (e.at + span e) (entry_of e.at 0 m ∷ []) [] =
    written_void c e.at m (e.at + span e) (omega arith) (omega arith) (omega (arith, r.header.usable.short))
    (written_left c e.at (entry_header 0 m) (replicate m 0) t.written) in
    in_place_holds (to_void tag n) a base value bytes refl is (rw (found, l, w)) p.low t
    (change_within (e.at + span e) xs ys r t (omega arith) p.front p.back v) (sym (out ∙ live-append a xs ys)) tt

-- Demand 3 for void
pub void_holds : (a : List ℕ) (base tag n value : ℕ) (bytes : List ℕ) → AcceptedV1 a base → void a tag n ≡ done value bytes
    → Holds (to_void tag n) a base value bytes
unfolding void
void_holds a base tag n value bytes accepted h =
    let k = passed (refuses_tag tag) Tag (void_at a (occurrence tag n (entries_of a))) value bytes h in
    go (occurrence tag n (entries_of a)) refl (tag_range tag k.0).0 k.1
  where
    go : (o : Option Entry) → occurrence tag n (entries_of a) ≡ o → 0 < tag → void_at a o ≡ done value bytes → Holds (to_void tag n) a base value bytes
    go None f s y = apart cc
    go (Some e) f s y =
        let o : Occurs tag n (entries_of a) e = occurs tag n (entries_of a) e (λ z. omega arith) f in
        let b : seal (splice a e.at (void_bytes (align8 e.data_size))) ≡ bytes = cc in
        voided a base tag n value bytes o.parts.before e o.parts.behind
        (subst (Ready a base) o.parts.whole (ready_of a base accepted)) f (o.taken a) b
