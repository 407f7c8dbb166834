-- What an edit that is done has passed, and demand 3 for an edit in place: the theorem for any list that is changed and sealed.
use Rattle.std.specs.Prelude.{Err, Ok, Result}
use Rattle.wire.proofs.Apart.{apart}
use Rattle.rules.specs.declared.Facts.{Facts}
use mathlib.Core.Path.{◌≡◌, refl, ◌∙◌, subst}
use Prim.Native.Nat.{ℕ, ◌≤◌}
use mathlib.Core.Bool.{Bool, true, false, cond}
use mathlib.Core.List.{List, ◌∷◌}
use lib.ListN.{length, get_or}
use Rattle.rules.specs.declared.Entry.{Entry}
use Rattle.rules.specs.declared.Refusal.{Refusal}
use Rattle.rules.specs.Header.{header_of, header_size, current_version}
use Rattle.rules.specs.Edition.{Edition, current}
use Rattle.rules.specs.Checksum.{seal}
use Rattle.rules.specs.Check.{checks_of, admit}
use Rattle.rules.specs.Outcome.{Outcome, refused, done, after_admission}
use Rattle.rules.specs.Edit.{Edit, in_place, destination}
use Rattle.rules.specs.Demand3.{AcceptedV1, Holds, Live, reading, changed, bytes_from, header_stretches, stretches, named, KeepsAddresses}
use Rattle.laws.proofs.Check.{Sound, sound, accepts}
use Rattle.laws.proofs.Differs.{outside}
use Rattle.laws.proofs.Seal.{seal-length}
use Rattle.laws.proofs.Ready.{ready_of}
use Rattle.laws.proofs.Change.{Put, put_seal, Changed, Settled, settle}

-- an edit that is done passed each of its own checks
pub passed : (b : Bool) (r : Refusal) (x : Outcome) (value : ℕ) (bytes : List ℕ) → cond b (refused r) x ≡ done value bytes
    → (b ≡ false) × (x ≡ done value bytes)
passed true r x value bytes h = apart cc
passed false r x value bytes h = (refl, h)

-- an edit or a conversion that is done was admitted: its list is accepted by its edition's rules and of version 1
pub admitted_done : (ed : Edition) (a : List ℕ) (base : ℕ) (k : Result Facts Refusal) (x : Outcome) (value : ℕ) (bytes : List ℕ)
    → checks_of ed true a base ≡ k → after_admission k x ≡ done value bytes
    → Sound ed a base × ((header_of a).version ≡ current_version) × (x ≡ done value bytes)
admitted_done ed a base (Ok f) x value bytes h q = let s = sound ed true a base f h in (s.0, s.1 refl, q)
admitted_done ed a base (Err r) x value bytes h q = apart cc

-- a list that is accepted and of version 1 is admitted to every edit
pub admits : (a : List ℕ) (base : ℕ) → AcceptedV1 a base → (x : Outcome) → after_admission (admit a base) x ≡ x
admits a base h x =
    let s : Sound current a base = (sound current false a base h.facts h.accepted).0 in
    rw (accepts current true a base s (λ e. (ready_of a base h).version))

-- an edit in place that gives c, which is sealed
pub sealed_holds : (e : Edit) (a : List ℕ) (base value : ℕ) {c : List ℕ} {es : List Entry} {xs : List Live} (bytes : List ℕ)
    → destination e ≡ in_place → seal c ≡ bytes → length c ≡ length a
    → ((i : ℕ) → named (stretches e a (seal c)) i ≡ false → get_or (seal c) i 0 ≡ get_or a i 0)
    → Changed a c base es xs → xs ≡ changed e a (reading a) → KeepsAddresses e a base (seal c) base → Holds e a base value bytes
sealed_holds e a base value {c} {es} bytes d sealed size others k live addresses =
    let q : Settled c base es (seal c) = settle c base es k.ready in
    subst (λ (l : List ℕ). Holds e a base value l) sealed
    (record {
      result = rw d
          (record {
            again = q.again;
            checksum = q.checksum;
            flags = q.flags ∙ k.flags;
            live = q.live ∙ k.live ∙ live;
            others = λ i l h. others i h;
            addresses = addresses;
          });
      size = rw d (seal-length c ∙ size);
    })

-- an edit that puts the bytes new into a, which gives c, and seals it
pub in_place_holds : (e : Edit) (a : List ℕ) (base value : ℕ) {c new : List ℕ} {p : ℕ} {es : List Entry} {xs : List Live} (bytes : List ℕ)
    → destination e ≡ in_place → seal c ≡ bytes → stretches e a (seal c) ≡ bytes_from p (length new) ∷ header_stretches
    → header_size ≤ p → Put a c p new → Changed a c base es xs → xs ≡ changed e a (reading a) → KeepsAddresses e a base (seal c) base
    → Holds e a base value bytes
in_place_holds e a base value {c} {new} {p} bytes d sealed s low t =
    sealed_holds e a base value bytes d sealed t.size
    (λ i h. (put_seal t low).differs i (outside (bytes_from p (length new) ∷ header_stretches) i (rw s at h)))
