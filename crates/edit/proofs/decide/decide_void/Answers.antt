-- What the checks or a test refuse is refused; a void in the place of the occurrence that the checks met comes to the rule's void.
use Rattle.std.specs.Prelude.{Err, Ok, Option, Some, ok_or}
use Rattle.std.proofs.Common.{◌≡◌, ℕ, List, sym, ap, ◌∙◌, arith}
use Rattle.rules.specs.declared.Entry.{Entry}
use Rattle.rules.specs.declared.Refusal.{Refusal}
use Rattle.rules.specs.Entries.{occurrence}
use Rattle.rules.specs.Edit.{to_void}
use Rattle.laws.proofs.Exits.{passed_up, ok_or-err, ok_or-ok}
use Rattle.laws.proofs.Passed.{tag_range}
use Rattle.walk.specs.Wanted.{wanted_in}
use Rattle.walk.proofs.Survey.{occurrence_wanted}
use Rattle.edit.proofs.Laws.{admitted, not_admitted, void-refused, void-none, void-placed, void_formed, void-decided}
use Rattle.edit.proofs.decide.decide_void.Goals as goal

-- the entry that the checks met is the rule's occurrence
met : (tag n : ℕ) (es : List Entry) (o : Option Entry) (r : Refusal) (e : Entry) → o ≡ wanted_in tag 0 n es → ok_or o r ≡ Ok e
    → occurrence tag n es ≡ Some e
met tag n es o r e p k = occurrence_wanted tag n es ∙ sym p ∙ ok_or-ok o r e k

pub returns-in_err-admitted : goal.returns-in_err-admitted
returns-in_err-admitted c =
    let d = not_admitted (to_void _ _) _ _ _ c.in_err-admitted.ensures in
    let u = passed_up c.from_residual.ensures.1 in
    record { decides = rw u d.0; value = rw u d.1 }

pub returns-then-refuses_tag : goal.returns-then-refuses_tag
returns-then-refuses_tag c =
    let x = c.in_ok-admitted in
    let d = void-refused _ _ x.admitted.admitted _ c.args.n (sym c.refuses_tag.ensures ∙ c.if-refuses_tag.true) in
    record { decides = rw (← x.ensures.0, ← x.ensures.1) d.0; value = rw (← x.ensures.0, ← x.ensures.1) d.1 }

pub returns-in_err-e : goal.returns-in_err-e
returns-in_err-e c =
    let x = c.in_ok-admitted in
    let k = ok_or-err _ _ _ (sym c.ok_or.ensures.value ∙ c.in_err-e.was) in
    let none = occurrence_wanted _ _ _ ∙ sym x.ensures.2 ∙ k.0 in
    let d = void-none _ _ x.admitted.admitted _ _ (sym c.refuses_tag.ensures ∙ c.if-refuses_tag.false) none in
    let u = passed_up c.from_residual-in_err-e.ensures.1 ∙ ap Err k.1 in
    record { decides = rw (u, ← x.ensures.0, ← x.ensures.1) d.0; value = rw (u, ← x.ensures.0, ← x.ensures.1) d.1 }

pub void_plan-p-requires : goal.void_plan-p-requires
void_plan-p-requires c =
    let x = c.in_ok-admitted in
    let l = x.admitted in
    let found = met _ _ _ _ _ _ x.ensures.2 (sym c.ok_or.ensures.value ∙ c.in_ok-e.was) in
    let t = tag_range c.args.tag (sym c.refuses_tag.ensures ∙ c.if-refuses_tag.false) in
    omega (arith, void_formed _ _ _ (admitted _ _ _ l.list.read l.admitted) c.args.tag _ _ t.0 found)

pub with_checksum-requires : goal.with_checksum-requires
with_checksum-requires c =
    let x = c.in_ok-admitted in
    let l = x.admitted in
    let found = met _ _ _ _ _ _ x.ensures.2 (sym c.ok_or.ensures.value ∙ c.in_ok-e.was) in
    let t = tag_range c.args.tag (sym c.refuses_tag.ensures ∙ c.if-refuses_tag.false) in
    rw c.void_plan-p.ensures (void_formed _ _ _ (admitted _ _ _ l.list.read l.admitted) _ _ _ t.0 found)

pub returns : goal.returns
returns c =
    let x = c.in_ok-admitted in
    let l = x.admitted in
    let found = met _ _ _ _ _ _ x.ensures.2 (sym c.ok_or.ensures.value ∙ c.in_ok-e.was) in
    let t = sym c.refuses_tag.ensures ∙ c.if-refuses_tag.false in
    let d = void-decided _ _ _ (admitted _ _ _ l.list.read l.admitted) l.bytes _ _ _ (tag_range _ t).0 found in
    let e = void-placed _ _ l.admitted c.args.tag c.args.n t in
    record {
      decides = rw (← x.ensures.0, ← x.ensures.1, e, found, c.with_checksum.ensures, c.void_plan-p.ensures) d.0;
      value = rw (← x.ensures.0, ← x.ensures.1, e, found, ← l.list.read, c.with_checksum.ensures, c.void_plan-p.ensures) d.1;
    }
