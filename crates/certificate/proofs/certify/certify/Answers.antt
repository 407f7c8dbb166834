-- What the check refuses is refused; of an accepted list occurrences 0 and 1 of the tag tell whether exactly one entry has it.
use Rattle.std.specs.Prelude.{Err}
use Rattle.std.proofs.Common.{◌≡◌, sym, ◌∙◌}
use Rattle.rules.specs.declared.certificate.Uncertified.TheVariants.{Refused}
use Rattle.rules.specs.Certificate.{certify}
use Rattle.laws.proofs.Exits.{passed_up, ok_or-err, ok_or-ok}
use Rattle.walk.proofs.Survey.{refused}
use Rattle.certificate.proofs.Laws.{searchable, within, none-there, second_there, one_there}
use Rattle.certificate.proofs.certify.certify.Goals as goal

pub returns-in_err-survey : goal.returns-in_err-survey
unfolding certify
returns-in_err-survey c =
    let r = refused _ _ _ _ _ (sym c.survey.ensures ∙ c.in_err-survey.was) in
    let p : c.from_residual.result ≡ Err (Refused c.in_err-survey.field-0.0) = passed_up c.from_residual.ensures.1 in
    simp (p, r)

pub returns-in_err-e : goal.returns-in_err-e
returns-in_err-e c =
    let n = ok_or-err _ _ _ (sym c.ok_or.ensures.value ∙ c.in_err-e.was) in
    rw (passed_up c.from_residual-in_err-e.ensures.1, n.1)
    (sym (none-there _ _ _ _ c.wanted.ensures (sym c.survey.ensures ∙ c.in_ok-survey.was) _ _ n.0))

pub seek-requires : goal.seek-requires
seek-requires c = searchable _ _ _ _ c.wanted.ensures (sym c.survey.ensures ∙ c.in_ok-survey.was)

pub returns-then-is_some : goal.returns-then-is_some
returns-then-is_some c =
    let k = sym c.survey.ensures ∙ c.in_ok-survey.was in
    sym (second_there _ _ _ _ c.wanted.ensures k _ _ _ _ c.wanted-2.ensures c.seek.ensures c.if-is_some.ensures)

pub certify_entry-requires : goal.certify_entry-requires
certify_entry-requires c =
    let f = ok_or-ok _ _ _ (sym c.ok_or.ensures.value ∙ c.in_ok-e.was) in
    within _ _ _ _ c.wanted.ensures (sym c.survey.ensures ∙ c.in_ok-survey.was) _ f

pub returns : goal.returns
returns c =
    let k = sym c.survey.ensures ∙ c.in_ok-survey.was in
    let f = ok_or-ok _ _ _ (sym c.ok_or.ensures.value ∙ c.in_ok-e.was) in
    c.certify_entry.ensures
    ∙ sym (one_there _ _ _ _ c.wanted.ensures k _ _ _ _ c.wanted-2.ensures c.seek.ensures _ f c.if-is_some.ensures)
