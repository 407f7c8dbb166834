-- The entry that is read is judged by the rule; where fewer than eight bytes are left, an entry would break one.
use Rattle.std.proofs.Common.{◌∙◌, sym, arith, eq-eqb, ne_eqb}
use Rattle.rules.specs.Entries.{entry_at}
use Rattle.laws.proofs.Exits.{passed_up, ok_or-err, ok_or-ok}
use Rattle.laws.proofs.Walk.{bad_short, entry_place}
use Rattle.walk.specs.Cursor.{step_at}
use Rattle.walk.proofs.cursor.Cursor.step.Goals as goal

pub returns-then-at-used : goal.returns-then-at-used
unfolding step_at
returns-then-at-used c = simp (eq-eqb _ _ c.if-at-used.true)

pub returns-then-left : goal.returns-then-left
unfolding step_at
returns-then-left c =
    let a = c.args in
    simp (ne_eqb _ _ c.if-at-used.false, bad_short a.list.header.version _ (entry_at a.list.bytes.now a.self.at) c.if-left.true)

pub judge-requires : goal.judge-requires
judge-requires c = rw (c.entry_at-e.ensures, entry_place) (omega arith)

pub returns-in_err-next : goal.returns-in_err-next
unfolding step_at
returns-in_err-next c =
    let k = ok_or-err c.judge.result _ _ (sym c.ok_or.ensures.value ∙ c.in_err-next.was) in
    simp (passed_up c.from_residual.ensures.1, k.1, ne_eqb _ _ c.if-at-used.false, ← c.entry_at-e.ensures, ← c.judge.ensures, k.0)

pub returns : goal.returns
unfolding step_at
returns c =
    let k = ok_or-ok c.judge.result _ _ (sym c.ok_or.ensures.value ∙ c.in_ok-next.was) in
    simp (ne_eqb _ _ c.if-at-used.false, ← c.entry_at-e.ensures, ← c.judge.ensures, k)
