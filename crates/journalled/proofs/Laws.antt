-- Laws of the journalled forms: a plan can be journalled; what was decided begins as the rules say; and its steps, run to the end, come to
-- what the rules say.
use Rattle.std.specs.Prelude.{Err, Ok, Result}
use mathlib.Core.Path.{◌≡◌, refl, sym, ap, ◌∙◌, subst}
use Prim.Native.Nat.{ℕ, ◌≤◌}
use native.Mathlib.Omega.{arith}
use mathlib.Core.Logic.{inr}
use mathlib.Core.Bool.{Bool, true, false, cond}
use mathlib.Core.List.{List}
use lib.ListN.{length}
use Rattle.rules.specs.declared.Header.{Header}
use Rattle.rules.specs.declared.Refusal.{Refusal}
use Rattle.rules.specs.Header.{header_of}
use Rattle.rules.specs.declared.DoneAnswer.{DoneAnswer}
use Rattle.rules.specs.Outcome.{Outcome, refused, done, done_answer}
use Rattle.rules.specs.Edit.{Edit, run}
use Rattle.demand3.proofs.Answered.{answered-done}
use Rattle.journal.specs.Journal.{Memory, memory, store_all, changed_words, edit_stores, refuses_journal}
use Rattle.journal.specs.PowerCut.{Journals}
use Rattle.plan.specs.declared.Plan.{Plan}
use Rattle.plan.specs.Plan.{after, outcome_of, WellFormed, CanWrite, Decides}
use Rattle.plan.proofs.Laws.{header_span_le}
use Rattle.words.specs.Words.{Writable, next_offset}
use Rattle.words.proofs.Laws.{length-after, after_outside}
use Rattle.steps.specs.declared.Steps.{Steps}
use Rattle.steps.specs.Steps.{stopped, value_answer, refusal_answer, carrying, edit_start, Ended, ended, to_end}
use Rattle.steps.specs.Survives.{Survives}
use Rattle.steps.proofs.Ends.{to-end-rest, goes_end}
use Rattle.steps.proofs.Power.{same_answer}
use Rattle.edit.specs.Decide.{planned_by, content_of, bare_for, plan_for, planned_for}
use Rattle.journalled.specs.Journalled.{journalled, start_of, start_for, Begun, Begins, Journalled, start_planned, SurvivesPlanned}

-- ---- a plan

-- a well-formed plan can be written
pub writable : (h : Header) (len n : ℕ) (p : Plan) → WellFormed h len n p → Writable p len n
writable h len n p w = record {
  low = w.low;
  eights = w.eights;
  inside = omega (arith, w.inside);
  padding = w.padding;
  short = omega (arith, w.inside, w.small);
}

-- and its area can be journalled, unless 16 is given: it lies within the whole words
pub journals : (h : Header) (j a content : List ℕ) (p : Plan) → WellFormed h (length a) (length content) p
    → refuses_journal j a (after p a content) ≡ false → Journals j a (after p a content)
journals h j a content p w e =
    let v : Writable p (length a) (length content) = writable h (length a) (length content) p w in
    let s = header_span_le p.behind in
    record {
      size = length-after p a content v;
      small = omega (arith, w.small);
      rest = λ i k. after_outside p a content v i (omega (arith, w.inside, w.low, k)) (inr (omega (arith, w.inside, s, k)));
      accepted = e;
    }

-- ---- what was decided

-- where an edit begins that is not refused with 16, it has its plan's value
start_answer : (p : Plan) (new : List ℕ) (m : Memory) → refuses_journal m.journal m.area new ≡ false
    → (edit_start p new m).done ≡ value_answer p.value
unfolding edit_start
start_answer p new m e = rw e (same_answer (carrying p) (length m.area) 0 (next_offset (length m.area) (changed_words m.area new)))

-- one that is, is at its end
refused_start : (p : Plan) (new : List ℕ) (m : Memory) → refuses_journal m.journal m.area new ≡ true
    → edit_start p new m ≡ stopped (refusal_answer 16)
unfolding edit_start
refused_start p new m e = rw e refl

-- a plan comes to its value and to its area
plan_comes : (a content : List ℕ) (p : Plan) (value : ℕ) (new : List ℕ) → outcome_of a content (Ok p) ≡ done value new
    → (p.value ≡ value) × (after p a content ≡ new)
unfolding outcome_of
plan_comes a content p value new e = (cc, cc)

-- a decision that is fixed by its plan begins as the rules say
pub starts : (e : Edit) (j a : List ℕ) (base : ℕ) (d : Result Plan Refusal) (s : Steps) → Decides a (content_of e) (run e a base) d
    → d ≡ planned_for e a base → s ≡ start_planned (content_of e) d (memory j a) → s ≡ start_for e j a base
starts e j a base d s c f b = go (run e a base) refl c f
  where
    go : (o : Outcome) → run e a base ≡ o → Decides a (content_of e) o d → d ≡ planned_by a (content_of e) o (bare_for e a base)
        → s ≡ start_for e j a base
    go (refused r) eo c f = rw eo (b ∙ ap (λ (x : Result Plan Refusal). start_planned (content_of e) x (memory j a)) f)
    go (done value new) eo c f =
        let q : Plan = plan_for e a base in
        let g = plan_comes a (content_of e) q value new (ap (outcome_of a (content_of e)) (sym f) ∙ c.comes) in
        rw eo
        (b ∙ ap (λ (x : Result Plan Refusal). start_planned (content_of e) x (memory j a)) f ∙ ap (λ (x : List ℕ). edit_start q x (memory j a)) g.1)

-- and what holds of it holds
pub begins : (e : Edit) (j a : List ℕ) (base : ℕ) (d : Result Plan Refusal) (s : Steps) → Decides a (content_of e) (run e a base) d
    → d ≡ planned_for e a base → s ≡ start_planned (content_of e) d (memory j a)
    → SurvivesPlanned (content_of e) d (memory j a) s
    → ((value : ℕ) (new : List ℕ) → Journals j a new → run e a base ≡ done value new → 1 ≤ length (changed_words a new)) → Begins e j a base
begins e j a base d s c f b v n value new h k =
    let m : Memory = memory j a in
    let t : s ≡ start_for e j a base = starts e j a base d s c f b in
    let q : Plan = plan_for e a base in
    let fq : d ≡ Ok q = f ∙ ap (λ (o : Outcome). planned_by a (content_of e) o (bare_for e a base)) h in
    let w : WellFormed (header_of a) (length a) (length (content_of e)) q = subst (CanWrite a (content_of e)) fq c.writable in
    let g : (q.value ≡ value) × (after q a (content_of e) ≡ new) =
    plan_comes a (content_of e) q value new (ap (outcome_of a (content_of e)) (sym fq) ∙ c.comes ∙ h) in
    let u : SurvivesPlanned (content_of e) (Ok q) m s = subst (λ (x : Result Plan Refusal). SurvivesPlanned (content_of e) x m s) fq v in
    let r : Journals j a (after q a (content_of e)) = journals (header_of a) j a (content_of e) q w (rw g.1 k) in
    let rn : Journals j a new = subst (Journals j a) g.1 r in
    record {
      journals = rn;
      words = n value new rn h;
      answers = ap (λ (o : Outcome). (start_of o q m).done) h ∙ start_answer q new m k ∙ ap value_answer g.0;
      survives = subst (Survives (content_of e) j a new) t (subst (λ (y : List ℕ). Survives (content_of e) j a y s) g.1 (u r));
    }

-- ---- the whole form

-- what begins so, run to the end, comes to what the rules say
pub journalled-is : (e : Edit) (j a : List ℕ) (base : ℕ) (s : Steps) (x : Ended) → s ≡ start_for e j a base → Begins e j a base
    → x ≡ to_end (content_of e) s (memory j a) → Journalled e j a base x
journalled-is e j a base s x b i f = record { ruled = ruled (run e a base) refl; stepped = g; new = made (run e a base) refl }
  where
    m : Memory
    m = memory j a

    q : Plan
    q = plan_for e a base

    g : x ≡ to_end (content_of e) (start_for e j a base) (memory j a)
    g = f ∙ ap (λ (t : Steps). to_end (content_of e) t m) b

    ruled : (o : Outcome) → run e a base ≡ o → x ≡ journalled o (memory j a)
    ruled (refused r) eo =
        g ∙ ap (λ (o : Outcome). to_end (content_of e) (start_of o q m) m) eo ∙ to-end-rest (content_of e) (start_of (refused r) q m) m refl
    ruled (done value new) eo = go (refuses_journal j a new) refl
      where
        t : x ≡ to_end (content_of e) (edit_start q new m) m
        t = g ∙ ap (λ (o : Outcome). to_end (content_of e) (start_of o q m) m) eo

        go : (c : Bool) → refuses_journal j a new ≡ c
            → x ≡ cond c (ended (refusal_answer 16) m) (ended (value_answer value) (store_all (edit_stores j a new) m))
        go true k =
            t ∙ ap (λ (y : Steps). to_end (content_of e) y m) (refused_start q new m k) ∙ to-end-rest (content_of e) (stopped (refusal_answer 16)) m refl
        go false k =
            let h : Begun e j a base value new = i value new eo k in
            g ∙ goes_end (content_of e) (edit_stores j a new) (start_for e j a base) m (start_for e j a base).done h.survives.stores
            ∙ ap (λ (d : DoneAnswer). ended d (store_all (edit_stores j a new) m)) h.answers

    made : (o : Outcome) → run e a base ≡ o → x.done.number ≡ 0 → run e a base ≡ done x.done.value x.buffers.area
    made (refused r) eo zero =
        let g : x ≡ ended (done_answer (Err r)) m = ruled (refused r) eo in
        eo ∙ answered-done a (refused r) x.done x.buffers.area (ap (λ (y : Ended). y.done) g) (ap (λ (y : Ended). y.buffers.area) g) zero
    made (done value new) eo zero = go (refuses_journal j a new) refl (ruled (done value new) eo)
      where
        go : (c : Bool) → refuses_journal j a new ≡ c
            → x ≡ cond c (ended (refusal_answer 16) m) (ended (value_answer value) (store_all (edit_stores j a new) m))
            → run e a base ≡ done x.done.value x.buffers.area
        go true k g = let n : x.done.number ≡ 16 = ap (λ (y : Ended). y.done.number) g in absurd (omega (arith, n, zero))
        go false k g =
            eo ∙ answered-done a (done value new) x.done x.buffers.area (ap (λ (y : Ended). y.done) g)
            (ap (λ (y : Ended). y.buffers.area) g ∙ (i value new eo k).survives.area) zero
