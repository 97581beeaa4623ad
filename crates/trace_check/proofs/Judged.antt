-- What is judged of a trace: which entry is the first that does not apply, or that all apply.
use Rattle.std.proofs.Common.{◌≡◌, ℕ, suc, ◌+◌, ◌<◌, ◌≤◌, Bool, true, false, List, [], ◌∷◌, take, length, Option, Some, None, refl, sym, subst, ◌∙◌, arith}
use Rattle.std.specs.Prelude.{is_some, slice_get, Result, IfOk}
use Rattle.pascal_values.specs.declared.fault.Fault as fault
use Rattle.estelle_model.specs.declared.event.Event.{Event}
use Rattle.estelle_model.specs.declared.event.End.{End}
use Rattle.estelle_model.specs.Subject.{Subject}
use Rattle.estelle_model.specs.Runs.{IsRun}
use Rattle.estelle_model.specs.Ends.{Closes}
use Rattle.trace_check.specs.declared.judged_part.JudgedPart.{JudgedPart}
use Rattle.trace_check.specs.Judging.{IsRunTo, IsFirstWrong}
use Rattle.trace_check.specs.JudgedParts.{IsOpen, IsKept, IsJudgedPart, IsOf, IsNext, HasJudged, HasBegun}
use Rattle.trace_check.proofs.Refusing.{wrong_event, wrong_end, run_to}
use Rattle.trace_check.proofs.JudgingOn.{none_after}

pub open_if : (r : JudgedPart) → IsJudgedPart r → (b : Bool) → b ≡ is_some r.fault → b ≡ false → IsOpen r
open_if r keeps b is no_fault = by r.fault keeps (sym is ∙ no_fault)
  where
    by : (o : Option fault.Fault) → IsKept r o → is_some o ≡ false → IsOpen r
    by None k e = k
    by (Some kind) k e = absurd (let wrong : true ≡ false = e in cc)

pub after_fault : (r : JudgedPart) → IsJudgedPart r → (e : Event) → IsNext r e → (b : Bool) → b ≡ is_some r.fault → b ≡ true → IsRun r.state.program.now r.state.budget (take (suc r.count) r.events.now) → ⊥
after_fault r keeps e at b is ended = by r.fault keeps (sym is ∙ ended)
  where
    by : (o : Option fault.Fault) → IsKept r o → is_some o ≡ true → IsRun r.state.program.now r.state.budget (take (suc r.count) r.events.now) → ⊥
    by None k e = absurd (let wrong : false ≡ true = e in cc)
    by (Some kind) k x = none_after r kind e k at

-- what is kept is of a run
run_of : (r : JudgedPart) → IsJudgedPart r → IsRun r.state.program.now r.state.budget (take r.count r.events.now)
run_of r keeps = by r.fault keeps
  where
    by : (o : Option fault.Fault) → IsKept r o → IsRun r.state.program.now r.state.budget (take r.count r.events.now)
    by None k = k.going.run
    by (Some kind) k = k.run

module _ (r l : JudgedPart) (e : End) (i : ℕ) (keeps : IsJudgedPart l) (program : l.state.program ≡ r.state.program) (budget : l.state.budget ≡ r.state.budget) (events : l.events ≡ r.events) (count : l.count ≡ i) where
  abbrev Its : Type 0
  Its = Subject × ℕ × List Event × ℕ

  same : ◌≡◌ {A = Its} (l.state.program.now, l.state.budget, l.events.now, l.count) (r.state.program.now, r.state.budget, r.events.now, i)
  same = (λ j. ((program j).now, budget j, (events j).now, count j))

  run_there : IsRun r.state.program.now r.state.budget (take i r.events.now)
  run_there = subst (λ (x : Its). IsRun x.0 x.1 (take x.3 x.2)) same (run_of l keeps)

  pub event_wrong : (n : JudgedPart) (b : Bool) → HasJudged l n b → b ≡ false → 1 ≤ i → i < length r.events.now → IsFirstWrong r.state.program.now r.state.budget r.events.now e (i + 1)
  event_wrong n b judged no_so some within = wrong_event r.state.program.now r.state.budget r.events.now e i some within run_there
      (subst (λ (x : Its). IsRun x.0 x.1 (take (suc x.3) x.2) → ⊥) same (subst (HasJudged l n) no_so judged))

  closes_there : Closes l.state.program.now l.state.budget l.events.now e → Closes r.state.program.now r.state.budget r.events.now e
  closes_there h = subst (λ (x : Its). Closes x.0 x.1 x.2 e) same h

  pub end_wrong : 1 ≤ i → i ≡ length r.events.now → (Closes l.state.program.now l.state.budget l.events.now e → ⊥) → IsFirstWrong r.state.program.now r.state.budget r.events.now e (i + 1)
  end_wrong some all wrong = wrong_end r.state.program.now r.state.budget r.events.now e i all some run_there (λ h. wrong (subst (λ (x : Its). Closes x.0 x.1 x.2 e) (sym same) h))

  pub all_right : i ≡ length r.events.now → Closes l.state.program.now l.state.budget l.events.now e → IsRunTo r.state.program.now r.state.budget r.events.now e
  all_right all closes = run_to r.state.program.now r.state.budget r.events.now e i all run_there (closes_there closes)

-- a trace that has begun has an event
pub some_event : (s : Subject) (budget : ℕ) (events : List Event) (r : JudgedPart) → HasBegun s budget events r → 1 ≤ length r.events.now
some_event s budget events r h = by r.events.now (subst (λ (n : ℕ). IsRun r.state.program.now r.state.budget (take n r.events.now)) h.count (run_of r h.keeps))
  where
    by : (es : List Event) → IsRun r.state.program.now r.state.budget (take 1 es) → 1 ≤ length es
    by [] run = absurd run
    by (x ∷ es) run = omega arith

-- what holds of what is judged holds of the events of which it is
pub told_of : {A E : Type 0} (P : Subject → ℕ → List Event → Type 0) (r : Result A E) (s : Subject) (budget : ℕ) (events told : List Event) (l : JudgedPart) → IsOf s budget events l → events ≡ told
    → IfOk r (λ _. P l.state.program.now l.state.budget l.events.now) → IfOk r (λ _. P s budget told)
told_of P r s budget events told l of is h =
    let whole : ◌≡◌ {A = Subject × ℕ × List Event} (l.state.program.now, l.state.budget, l.events.now) (s, budget, told) = (λ j. (of.program j, of.budget_is j, (of.events_are ∙ is) j)) in
    subst (λ (x : Subject × ℕ × List Event). IfOk r (λ _. P x.0 x.1 x.2)) whole h

-- a list without a first element is empty
pub empty_if : (es : List Event) → slice_get es 0 ≡ None → es ≡ []
empty_if [] none = refl
empty_if (e ∷ es) none = absurd (cc)
