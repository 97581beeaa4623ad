-- Steps as they are planned, and that what they lead to is reached.
use Rattle.std.proofs.Common.{◌≡◌, ◌<◌, ℕ, Bool, List, [], ◌∷◌, ◌++◌, length, Option, sym, subst, inl, inr}
use Rattle.estelle_tree.specs.declared.transition.Pair.{Pair}
use Rattle.estelle_tree.specs.Paths.{Path}
use Rattle.estelle_model.specs.declared.event.Event.{Event}
use Rattle.estelle_model.specs.declared.event.Event.TheVariants.{Select, Fire, Fault}
use Rattle.estelle_model.specs.declared.event.End.{End}
use Rattle.estelle_model.specs.Subject.{Subject}
use Rattle.estelle_model.specs.Runs.{situation}
use Rattle.estelle_model.specs.Choosers.{Draw}
use Rattle.estelle_model.specs.Schedule.{Kept, told_after, Reaches, goes_on, waits, SelectIsPlanned, IsWaiting, MayAnswer, wait_until}
use Rattle.run_history.specs.declared.entry.Entry.{Entry}
use Rattle.run_history.specs.Histories.{project, fires}
use Rattle.situation_steps.specs.declared.systems.Time.{Time}
use Rattle.situation.specs.declared.limits.Limits.{Limits}
use Rattle.situation.specs.declared.limits.Stepped.{Stepped}
use Rattle.situation.specs.declared.limits.Stepped.TheVariants as stepped
use Rattle.situation.specs.Runs.{IsTold, AreReached}
use Rattle.situation.specs.Known.{PlannedStepsReach}
use Rattle.situation.specs.Planned.{kept_of, StepsTo, a_selection, a_firing, a_fault, a_wait, a_guard_fault, an_end, LeadsOn, IsPlannedOn}

module _ {C : Type 0} (draw : Draw C) (s : Subject) (budget turns : ℕ) where
  -- ---- what a planned step leads to is reached

  reaches_on : (clock : Option ℕ) (first : C) (before after : List Event) (kept kept' : Kept C) (did : Stepped) → Reaches draw s budget turns clock first before kept → StepsTo draw s budget turns before kept did after kept' → Reaches draw s budget turns clock first after kept'
  reaches_on clock first before _ kept _ _ r (a_selection system now takes rest below planned) = goes_on before kept (Select system now takes) rest r below planned
  reaches_on clock first before _ kept _ _ r (a_firing m n outs drops rest below planned) = goes_on before kept (Fire m n outs drops) rest r below planned
  reaches_on clock first before _ kept _ _ r (a_fault m n kind rest below planned faults) = goes_on before kept (Fault m n kind) rest r below (inr planned)
  reaches_on clock first before _ kept _ _ r (a_wait now below waiting answers) = waits before kept now r below waiting answers
  reaches_on clock first before _ kept _ _ r (a_guard_fault m n kind rest below planned) = goes_on before kept (Fault m n kind) rest r below (inl planned)
  reaches_on clock first before _ kept _ _ r (an_end e) = r

  pub reached_by : (clock moment moment' : Option ℕ) (first c c' : C) (es es' : List Entry) (time time' : Time) (did : Stepped) → AreReached draw s budget turns clock first es c time moment
      → IsPlannedOn draw s budget turns es c time moment es' c' time' moment' did → AreReached draw s budget turns clock first es' c' time' moment'
  reached_by clock moment moment' first c c' es es' time time' did r planned =
      let l = planned r.known r.told in
      record { known = l.known; told = l.told; reached = reaches_on clock first (project es) (project es') (kept_of c time r.known) (kept_of c' time' l.known) did r.reached l.steps }

  -- ---- the steps

  module _ (es : List Entry) (c : C) (time : Time) (known : Option ℕ) where
    abbrev Leads : List Event → C → Time → Option ℕ → Stepped → Type 0
    Leads events c' time' known' did = StepsTo draw s budget turns (project es) (kept_of c time known) did events (kept_of c' time' known')

    pub leads_selected : (system : Path) (now : ℕ) (takes : List Pair) (rest : C) → fires es < turns → SelectIsPlanned draw s budget (project es) (kept_of c time known) system now takes rest
        → (after : List Entry) → project after ≡ project es ++ Select system now takes ∷ [] → (moment : Option ℕ) → IsTold known moment
        → LeadsOn draw s budget turns es c time known after rest (record time { known = now }) moment stepped.Selected
    leads_selected system now takes rest below planned after is moment told = record {
      known = known;
      told = told;
      steps = subst (λ (events : List Event). Leads events rest (record time { known = now }) known stepped.Selected) (sym is) (a_selection system now takes rest below planned);
    }

    pub leads_waited : (now : ℕ) (may : Bool) → fires es < turns → IsWaiting s budget (project es) time.waited → MayAnswer known (wait_until (situation s budget (project es)) time.known) now
        → (moment : Option ℕ) → IsTold (told_after known now) moment
        → LeadsOn draw s budget turns es c time known es c (record { known = now; waited = length (project es); may_wait = may }) moment stepped.Waited
    leads_waited now may below waiting answers moment told = record { known = told_after known now; told = told; steps = a_wait now below waiting answers }

    pub leads_ended : (e : End) (after : List Entry) → project after ≡ project es → (moment : Option ℕ) → IsTold known moment → LeadsOn draw s budget turns es c time known after c time moment (stepped.Ended e)
    leads_ended e after is moment told = record {
      known = known;
      told = told;
      steps = subst (λ (events : List Event). Leads events c time known (stepped.Ended e)) (sym is) (an_end e);
    }

-- ---- the law

pub steps_reach : {C H : Type 0} → PlannedStepsReach C H
steps_reach draw moment clock first before after did r p =
    let on = reached_by draw before.subject before.limits.budget before.limits.turns clock (moment before.clock) (moment after.clock) first before.chooser after.chooser before.history.entries after.history.entries before.time after.time did r p.planned in
    subst (λ (x : Subject × Limits). AreReached draw x.0 x.1.budget x.1.turns clock first after.history.entries after.chooser after.time (moment after.clock)) (λ i. (sym p.subject i, sym p.limits i)) on
