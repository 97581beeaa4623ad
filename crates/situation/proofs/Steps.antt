-- A step of a run that goes on: a selection, a wait for the clock, a guard that faults, or an end.
use Rattle.std.proofs.Common.{◌≡◌, ℕ, ◌<◌, ◌≤◌, max, Bool, true, false, List, [], ◌∷◌, ◌++◌, length, Option, Some, None, refl, sym, ap, subst, ◌∙◌, arith}
use Rattle.std.specs.Prelude.{IfSome}
use Rattle.std.proofs.lemmas.List.Elements.{filter_map-append}
use Rattle.std.proofs.lemmas.List.{append-nil, length-append}
use Rattle.pascal_values.specs.declared.fault.Fault as fault
use Rattle.estelle_tree.specs.declared.transition.Pair.{Pair}
use Rattle.estelle_tree.specs.Paths.{Path}
use Rattle.estelle_model.specs.declared.event.Event.{Event}
use Rattle.estelle_model.specs.declared.event.Event.TheVariants.{Fault}
use Rattle.estelle_model.specs.declared.event.End.{End}
use Rattle.estelle_model.specs.declared.event.End.TheVariants.{Faulted}
use Rattle.estelle_model.specs.Subject.{Subject}
use Rattle.estelle_model.specs.Situation.{Situation}
use Rattle.estelle_model.specs.Firing.{start}
use Rattle.estelle_model.specs.Runs.{IsRun, Applies, IsFirstFault, situation}
use Rattle.estelle_model.specs.Ends.{Stops}
use Rattle.estelle_model.specs.Choosers.{Draw}
use Rattle.estelle_model.specs.Schedule.{told_after, IsPlannedEnd, MayAnswer, IsMomentBy}
use Rattle.estelle_model_legality.specs.Instances.{LeadsToStates}
use Rattle.estelle_model_legality.specs.Keeping.{HasStarted}
use Rattle.estelle_model_legality.specs.Situations.{IsLegal}
use Rattle.run_history.specs.declared.entry.Entry.{Entry}
use Rattle.run_history.specs.Histories.{event_of, project, fires}
use Rattle.run_history.specs.Tickets.{tickets, AreTickets}
use Rattle.run_history.specs.OpenTickets.{open_in}
use Rattle.run_history.proofs.Entries.{fires_more}
use Rattle.situation_steps.specs.declared.systems.System.{System}
use Rattle.situation_steps.specs.declared.systems.Time.{Time}
use Rattle.situation_steps.specs.Ends.{HasEnded}
use Rattle.situation_steps.specs.Systems.{IsFirstDueAt}
use Rattle.situation_steps.proofs.Ends.{faults_end, guard_faults_are_planned}
use Rattle.situation_steps.proofs.Going.{situation-push}
use Rattle.situation.specs.declared.limits.Stepped.TheVariants as stepped
use Rattle.situation.specs.Planned.{kept_of, StepsTo, a_guard_fault, IsPlannedOn}
use Rattle.situation.specs.Runs.{noted, ending, take_of, AreCounted, IsWithin, IsGoing, IsClosed, IsTold}
use Rattle.run_history.proofs.OpenTickets.{tickets_same}
use Rattle.situation.proofs.OpenTickets.{SettlesNone, noted_tickets, ended_tickets, noted_open, ended_open, taken_count}
use Rattle.situation.proofs.Untaken.{guards_settle_none}
use Rattle.situation.proofs.Flying.{open_are_pending}

-- the events with one more entry
pub project_push : (es : List Entry) (e : Entry) → project (es ++ e ∷ []) ≡ project es ++ project (e ∷ [])
project_push es e = filter_map-append (λ (x : Entry). event_of x.what) es (e ∷ [])

-- the entry of an end is no event
pub project_end : (es : List Entry) (by : ℕ) (e : End) → project (es ++ ending by e ∷ []) ≡ project es
project_end es by e = project_push es (ending by e) ∙ append-nil (project es)

-- nor is a ticket
pub project_take : (es : List Entry) (by k : ℕ) (p : Pair) → project (es ++ take_of by k p ∷ []) ≡ project es
project_take es by k p = project_push es (take_of by k p) ∙ append-nil (project es)

pub fires_same : (es : List Entry) (e : Entry) → fires (e ∷ []) ≡ 0 → fires (es ++ e ∷ []) ≡ fires es
fires_same es e none = omega (arith, fires_more es e, none)

-- ---- how many entries there are

pub counted_event : (es : List Entry) (by : ℕ) (e : Event) → AreCounted es → AreCounted (es ++ noted by e ∷ [])
counted_event es by e h =
    omega (arith, h, length-append es (noted by e ∷ []), ap length (project_push es (noted by e)), length-append (project es) (e ∷ []), ap length (tickets_same es (noted by e) refl))

pub counted_take : (es : List Entry) (by k : ℕ) (p : Pair) → AreCounted es → AreCounted (es ++ take_of by k p ∷ [])
counted_take es by k p h =
    omega (arith, h, length-append es (take_of by k p ∷ []), ap length (project_take es by k p), taken_count es by k p)

-- ---- what a clock answers

-- a moment that is the later one of what the clock tells and the last one known may be answered
pub may_answer : (known moment : Option ℕ) (earliest now : ℕ) → IsTold known moment → earliest ≤ now → IfSome moment (λ m. now ≡ max m earliest) → MayAnswer known earliest now
may_answer None moment earliest now told no_earlier is = no_earlier
may_answer (Some k) moment earliest now told no_earlier is = subst (λ (o : Option ℕ). IfSome o (λ m. now ≡ max m earliest)) told is

-- so the moment of a selection is planned
pub moment_by : (delays : Bool) (known moment : Option ℕ) (earliest now : ℕ) → IsTold known moment → earliest ≤ now → (delays ≡ false → now ≡ 0) → (delays ≡ true → IfSome moment (λ m. now ≡ max m earliest)) → IsMomentBy delays known earliest now
moment_by true known moment earliest now told no_earlier zero is = may_answer known moment earliest now told no_earlier (is refl)
moment_by false known moment earliest now told no_earlier zero is = zero refl

-- what a clock tells after a wait
pub still_told : (known moment after : Option ℕ) (now : ℕ) → IsTold known moment → IfSome moment (λ m. after ≡ Some now) → IsTold (told_after known now) after
still_told None moment after now told is = tt
still_told (Some k) moment after now told is = subst (λ (o : Option ℕ). IfSome o (λ m. after ≡ Some now)) told is

-- ---- ends

pub within_same : (budget n k : ℕ) (g h : Situation) → k ≡ n → h ≡ g → IsWithin budget n g → IsWithin budget k h
within_same budget n k g h count same within = subst (λ (x : ℕ). IsWithin budget x h) (sym count) (subst (IsWithin budget n) (sym same) within)

-- what is kept of a history that ends next
pub record MayClose (s : Subject) (budget turns : ℕ) (es : List Entry) (waited : ℕ) (e : End) : Type 0 where
  pub ended : HasEnded s budget turns (project es) waited e
  pub legal : HasStarted (start s budget) → IsLegal s (situation s budget (project es))
  pub below : fires es ≤ turns
  pub within : IsWithin budget (fires es) (situation s budget (project es))
  pub tickets : AreTickets s budget es
  pub counted : AreCounted es

-- the run has ended with an entry that says so
pub closed_on : (s : Subject) (budget turns : ℕ) (es : List Entry) (waited by : ℕ) (e : End) → MayClose s budget turns es waited e → IsClosed s budget turns (es ++ ending by e ∷ []) waited e
closed_on s budget turns es waited by e h =
    let same = project_end es by e in
    let count : fires (es ++ ending by e ∷ []) ≡ fires es = fires_same es (ending by e) refl in
    record {
      before = es;
      writer = by;
      last = refl;
      counted = h.counted;
      run = subst (IsRun s budget) (sym same) h.ended.run;
      stops = subst (λ (events : List Event). Stops s budget turns events e) (sym same) h.ended.stops;
      planned = subst (λ (events : List Event). IsPlannedEnd s budget turns events waited e) (sym same) h.ended.planned;
      legal = λ started. subst (λ (events : List Event). IsLegal s (situation s budget events)) (sym same) (h.legal started);
      below = omega (arith, count, h.below);
      within = within_same budget (fires es) (fires (es ++ ending by e ∷ [])) (situation s budget (project es)) (situation s budget (project (es ++ ending by e ∷ []))) count (ap (situation s budget) same) h.within;
      tickets = ended_tickets s budget es h.tickets by e;
    }

module _ (s : Subject) (budget turns : ℕ) (es : List Entry) (time : Time) (systems : List System) (w : IsGoing s budget turns es time systems) where
  -- an end of the events ends the run
  pub ended_closes : (by : ℕ) (e : End) → HasEnded s budget turns (project es) time.waited e → IsClosed s budget turns (es ++ ending by e ∷ []) time.waited e
  ended_closes by e h = closed_on s budget turns es time.waited by e (record { ended = h; legal = λ started. w.under_way.legal; below = w.below; within = w.within; tickets = w.tickets; counted = w.counted })

  -- a fault leaves the situation
  pub fault_stays : (m : Path) (n : ℕ) (kind : fault.Fault) → situation s budget (project es ++ Fault m n kind ∷ []) ≡ situation s budget (project es)
  fault_stays m n kind = situation-push s budget (project es) (Fault m n kind) w.under_way.run

  -- and a fault that applies, with tickets as they may be, ends the run
  pub fault_closes : (by : ℕ) (m : Path) (n : ℕ) (kind : fault.Fault) → Applies s budget (situation s budget (project es)) (Fault m n kind) → AreTickets s budget (es ++ noted by (Fault m n kind) ∷ [])
      → IsClosed s budget turns ((es ++ noted by (Fault m n kind) ∷ []) ++ ending by (Faulted kind) ∷ []) time.waited (Faulted kind)
  fault_closes by m n kind applies tickets =
      let e = noted by (Fault m n kind) in
      let is : project (es ++ e ∷ []) ≡ project es ++ Fault m n kind ∷ [] = project_push es e in
      let stays : situation s budget (project (es ++ e ∷ [])) ≡ situation s budget (project es) = ap (situation s budget) is ∙ fault_stays m n kind in
      let count : fires (es ++ e ∷ []) ≡ fires es = fires_same es e refl in
      closed_on s budget turns (es ++ e ∷ []) time.waited by (Faulted kind) (record {
        ended = subst (λ (events : List Event). HasEnded s budget turns events time.waited (Faulted kind)) (sym is) (faults_end s budget turns (project es) time systems w.under_way m n kind applies);
        legal = λ started. subst (IsLegal s) (sym stays) w.under_way.legal;
        below = omega (arith, count, w.below);
        within = within_same budget (fires es) (fires (es ++ e ∷ [])) (situation s budget (project es)) (situation s budget (project (es ++ e ∷ []))) count stays w.within;
        tickets = tickets;
        counted = counted_event es by (Fault m n kind) w.counted;
      })

  -- the situation and the counts then
  abbrev pub with_fault : ℕ → Path → ℕ → fault.Fault → List Entry
  with_fault by m n kind = (es ++ noted by (Fault m n kind) ∷ []) ++ ending by (Faulted kind) ∷ []

  pub fault_events : (by : ℕ) (m : Path) (n : ℕ) (kind : fault.Fault) → project (with_fault by m n kind) ≡ project es ++ Fault m n kind ∷ []
  fault_events by m n kind = project_end (es ++ noted by (Fault m n kind) ∷ []) by (Faulted kind) ∙ project_push es (noted by (Fault m n kind))

  pub fault_situation : (by : ℕ) (m : Path) (n : ℕ) (kind : fault.Fault) → situation s budget (project (with_fault by m n kind)) ≡ situation s budget (project es)
  fault_situation by m n kind = ap (situation s budget) (fault_events by m n kind) ∙ fault_stays m n kind

pub fault_fires : (es : List Entry) (by : ℕ) (m : Path) (n : ℕ) (kind : fault.Fault) → fires ((es ++ noted by (Fault m n kind) ∷ []) ++ ending by (Faulted kind) ∷ []) ≡ fires es
fault_fires es by m n kind = fires_same (es ++ noted by (Fault m n kind) ∷ []) (ending by (Faulted kind)) refl ∙ fires_same es (noted by (Fault m n kind)) refl

pub fault_tickets : (es : List Entry) (by : ℕ) (m : Path) (n : ℕ) (kind : fault.Fault) → length (tickets ((es ++ noted by (Fault m n kind) ∷ []) ++ ending by (Faulted kind) ∷ [])) ≡ length (tickets es)
fault_tickets es by m n kind = ap length (tickets_same (es ++ noted by (Fault m n kind) ∷ []) (ending by (Faulted kind)) refl ∙ tickets_same es (noted by (Fault m n kind)) refl)

-- a guard faults where its system would select
pub record HasFaultedNow {C : Type 0} (draw : Draw C) (s : Subject) (budget turns : ℕ) (es : List Entry) (time : Time) (by : ℕ) (m : Path) (n : ℕ) (kind : fault.Fault) : Type 0 where
  pub closed : IsClosed s budget turns ((es ++ noted by (Fault m n kind) ∷ []) ++ ending by (Faulted kind) ∷ []) time.waited (Faulted kind)
  pub left_open : open_in ((es ++ noted by (Fault m n kind) ∷ []) ++ ending by (Faulted kind) ∷ []) ≡ open_in es
  pub stays : situation s budget (project ((es ++ noted by (Fault m n kind) ∷ []) ++ ending by (Faulted kind) ∷ [])) ≡ situation s budget (project es)
  pub planned : (c : C) (moment : Option ℕ) → IsPlannedOn draw s budget turns es c time moment ((es ++ noted by (Fault m n kind) ∷ []) ++ ending by (Faulted kind) ∷ []) c time moment (stepped.Ended (Faulted kind))

pub guard_faults_now : {C : Type 0} (draw : Draw C) (s : Subject) (leads : LeadsToStates s) (budget turns : ℕ) (es : List Entry) (time : Time) (systems : List System) → IsGoing s budget turns es time systems → fires es < turns
    → (at : ℕ) (x : System) → IsFirstDueAt systems at x → (by : ℕ) (m : Path) (n : ℕ) (kind : fault.Fault) → IsFirstFault s budget (situation s budget (project es)) x.path m n kind → C → HasFaultedNow draw s budget turns es time by m n kind
guard_faults_now draw s leads budget turns es time systems w below at x due by m n kind first chooser =
    let h = guard_faults_are_planned draw s budget (project es) time systems w.under_way at x due m n kind first in
    let e = noted by (Fault m n kind) in
    let g = situation s budget (project es) in
    let its = h.planned (kept_of chooser time None) refl in
    let none : SettlesNone (Fault m n kind) (open_in es) = guards_settle_none (open_in es) g its.system m n kind (open_are_pending s leads budget es w.under_way.run w.tickets) its.due.due.idle its.fault.inside in
    record {
      closed = fault_closes s budget turns es time systems w by m n kind h.applies (noted_tickets s budget es w.tickets by (Fault m n kind) none);
      left_open = ended_open (es ++ e ∷ []) by (Faulted kind) ∙ noted_open es by (Fault m n kind) none;
      stays = fault_situation s budget turns es time systems w by m n kind;
      planned = λ c moment known told. record {
        known = known;
        told = told;
        steps = subst (λ (events : List Event). StepsTo draw s budget turns (project es) (kept_of c time known) (stepped.Ended (Faulted kind)) events (kept_of c time known))
            (sym (fault_events s budget turns es time systems w by m n kind))
            (a_guard_fault m n kind c below (h.planned (kept_of c time known) refl));
      };
    }
