-- How often a scheduled run selects and waits.
use Rattle.std.proofs.Common.{◌≡◌, ◌≤◌, ◌+◌, ◌*◌, ℕ, List, [], ◌∷◌, ◌++◌, length, Option, Some, refl, sym, ap, subst, ◌∙◌, arith}
use Rattle.std.proofs.lemmas.List.{length-map}
use Rattle.pascal_values.specs.declared.fault.Fault as fault
use Rattle.estelle_tree.specs.Paths.{Path}
use Rattle.estelle_model.specs.declared.event.Event.{Event}
use Rattle.estelle_model.specs.declared.event.Event.TheVariants.{Start, Select, Fire, Fault}
use Rattle.estelle_model.specs.Subject.{Subject}
use Rattle.estelle_model.specs.Situation.{Situation}
use Rattle.estelle_model.specs.Choosers.{Draw}
use Rattle.estelle_model.specs.Firing.{Firing, Ran, Failed, Undefined, start}
use Rattle.estelle_model.specs.Runs.{Begins, IsRun, situation}
use Rattle.estelle_model.specs.Ends.{last_event, IsNoFault, fires}
use Rattle.estelle_model.specs.Schedule.{Kept, IsPlanned, IsWaiting, known_after, Reaches, begins, goes_on, waits}
use Rattle.estelle_model_legality.specs.Instances.{LeadsToStates}
use Rattle.situation_steps.specs.declared.systems.System.{System}
use Rattle.situation_steps.specs.Systems.{systems_of}
use Rattle.situation_steps.proofs.Going.{last-push, fires-push, situation-push}
use Rattle.run_counts.specs.Counts.{selections}
use Rattle.situation_bounds.specs.Bounds.{waits_in, SelectionsAreBounded, WaitsAreBounded}
use Rattle.situation_bounds.proofs.Before.{IsBefore, run_before}
use Rattle.situation_bounds.proofs.Counts.{bound_stays}
use Rattle.situation_bounds.proofs.Known.{awaiting, IsKnown, selections-push}
use Rattle.situation_bounds.proofs.Steps.{known_start, known_selection, known_firing, known_wait}
use Rattle.situation_bounds.proofs.Ended.{no_wait, no_first_wait}

module _ {C : Type 0} (draw : Draw C) (s : Subject) (leads : LeadsToStates s) (budget turns : ℕ) (clock : Option ℕ) (chooser : C) where
  abbrev Comes : List Event → Kept C → Type 0
  Comes = Reaches draw s budget turns clock chooser

  -- there is an event
  some_event : (es : List Event) (kept : Kept C) → Comes es kept → (x : Event) × (more : List Event) × (es ≡ x ∷ more)
  some_event es kept (begins e) = (e, [], refl)
  some_event es kept (goes_on before kept' e rest r below planned) = let some = some_event before kept' r in (some.0, some.1 ++ e ∷ [], ap (λ (xs : List Event). xs ++ e ∷ []) some.2)
  some_event es kept (waits events kept' now r below waiting answer) = some_event events kept' r

  before_last : (es : List Event) (kept : Kept C) → Comes es kept → (e : Event) → IsRun s budget (es ++ e ∷ []) → IsBefore s budget es e
  before_last es kept r e run =
      let some = some_event es kept r in
      subst (λ (xs : List Event). IsBefore s budget xs e) (sym some.2) (run_before s budget some.0 some.1 e (subst (λ (xs : List Event). IsRun s budget (xs ++ e ∷ [])) some.2 run))

  -- ---- unless it ended in a fault, it is known

  known_first : (e : Event) → IsRun s budget (e ∷ []) → IsNoFault (Some e) → IsKnown s budget (e ∷ []) 0 0 0
  known_first (Start outs drops) run fine = known_start s leads budget outs drops run
  known_first (Select system now takes) run fine = absurd (not_first (start s budget) run)
    where
      not_first : (f : Firing) → Begins s budget f (Select system now takes) [] → ⊥
      not_first (Ran g outs drops left) h = h
      not_first (Failed kind left) h = h
      not_first Undefined h = h
  known_first (Fire m n outs drops) run fine = absurd (not_first (start s budget) run)
    where
      not_first : (f : Firing) → Begins s budget f (Fire m n outs drops) [] → ⊥
      not_first (Ran g outs' drops' left) h = h
      not_first (Failed kind left) h = h
      not_first Undefined h = h
  known_first (Fault m n kind) run fine = absurd fine

  known_next : (es : List Event) (kept : Kept C) (e : Event) (rest : C) (w : ℕ) → IsKnown s budget es kept.known kept.waited w → IsPlanned draw s budget es kept e rest → IsBefore s budget es e → IsNoFault (Some e)
      → IsKnown s budget (es ++ e ∷ []) (known_after e kept.known) kept.waited w
  known_next es kept (Start outs drops) rest w k planned b fine = absurd planned
  known_next es kept (Select system now takes) rest w k planned b fine = known_selection s leads budget draw es kept w k system now takes rest planned b.applies
  known_next es kept (Fire m n outs drops) rest w k planned b fine = known_firing s leads budget draw es kept w k m n outs drops b.applies
  known_next es kept (Fault m n kind) rest w k planned b fine = absurd fine

  known : (es : List Event) (kept : Kept C) (r : Comes es kept) → IsRun s budget es → IsNoFault (last_event es) → IsKnown s budget es kept.known kept.waited (waits_in r)
  known es kept (begins e) run fine = known_first e run fine
  known es kept (goes_on before kept' e rest r below planned) run fine =
      let b = before_last before kept' r e run in
      known_next before kept' e rest (waits_in r) (known before kept' r b.run b.goes_on) planned b (subst IsNoFault (last-push before e) fine)
  known es kept (waits events kept' now r below waiting answer) run fine = known_wait s leads budget draw events kept' (waits_in r) (known events kept' r run fine) now waiting answer

  -- ---- the bounds

  all_systems : (es : List Event) (a b w : ℕ) (k : IsKnown s budget es a b w) → length k.systems ≡ length (systems_of s (situation s budget es))
  all_systems es a b w k = sym (length-map k.systems (λ (x : System). x.path)) ∙ ap length k.under_way.all

  abbrev bound : List Event → ℕ → ℕ
  bound es w = (fires es + w + 1) * length (systems_of s (situation s budget es))

  of_known : (es : List Event) (a b w : ℕ) → IsKnown s budget es a b w → selections es ≤ bound es w
  of_known es a b w k = bound_stays (fires es + w + 1) (length k.systems) (selections es + awaiting k.systems) _ _ _ refl (sym (all_systems es a b w k)) (omega arith) k.selected

  -- the event is no fault, or the fault
  module _ (P : Event → Type 0) (other : (e : Event) → IsNoFault (Some e) → P e) (faulted : (m : Path) (n : ℕ) (kind : fault.Fault) → P (Fault m n kind)) where
    by_event : (e : Event) → P e
    by_event (Start outs drops) = other (Start outs drops) tt
    by_event (Select system now takes) = other (Select system now takes) tt
    by_event (Fire m n outs drops) = other (Fire m n outs drops) tt
    by_event (Fault m n kind) = faulted m n kind

  selected : (es : List Event) (kept : Kept C) (r : Comes es kept) → IsRun s budget es → selections es ≤ bound es (waits_in r)
  selected es kept (begins e) run =
      by_event (λ e. IsRun s budget (e ∷ []) → selections (e ∷ []) ≤ bound (e ∷ []) 0) (λ e fine run. of_known (e ∷ []) 0 0 0 (known_first e run fine)) (λ m n kind run. omega arith) e run
  selected es kept (goes_on before kept' e rest r below planned) run =
      let b = before_last before kept' r e run in
      let k = known before kept' r b.run b.goes_on in
      by_event (λ e. IsPlanned draw s budget before kept' e rest → IsBefore s budget before e → selections (before ++ e ∷ []) ≤ bound (before ++ e ∷ []) (waits_in r))
      (λ e fine planned b. of_known (before ++ e ∷ []) _ _ _ (known_next before kept' e rest (waits_in r) k planned b fine))
      (λ m n kind planned b.
      let fault = Fault m n kind in
      bound_stays (fires before + waits_in r + 1) _ (selections before) _ _ _ (omega (arith, fires-push before fault)) (ap (λ (g : Situation). length (systems_of s g)) (situation-push s budget before fault b.run)) (omega (arith, selections-push before fault))
      (of_known before _ _ _ k))
      e planned b
  selected es kept (waits events kept' now r below waiting answer) run = omega (arith, selected events kept' r run)

  -- ---- after a fault no wait follows

  not_waited : (es : List Event) (kept : Kept C) (r : Comes es kept) → IsRun s budget es → IsWaiting s budget es kept.waited → IsNoFault (last_event es)
  not_waited es kept (begins e) run waiting =
      by_event (λ e. IsRun s budget (e ∷ []) → IsWaiting s budget (e ∷ []) 0 → IsNoFault (Some e)) (λ e fine run waiting. fine) (λ m n kind run waiting. no_first_wait s budget leads m n kind run waiting) e run waiting
  not_waited es kept (goes_on before kept' e rest r below planned) run waiting =
      let b = before_last before kept' r e run in
      let k = known before kept' r b.run b.goes_on in
      subst IsNoFault (sym (last-push before e))
      (by_event (λ e. IsPlanned draw s budget before kept' e rest → IsWaiting s budget (before ++ e ∷ []) kept'.waited → IsNoFault (Some e)) (λ e fine planned waiting. fine)
      (λ m n kind planned waiting. no_wait s budget before b.run m n kind draw kept' rest k.under_way.waited planned waiting) e planned waiting)
  not_waited es kept (waits events kept' now r below waiting' answer) run waiting = not_waited events kept' r run waiting'

  waited : (es : List Event) (kept : Kept C) (r : Comes es kept) → IsRun s budget es → waits_in r ≤ fires es + 1
  waited es kept (begins e) run = omega arith
  waited es kept (goes_on before kept' e rest r below planned) run = omega (arith, waited before kept' r (before_last before kept' r e run).run, fires-push before e)
  waited es kept (waits events kept' now r below waiting answer) run =
      let k = known_wait s leads budget draw events kept' (waits_in r) (known events kept' r run (not_waited events kept' r run waiting)) now waiting answer in
      omega (arith, k.has_waited)

pub selections_are_bounded : {C : Type 0} → SelectionsAreBounded C
selections_are_bounded draw s leads budget turns clock chooser events kept r run = selected draw s leads budget turns clock chooser events kept r run

pub waits_are_bounded : {C : Type 0} → WaitsAreBounded C
waits_are_bounded draw s leads budget turns clock chooser events kept r run = waited draw s leads budget turns clock chooser events kept r run
