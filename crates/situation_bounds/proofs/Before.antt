-- A run without its last event.
use Rattle.std.proofs.Common.{◌≡◌, ℕ, List, [], ◌∷◌, ◌++◌, Some}
use Rattle.estelle_model.specs.declared.event.Event.{Event}
use Rattle.estelle_model.specs.declared.event.Event.TheVariants.{Start, Select, Fire, Fault}
use Rattle.estelle_model.specs.Subject.{Subject}
use Rattle.estelle_model.specs.Situation.{Situation}
use Rattle.estelle_model.specs.Firing.{Firing, Ran, Failed, Undefined, start}
use Rattle.estelle_model.specs.Runs.{next, Applies, IsLastIfFault, Goes, after_events, Begins, IsRun, started, situation}
use Rattle.estelle_model.specs.Ends.{last_event, IsNoFault}

none_left : {A : Type 0} (xs : List A) (x : A) → xs ++ x ∷ [] ≡ [] → ⊥
none_left [] x e = cc
none_left (y ∷ ys) x e = cc

-- what has an event after it is no fault
no_fault : (x : Event) (es : List Event) (e : Event) → IsLastIfFault x (es ++ e ∷ []) → IsNoFault (Some x)
no_fault (Start outs drops) es e h = tt
no_fault (Select system now takes) es e h = tt
no_fault (Fire m n outs drops) es e h = tt
no_fault (Fault m n kind) es e h = absurd (none_left es e h)

still_last : (x : Event) (es : List Event) → IsNoFault (Some x) → IsLastIfFault x es
still_last (Start outs drops) es h = tt
still_last (Select system now takes) es h = tt
still_last (Fire m n outs drops) es h = tt
still_last (Fault m n kind) es h = absurd h

module _ (s : Subject) (budget : ℕ) where
  -- before the last event there is a run that no fault ended, and to its situation the event applies
  pub record IsBefore (es : List Event) (e : Event) : Type 0 where
    pub run : IsRun s budget es
    pub goes_on : IsNoFault (last_event es)
    pub applies : Applies s budget (situation s budget es) e

  goes_before : (x : Event) → IsNoFault (Some x) → (g : Situation) (es : List Event) (e : Event) → Goes s budget g (es ++ e ∷ [])
      → Goes s budget g es × IsNoFault (last_event (x ∷ es)) × Applies s budget (after_events s budget g es) e
  goes_before x fine g [] e h = (tt, fine, h.0)
  goes_before x fine g (y ∷ es) e h =
      let of_y = no_fault y es e h.1 in
      let rest = goes_before y of_y (next s budget g y) es e h.2 in
      ((h.0, still_last y es of_y, rest.0), rest.1, rest.2)

  begins_before : (f : Firing) (x : Event) (es : List Event) (e : Event) → Begins s budget f x (es ++ e ∷ []) → Begins s budget f x es × IsNoFault (last_event (x ∷ es)) × Applies s budget (after_events s budget (started s f) es) e
  begins_before (Ran g outs drops left) (Start outs' drops') es e h = let rest = goes_before (Start outs' drops') tt g es e h.2 in ((h.0, h.1, rest.0), rest.1, rest.2)
  begins_before (Ran g outs drops left) (Select system now takes) es e h = absurd h
  begins_before (Ran g outs drops left) (Fire m n outs' drops') es e h = absurd h
  begins_before (Ran g outs drops left) (Fault m n kind) es e h = absurd h
  begins_before (Failed kind left) (Start outs drops) es e h = absurd h
  begins_before (Failed kind left) (Select system now takes) es e h = absurd h
  begins_before (Failed kind left) (Fire m n outs drops) es e h = absurd h
  begins_before (Failed kind left) (Fault m n kind') es e h = absurd (none_left es e h.3)
  begins_before Undefined x es e h = absurd h

  pub run_before : (x : Event) (es : List Event) (e : Event) → IsRun s budget (x ∷ es ++ e ∷ []) → IsBefore (x ∷ es) e
  run_before x es e h = let r = begins_before (start s budget) x es e h in record { run = r.0; goes_on = r.1; applies = r.2 }
