-- A run and what it goes on by: its last event applies, and what comes before is a run.
use Rattle.std.proofs.Common.{◌≡◌, ℕ, suc, List, [], ◌∷◌, ◌++◌, take, Some, ap, subst, ◌∙◌}
use Rattle.std.specs.Prelude.{slice_get}
use Rattle.std.proofs.Math.Seq.{take-suc}
use Rattle.std.proofs.lemmas.Option.{get_or_from_slice_get, slice_get_within}
use Rattle.estelle_model.specs.declared.event.Event.{Event}
use Rattle.estelle_model.specs.declared.event.Event.TheVariants.{Start, Select, Fire, Fault}
use Rattle.estelle_model.specs.Subject.{Subject}
use Rattle.estelle_model.specs.Situation.{Situation}
use Rattle.estelle_model.specs.Firing.{Firing, Ran, Failed, Undefined, start}
use Rattle.estelle_model.specs.Runs.{next, Applies, IsLastIfFault, Goes, after_events, Begins, IsRun, started, situation}
use Rattle.estelle_model.specs.Ends.{last_event, IsNoFault}

-- no event, or the last one is no fault
abbrev IsOpenList : List Event → Type 0
IsOpenList [] = Unit {0}
IsOpenList (e ∷ es) = IsNoFault (last_event (e ∷ es))

not_empty : (es : List Event) (e : Event) → es ++ e ∷ [] ≡ [] → ⊥
not_empty [] e h = absurd (cc)
not_empty (x ∷ es) e h = absurd (cc)

-- with others after it, it is no fault
no_last : (x : Event) (es : List Event) (e : Event) → IsLastIfFault x (es ++ e ∷ []) → IsNoFault (Some x)
no_last (Start outs drops) es e h = tt
no_last (Select system now takes) es e h = tt
no_last (Fire m n outs drops) es e h = tt
no_last (Fault m n kind) es e h = absurd (not_empty es e h)

still_last : (x : Event) (es more : List Event) → IsNoFault (Some x) → IsLastIfFault x more
still_last (Start outs drops) es more h = tt
still_last (Select system now takes) es more h = tt
still_last (Fire m n outs drops) es more h = tt
still_last (Fault m n kind) es more h = absurd h

last_after : (x : Event) (es : List Event) → IsNoFault (Some x) → IsOpenList es → IsNoFault (last_event (x ∷ es))
last_after x [] sound h = sound
last_after x (y ∷ es) sound h = h

module _ (s : Subject) (budget : ℕ) where
  -- no fault ended them, and the event applies to the situation after them
  pub record EndsBy (g : Situation) (es : List Event) (e : Event) : Type 0 where
    pub goes : Goes s budget g es
    pub no_fault : IsOpenList es
    pub applies : Applies s budget (after_events s budget g es) e

  Goes-last : (g : Situation) (es : List Event) (e : Event) → Goes s budget g (es ++ e ∷ []) → EndsBy g es e
  Goes-last g [] e h = record { goes = tt; no_fault = tt; applies = h.0 }
  Goes-last g (x ∷ es) e h =
      let rest = Goes-last (next s budget g x) es e h.2 in
      let sound = no_last x es e h.1 in
      record { goes = (h.0, still_last x es es sound, rest.goes); no_fault = last_after x es sound rest.no_fault; applies = rest.applies }

  -- the event applies after a run that no fault ended
  pub record RunsBy (es : List Event) (e : Event) : Type 0 where
    pub run : IsRun s budget es
    pub no_fault : IsNoFault (last_event es)
    pub applies : Applies s budget (situation s budget es) e

  abbrev Begun : Firing → Event → List Event → Event → Type 0
  Begun f x es e = Begins s budget f x es × IsNoFault (last_event (x ∷ es)) × Applies s budget (after_events s budget (started s f) es) e

  Begins-last : (f : Firing) (x : Event) (es : List Event) (e : Event) → Begins s budget f x (es ++ e ∷ []) → Begun f x es e
  Begins-last (Ran g outs drops left) (Start outs' drops') es e h =
      let rest = Goes-last g es e h.2 in
      ((h.0, h.1, rest.goes), last_after (Start outs' drops') es tt rest.no_fault, rest.applies)
  Begins-last (Ran g outs drops left) (Select system n takes) es e h = absurd h
  Begins-last (Ran g outs drops left) (Fire m n outs' drops') es e h = absurd h
  Begins-last (Ran g outs drops left) (Fault m n k) es e h = absurd h
  Begins-last (Failed kind left) (Start outs' drops') es e h = absurd h
  Begins-last (Failed kind left) (Select system n takes) es e h = absurd h
  Begins-last (Failed kind left) (Fire m n outs' drops') es e h = absurd h
  Begins-last (Failed kind left) (Fault m n k) es e h = absurd (not_empty es e h.3)
  Begins-last Undefined x es e h = absurd h

  -- what a run of more than the start goes on by
  pub run_last : (x : Event) (es : List Event) (e : Event) → IsRun s budget ((x ∷ es) ++ e ∷ []) → RunsBy (x ∷ es) e
  run_last x es e h = let b = Begins-last (start s budget) x es e h in record { run = b.0; no_fault = b.1; applies = b.2 }

-- one event more
pub take_more : (events : List Event) (n : ℕ) (e : Event) → slice_get events n ≡ Some e → take (suc n) events ≡ take n events ++ e ∷ []
take_more events n e at =
    take-suc events n e (slice_get_within events n e at) ∙ ap (λ (x : Event). take n events ++ x ∷ []) (get_or_from_slice_get events n e e at)

module _ (s : Subject) (budget : ℕ) (events : List Event) (n : ℕ) (e : Event) (at : slice_get events n ≡ Some e) where
  -- a longer run goes on by its last event
  pub goes_on_by : IsRun s budget (take n events) → IsRun s budget (take (suc n) events) → RunsBy s budget (take n events) e
  goes_on_by run longer = by (take n events) run (subst (IsRun s budget) (take_more events n e at) longer)
    where
      by : (es : List Event) → IsRun s budget es → IsRun s budget (es ++ e ∷ []) → RunsBy s budget es e
      by [] run h = absurd run
      by (x ∷ es) run h = run_last s budget x es e h
