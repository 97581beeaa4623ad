-- Situations are legal from the start on: every event keeps them so.
use Rattle.std.specs.Prelude.{ℕ, List}
use Rattle.estelle_model.specs.declared.event.Event.{Event}
use Rattle.estelle_model.specs.Subject.{Subject}
use Rattle.estelle_model.specs.Situation.{Situation}
use Rattle.estelle_model.specs.Firing.{Firing, Ran, Failed, Undefined, start}
use Rattle.estelle_model.specs.Runs.{Applies, next, IsRun, situation_at}
use Rattle.estelle_model_legality.specs.Instances.{LeadsToStates}
use Rattle.estelle_model_legality.specs.Situations.{IsLegal}

-- what the start comes to is legal, where it runs
abbrev pub IsStarted : Subject → Firing → Type 0
IsStarted s (Ran after outs drops left) = IsLegal s after
IsStarted s (Failed kind left) = Unit {0}
IsStarted s Undefined = Unit {0}

abbrev pub StartIsLegal : Type 0
StartIsLegal = (s : Subject) → LeadsToStates s → (budget : ℕ) → IsStarted s (start s budget)

-- an event that applies to a legal situation leads to a legal one
abbrev pub EventsKeepLegal : Type 0
EventsKeepLegal = (s : Subject) → LeadsToStates s → (budget : ℕ) (g : Situation) → IsLegal s g → (e : Event) → Applies s budget g e → IsLegal s (next s budget g e)

-- the start runs
abbrev pub HasStarted : Firing → Type 0
HasStarted (Ran after outs drops left) = Unit {0}
HasStarted (Failed kind left) = ⊥
HasStarted Undefined = ⊥

-- every situation of a run is legal; where the start faults there is none
abbrev pub RunsAreLegal : Type 0
RunsAreLegal = (s : Subject) → LeadsToStates s → (budget : ℕ) (events : List Event) → IsRun s budget events → HasStarted (start s budget) → (i : ℕ) → IsLegal s (situation_at s budget events i)
