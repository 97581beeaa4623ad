-- Whether events and an end are those of a run, entry by entry: the events are the entries 1, 2, .. and the end is the last one.
use Rattle.std.specs.Prelude.{ℕ, zero, suc, ◌<◌, List, length, take}
use Rattle.estelle_model.specs.declared.event.Event.{Event}
use Rattle.estelle_model.specs.declared.event.End.{End}
use Rattle.estelle_model.specs.Subject.{Subject}
use Rattle.estelle_model.specs.Runs.{IsRun}
use Rattle.estelle_model.specs.Ends.{Closes}
use Rattle.trace_check.specs.declared.error.JudgeError.{JudgeError}
use Rattle.trace_check.specs.declared.error.JudgeError.TheVariants.{NotARun, Memory}

-- the events are those of a run that may end so, whatever the schedule
pub record IsRunTo (s : Subject) (budget : ℕ) (events : List Event) (e : End) : Type 0 where
  pub run : IsRun s budget events
  pub closes : Closes s budget events e

-- so many entries apply, one after another: the first is the start or its fault
abbrev pub Apply : Subject → ℕ → List Event → ℕ → Type 0
Apply s budget events zero = Unit {0}
Apply s budget events (suc n) = IsRun s budget (take (suc n) events)

-- the entry with this number is the first that does not apply: an event with which the run does not go on, or an end that does not close it
pub data IsFirstWrong (s : Subject) (budget : ℕ) (events : List Event) (e : End) : ℕ → Type 0 where
  event : (n : ℕ) → n < length events → Apply s budget events n → (Apply s budget events (suc n) → ⊥) → IsFirstWrong s budget events e (suc n)
  ending : Apply s budget events (length events) → (Closes s budget events e → ⊥) → IsFirstWrong s budget events e (suc (length events))

-- why they are refused; want of memory says nothing
abbrev pub IsRefused : Subject → ℕ → List Event → End → JudgeError → Type 0
IsRefused s budget events e (NotARun entry) = IsFirstWrong s budget events e entry
IsRefused s budget events e Memory = Unit {0}
