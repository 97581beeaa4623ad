-- Ends of a run: a fault, the limit, and the clock.
use Rattle.std.proofs.Common.{ℕ, [], ◌∷◌, ◌++◌, Option, refl, sym, subst, inl, inr}
use Rattle.estelle_model.specs.declared.event.Event.{Event}
use Rattle.estelle_model.specs.declared.event.Event.TheVariants.{Fault}
use Rattle.estelle_model.specs.Ends.{last_event, IsFault}
use Rattle.estelle_model.specs.Schedule.{IsFirstDue}
use Rattle.situation_steps.specs.Ends.{FaultsEnd, GuardFaultsArePlanned, TurnsEnd, ClocksEndSelections, ClocksEndWaits}
use Rattle.situation_steps.proofs.Going.{last-push, IsRun-push}
use Rattle.situation_steps.proofs.Due.{first_due}

pub faults_end : FaultsEnd
faults_end s budget turns es time systems w m n kind applies =
    let last : IsFault (last_event (es ++ Fault m n kind ∷ [])) kind = subst (λ (o : Option Event). IsFault o kind) (sym (last-push es (Fault m n kind))) refl in
    record { run = IsRun-push s budget es (Fault m n kind) w.run w.goes_on applies; stops = last; planned = last }

pub guard_faults_are_planned : {C : Type 0} → GuardFaultsArePlanned C
guard_faults_are_planned {C} draw s budget es time systems w at x first m n kind fault =
    let due = first_due s budget es time systems w at x first in
    record {
      applies = inr (record { system = x.path; is_system = due.due.is_system; idle = due.due.idle; first = fault });
      planned = λ kept same. record { system = x.path; due = subst (λ (k : ℕ). IsFirstDue s budget es k x.path) (sym same) due; fault = fault; undrawn = refl };
    }

pub turns_end : TurnsEnd
turns_end s budget turns es time systems w full = record { run = w.run; stops = (w.goes_on, full); planned = full }

pub clocks_end_selections : ClocksEndSelections
clocks_end_selections s budget turns es time systems w delays at x first below =
    record { run = w.run; stops = (w.goes_on, below); planned = record { below = below; delays = delays; asked = inl (x.path, (first_due s budget es time systems w at x first).due) } }

pub clocks_end_waits : ClocksEndWaits
clocks_end_waits s budget turns es time systems w delays waiting below = record { run = w.run; stops = (w.goes_on, below); planned = record { below = below; delays = delays; asked = inr waiting } }
