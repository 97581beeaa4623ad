-- What is kept of the history of a run.
use Rattle.std.specs.Prelude.{◌≡◌, ◌⊎◌, ◌≤◌, ℕ, ◌+◌, ◌*◌, nat_eq, if◌then◌else◌, List, [], ◌∷◌, ◌++◌, length, Option, Some, None}
use Rattle.estelle_tree.specs.Paths.{Path}
use Rattle.estelle_tree.specs.declared.transition.Pair.{Pair}
use Rattle.estelle_model.specs.declared.event.Event.{Event}
use Rattle.estelle_model.specs.declared.event.End.{End}
use Rattle.estelle_model.specs.declared.event.End.TheVariants.{Turns, Faulted}
use Rattle.estelle_model.specs.declared.job.Job.{Job}
use Rattle.estelle_model.specs.Jobs.{IsJobIn}
use Rattle.estelle_model.specs.Subject.{Subject}
use Rattle.estelle_model.specs.Situation.{Situation}
use Rattle.estelle_model.specs.Firing.{start}
use Rattle.estelle_model.specs.Runs.{IsRun, situation}
use Rattle.estelle_model.specs.Ends.{Stops}
use Rattle.estelle_model.specs.Choosers.{Draw}
use Rattle.estelle_model.specs.Schedule.{Reaches, IsPlannedEnd, IsScheduled}
use Rattle.estelle_model_legality.specs.Keeping.{HasStarted}
use Rattle.estelle_model_legality.specs.Situations.{IsLegal}
use Rattle.run_history.specs.declared.entry.Entry.{Entry}
use Rattle.run_history.specs.declared.entry.Taken.{Taken}
use Rattle.run_history.specs.declared.entry.What.TheVariants as what
use Rattle.run_history.specs.Histories.{project, fires}
use Rattle.run_history.specs.Tickets.{tickets, AreTickets}
use Rattle.run_history.specs.OpenTickets.{open_in}
use Rattle.situation_units.specs.Counting.{births_at}
use Rattle.situation_steps.specs.declared.systems.System.{System}
use Rattle.situation_steps.specs.declared.systems.Time.{Time}
use Rattle.situation_steps.specs.UnderWay.{IsUnderWay}

-- ---- entries

-- an event, as this writer notes it
abbrev pub noted : ℕ → Event → Entry
noted by e = record { by = by; what = what.Event e }

-- the end of the run
abbrev pub ending : ℕ → End → Entry
ending by e = record { by = by; what = what.Ended e }

-- a pending firing is taken under a ticket
abbrev pub take_of : ℕ → ℕ → Pair → Entry
take_of by ticket p = record { by = by; what = what.Take ticket p.path p.trans }

-- the ticket under which it is taken
abbrev pub taken_as : ℕ → ℕ → Pair → Taken
taken_as by ticket p = record { ticket = ticket; path = p.path; trans = p.trans; by = by }

-- entries with the end behind them, where their firings have come to the limit
abbrev pub ended_at : ℕ → ℕ → List Entry → List Entry
ended_at by turns es = if nat_eq (fires es) turns then es ++ ending by Turns ∷ [] else es

-- and that end, where there was none or this one
abbrev pub end_at : ℕ → Option End → List Entry → Option End
end_at turns ended es = if nat_eq (fires es) turns then Some Turns else ended

-- ---- what is kept

-- each entry is an event or a ticket
abbrev pub AreCounted : List Entry → Type 0
AreCounted es = length es ≡ length (project es) + length (tickets es)

-- more outputs there cannot have been, and no instance can have had more children
pub record IsWithin (budget count : ℕ) (g : Situation) : Type 0 where
  pub made : g.made ≤ budget * (count + 1)
  pub births : (p : Path) → births_at p g ≤ budget * (count + 1)

-- what is kept of the history of a run that goes on
pub record IsGoing (s : Subject) (budget turns : ℕ) (entries : List Entry) (time : Time) (systems : List System) : Type 0 where
  -- the events are a run that no fault ended, and lead to a legal situation
  pub under_way : IsUnderWay s budget (project entries) time systems
  -- there have been no more firings than the limit, and so many outputs and births at most
  pub below : fires entries ≤ turns
  pub within : IsWithin budget (fires entries) (situation s budget (project entries))
  -- tickets are in order
  pub tickets : AreTickets s budget entries
  -- and the run has no end yet
  pub counted : AreCounted entries

-- what is kept of that of a run that has ended, of which the last wait for the clock came after so many events
pub record IsClosed (s : Subject) (budget turns : ℕ) (entries : List Entry) (waited : ℕ) (e : End) : Type 0 where
  -- this end is the last entry, and there is no other one
  pub before : List Entry
  pub writer : ℕ
  pub last : entries ≡ before ++ ending writer e ∷ []
  pub counted : AreCounted before
  -- the events are a run that stops so, as is planned, and where the start ran they lead to a legal situation
  pub run : IsRun s budget (project entries)
  pub stops : Stops s budget turns (project entries) e
  pub planned : IsPlannedEnd s budget turns (project entries) waited e
  pub legal : HasStarted (start s budget) → IsLegal s (situation s budget (project entries))
  -- there have been no more firings than the limit, and so many outputs and births at most
  pub below : fires entries ≤ turns
  pub within : IsWithin budget (fires entries) (situation s budget (project entries))
  -- tickets are in order; what was taken before the end may still be open
  pub tickets : AreTickets s budget entries

-- so many tickets are those of the firings that there were and of those that are under way, and of the one that faulted, if one did
abbrev pub AreAllTaken : End → List Entry → ℕ → Type 0
AreAllTaken (Faulted kind) es taken = (taken ≡ fires es + length (open_in es)) ⊎ (taken ≡ fires es + length (open_in es) + 1)
AreAllTaken e es taken = taken ≡ fires es + length (open_in es)

-- ---- the clock

-- what is known of the clock is the moment that it tells, if it is known that it tells one
abbrev pub IsTold : Option ℕ → Option ℕ → Type 0
IsTold None moment = Unit {0}
IsTold (Some known) moment = moment ≡ Some known

-- from a clock that tells the first moment, or none, and from the first chooser on, the planned steps give these events, and leave this chooser and a clock that tells this
pub record AreReached {C : Type 0} (draw : Draw C) (s : Subject) (budget turns : ℕ) (clock : Option ℕ) (first : C) (entries : List Entry) (chooser : C) (time : Time) (moment : Option ℕ) : Type 0 where
  pub known : Option ℕ
  pub told : IsTold known moment
  pub reached : Reaches draw s budget turns clock first (project entries) (record { chooser = chooser; known = time.known; waited = time.waited; clock = known })

-- ---- the end

-- the events are a run that stops with this end, and the one that is scheduled by this chooser and by a clock that tells this moment, or none
pub record IsStopped {C : Type 0} (draw : Draw C) (chooser : C) (clock : Option ℕ) (s : Subject) (budget turns : ℕ) (events : List Event) (e : End) : Type 0 where
  pub run : IsRun s budget events
  pub stops : Stops s budget turns events e
  pub scheduled : IsScheduled draw s budget turns clock chooser events e

-- ---- what is computed

-- it is the job of a pending firing in a situation
pub record IsJobFor (s : Subject) (g : Situation) (budget : ℕ) (p : Pair) (job : Job) : Type 0 where
  pub path : job.path ≡ p.path
  pub trans : job.trans ≡ p.trans
  pub units : job.budget ≡ budget
  pub in_it : IsJobIn s g job
