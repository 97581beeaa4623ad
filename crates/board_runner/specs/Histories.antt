-- What passes know of a world on a board: its fixed part, and the entries of its history.
use Rattle.std.specs.Prelude.{◌≡◌, ◌<◌, ℕ, ◌+◌, ◌*◌, ◌^◌, List, [], ◌∷◌, length, Option, Some, None}
use Rattle.estelle_tree.specs.declared.transition.Pair.{Pair}
use Rattle.estelle_model.specs.declared.event.End.{End}
use Rattle.estelle_model.specs.Subject.{Subject}
use Rattle.estelle_model.specs.Situation.{Situation}
use Rattle.estelle_model.specs.Runs.{situation}
use Rattle.estelle_model.specs.Schedule.{NoneDue}
use Rattle.estelle_model_legality.specs.Instances.{LeadsToStates}
use Rattle.run_history.specs.declared.entry.Entry.{Entry}
use Rattle.run_history.specs.declared.entry.What.{What}
use Rattle.run_history.specs.declared.entry.What.TheVariants as what
use Rattle.run_history.specs.Histories.{project, fires}
use Rattle.run_history.specs.Tickets.{tickets}
use Rattle.run_history.specs.OpenTickets.{open_in, untaken}
use Rattle.situation_steps.specs.declared.systems.System.{System}
use Rattle.situation_steps.specs.declared.systems.Time.{Time}
use Rattle.situation.specs.declared.limits.Limits.{Limits}
use Rattle.situation.specs.Known.{Known}
use Rattle.situation.specs.Runs.{IsGoing, IsClosed, AreAllTaken}

-- ---- the fixed part

-- the specification, the limits, and how often the clock had failed when the world was begun
abbrev pub Base : Type 0
Base = Subject × Limits × ℕ

abbrev pub subject_of : Base → Subject
subject_of b = b.0

abbrev pub budget_of : Base → ℕ
budget_of b = b.1.budget

abbrev pub turns_of : Base → ℕ
turns_of b = b.1.turns

abbrev pub base_of : {C H : Type 0} → Known C H → Base
base_of w = (w.subject, w.limits, w.first)

-- ---- ends

-- the end that is noted, if this is one
abbrev pub end_or : What → Option End → Option End
end_or (what.Ended e) later = Some e
end_or (what.Event e) later = later
end_or (what.Take ticket path trans) later = later

-- the end that is noted among the entries, if there is one
abbrev pub end_in : List Entry → Option End
end_in [] = None
end_in (e ∷ es) = end_or e.what (end_in es)

-- ---- histories

-- they are those of a run that goes on, of which the last wait for the clock came after so many events
pub record AreOngoing (b : Base) (waited : ℕ) (es : List Entry) : Type 0 where
  pub time : Time
  pub systems : List System
  pub last_wait : time.waited ≡ waited
  pub going : IsGoing (subject_of b) (budget_of b) (turns_of b) es time systems
  -- each firing was taken under a ticket, and is under way, or was made
  pub taken : length (tickets es) ≡ fires es + length (open_in es)

-- they are those of a run that has ended so
pub record AreOver (b : Base) (waited : ℕ) (es : List Entry) (e : End) : Type 0 where
  pub closed : IsClosed (subject_of b) (budget_of b) (turns_of b) es waited e
  pub taken : AreAllTaken e es (length (tickets es))

abbrev pub AreOf : Option End → Base → ℕ → List Entry → Type 0
AreOf None b waited es = AreOngoing b waited es
AreOf (Some e) b waited es = AreOver b waited es e

-- the entries are the history of a run of the specification within the limits, which goes on, or has ended as is noted
pub record IsHistory (b : Base) (waited : ℕ) (es : List Entry) : Type 0 where
  -- bodies lead to states of their own, and no count comes to its end
  pub leads : LeadsToStates (subject_of b)
  pub room : budget_of b * (turns_of b + 1) < 2 ^ 63
  pub so_far : AreOf (end_in es) b waited es

-- ---- what is next

-- the situation that the run has come to
abbrev pub situation_after : Base → List Entry → Situation
situation_after b es = situation (subject_of b) (budget_of b) (project es)

-- the firings that are pending in it and were not taken
abbrev pub untaken_after : Base → List Entry → List Pair
untaken_after b es = untaken (open_in es) (situation_after b es).pending

-- the run goes on below the limit of firings, and no system is due
pub record HaveNoneDue (b : Base) (waited : ℕ) (es : List Entry) : Type 0 where
  pub unended : end_in es ≡ None
  pub below : fires es < turns_of b
  pub none_due : NoneDue (subject_of b) (budget_of b) (project es) waited
