-- Histories of runs: the events of a run, and what else is noted while threads run.
use Rattle.std.specs.Prelude.{ℕ, List, filter_map, Option, Some, None}
use Rattle.estelle_model.specs.declared.event.Event.{Event}
use Rattle.estelle_model.specs.Ends as events
use Rattle.run_history.specs.declared.entry.Entry.{Entry}
use Rattle.run_history.specs.declared.entry.What.{What}
use Rattle.run_history.specs.declared.entry.What.TheVariants as what

-- the entries in order, and for how many more there is memory
pub record History : Type 0 where
  pub entries : List Entry
  pub spare : ℕ

-- the event, if it is one that was noted
abbrev pub event_of : What → Option Event
event_of (what.Event e) = Some e
event_of (what.Take ticket path trans) = None
event_of (what.Ended end) = None

-- the events of the run, in order
abbrev pub project : List Entry → List Event
project = filter_map (λ e. event_of e.what)

-- how many of the events are firings
abbrev pub fires : List Entry → ℕ
fires entries = events.fires (project entries)
