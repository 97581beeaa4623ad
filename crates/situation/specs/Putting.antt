-- To which situation a history leads.
use Rattle.std.specs.Prelude.{ℕ, List}
use Rattle.estelle_model.specs.Subject.{Subject}
use Rattle.estelle_model.specs.Situation.{Situation}
use Rattle.estelle_model.specs.Runs.{situation}
use Rattle.run_history.specs.declared.entry.Entry.{Entry}
use Rattle.run_history.specs.Histories.{project}

-- the situation that the events of a history lead to
abbrev pub led_to : Subject → ℕ → List Entry → Situation
led_to s budget entries = situation s budget (project entries)
