use Rattle.estelle_model_apart.proofs.Runs as by
use Rattle.estelle_model_apart.proofs.laws.events_are_apart.Goals as goal

pub returns-clause-one : goal.returns-clause-one
returns-clause-one c = by.events_are_apart

pub returns-clause-run : goal.returns-clause-run
returns-clause-run c = by.runs_leave
