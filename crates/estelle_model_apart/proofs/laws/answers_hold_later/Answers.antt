use Rattle.estelle_model_apart.proofs.Answers as later
use Rattle.estelle_model_apart.proofs.Runs as run
use Rattle.estelle_model_apart.proofs.laws.answers_hold_later.Goals as goal

pub returns-clause-later : goal.returns-clause-later
returns-clause-later c = later.answers_hold_later

pub returns-clause-run : goal.returns-clause-run
returns-clause-run c = run.answers_hold_in_runs
