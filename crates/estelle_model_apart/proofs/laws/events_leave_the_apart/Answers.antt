use Rattle.estelle_model_apart.proofs.Apart.{events_leave}
use Rattle.estelle_model_apart.proofs.Runs.{many_leave}
use Rattle.estelle_model_apart.proofs.laws.events_leave_the_apart.Goals as goal

pub returns-clause-one : goal.returns-clause-one
returns-clause-one c = events_leave

pub returns-clause-many : goal.returns-clause-many
returns-clause-many c = many_leave
