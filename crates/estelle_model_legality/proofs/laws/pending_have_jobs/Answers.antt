use Rattle.estelle_model_legality.proofs.Taken.{taken}
use Rattle.estelle_model_legality.proofs.Conditions.{taken_meets, start_meets}
use Rattle.estelle_model_legality.proofs.laws.pending_have_jobs.Goals as goal

pub returns : goal.returns
returns c = record { jobs = taken; condition = taken_meets; start = start_meets }
