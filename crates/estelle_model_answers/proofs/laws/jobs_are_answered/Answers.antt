use Rattle.estelle_model_answers.proofs.Answering.{jobs_answered}
use Rattle.estelle_model_answers.proofs.laws.jobs_are_answered.Goals as goal

pub returns : goal.returns
returns c = jobs_answered
