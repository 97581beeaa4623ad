use Rattle.estelle_model_answers.proofs.Answering.{guards_answered}
use Rattle.estelle_model_answers.proofs.laws.guards_are_answered.Goals as goal

pub returns : goal.returns
returns c = guards_answered
