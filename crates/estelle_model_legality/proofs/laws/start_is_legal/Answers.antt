use Rattle.estelle_model_legality.proofs.Started.{start_is_legal}
use Rattle.estelle_model_legality.proofs.laws.start_is_legal.Goals as goal

pub returns : goal.returns
returns c = start_is_legal
