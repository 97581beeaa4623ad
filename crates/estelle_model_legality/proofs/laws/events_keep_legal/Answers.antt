use Rattle.estelle_model_legality.proofs.Keeping.{events_keep}
use Rattle.estelle_model_legality.proofs.laws.events_keep_legal.Goals as goal

pub returns : goal.returns
returns c = events_keep
