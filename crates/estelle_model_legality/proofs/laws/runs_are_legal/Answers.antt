use Rattle.estelle_model_legality.proofs.Keeping as keeping
use Rattle.estelle_model_legality.proofs.laws.runs_are_legal.Goals as goal

pub returns : goal.returns
returns c = keeping.runs_are_legal
