use Rattle.situation_bounds.proofs.Bounds as by
use Rattle.situation_bounds.proofs.laws.selections_are_bounded.Goals as goal

pub returns : goal.returns
returns g c = by.selections_are_bounded
