use Rattle.situation_steps.proofs.Selections as by
use Rattle.situation_steps.proofs.laws.selections_go_on.Goals as goal

pub returns : goal.returns
returns g c = by.selections_go_on
