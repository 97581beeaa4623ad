use Rattle.situation.proofs.Planned.{steps_reach}
use Rattle.situation.proofs.laws.planned_steps_reach.Goals as goal

pub returns : goal.returns
returns g c = steps_reach
