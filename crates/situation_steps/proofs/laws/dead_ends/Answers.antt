use Rattle.situation_steps.proofs.Dead as by
use Rattle.situation_steps.proofs.laws.dead_ends.Goals as goal

pub returns : goal.returns
returns c = by.dead_ends
