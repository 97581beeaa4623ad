use Rattle.situation_steps.proofs.Waiting as by
use Rattle.situation_steps.proofs.laws.waits_go_on.Goals as goal

pub returns : goal.returns
returns c = by.waits_go_on
