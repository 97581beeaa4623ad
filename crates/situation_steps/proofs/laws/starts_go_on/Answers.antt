use Rattle.situation_steps.proofs.Starting as by
use Rattle.situation_steps.proofs.laws.starts_go_on.Goals as goal

pub returns : goal.returns
returns c = by.starts_go_on
