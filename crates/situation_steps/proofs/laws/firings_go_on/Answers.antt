use Rattle.situation_steps.proofs.Fired as by
use Rattle.situation_steps.proofs.laws.firings_go_on.Goals as goal

pub returns : goal.returns
returns c = by.firings_go_on
