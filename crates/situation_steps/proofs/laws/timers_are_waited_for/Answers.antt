use Rattle.situation_steps.proofs.Waiting as by
use Rattle.situation_steps.proofs.laws.timers_are_waited_for.Goals as goal

pub returns : goal.returns
returns c = by.timers_are_waited_for
