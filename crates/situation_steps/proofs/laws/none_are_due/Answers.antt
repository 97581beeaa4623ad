use Rattle.situation_steps.proofs.Due as by
use Rattle.situation_steps.proofs.laws.none_are_due.Goals as goal

pub returns : goal.returns
returns c = by.none_are_due
