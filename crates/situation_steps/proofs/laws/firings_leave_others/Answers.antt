-- A firing leaves what it does not belong to.
use Rattle.situation_steps.proofs.Others as by
use Rattle.situation_steps.proofs.laws.firings_leave_others.Goals as goal

pub returns : goal.returns
returns c = by.firings_leave_others
