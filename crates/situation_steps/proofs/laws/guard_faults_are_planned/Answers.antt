use Rattle.situation_steps.proofs.Ends as by
use Rattle.situation_steps.proofs.laws.guard_faults_are_planned.Goals as goal

pub returns : goal.returns
returns g c = by.guard_faults_are_planned
