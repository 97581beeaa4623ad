use Rattle.situation_steps.proofs.Ends as by
use Rattle.situation_steps.proofs.laws.faults_end.Goals as goal

pub returns : goal.returns
returns c = by.faults_end
