use Rattle.run_counts.proofs.Within as by
use Rattle.run_counts.proofs.laws.outputs_are_within.Goals as goal

pub returns : goal.returns
returns c = by.outputs_are_within
