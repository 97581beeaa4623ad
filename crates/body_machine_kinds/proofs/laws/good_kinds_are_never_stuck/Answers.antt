use Rattle.body_machine_kinds.proofs.laws.good_kinds_are_never_stuck.Goals as goal
use Rattle.body_machine_kinds.proofs.NeverStuck.{never_stuck}

pub returns : goal.returns
returns c = never_stuck
