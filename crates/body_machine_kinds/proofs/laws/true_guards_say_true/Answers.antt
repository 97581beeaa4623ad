use Rattle.body_machine_kinds.proofs.laws.true_guards_say_true.Goals as goal
use Rattle.body_machine_kinds.proofs.TrueGuards.{true_guards}

pub returns : goal.returns
returns c = true_guards
