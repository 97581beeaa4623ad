use Rattle.body_machine_kinds.proofs.laws.kinded_codes_are_not_stuck.Goals as goal
use Rattle.body_machine_kinds.proofs.Runs.{comes_well}

pub returns : goal.returns
returns c = λ s n code claims kinded known last m t x comes. comes_well s n code claims kinded known last m t x comes
