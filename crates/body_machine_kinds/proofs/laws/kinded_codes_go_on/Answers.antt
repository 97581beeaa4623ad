use Rattle.body_machine_kinds.proofs.laws.kinded_codes_go_on.Goals as goal
use Rattle.body_machine_kinds.proofs.Going.{goes_on_well}

pub returns : goal.returns
returns c = λ s n code claims kinded known last m t. goes_on_well s n code claims kinded known last m t
