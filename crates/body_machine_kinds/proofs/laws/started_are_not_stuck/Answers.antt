use Rattle.body_machine_kinds.proofs.laws.started_are_not_stuck.Goals as goal
use Rattle.body_machine_meaning.specs.Executed.{started}
use Rattle.body_machine_kinds.proofs.Runs.{comes_well}
use Rattle.body_machine_kinds.proofs.Starting.{started_typed}

pub returns : goal.returns
returns c = λ s n code claims kinded body e unit is types given values are path r begin x comes. comes_well s n code claims kinded begin.0 (claims body e).result (started body unit path values r) (started_typed s n code claims kinded body e unit is types given values are path r begin) x comes
