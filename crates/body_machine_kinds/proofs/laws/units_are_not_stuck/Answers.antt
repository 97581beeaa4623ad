use Rattle.body_machine_kinds.proofs.laws.units_are_not_stuck.Goals as goal
use Rattle.body_machine_kinds.proofs.Jobs.{blocks_run, guards_run, delays_run, initializations_run}

pub returns-clause-blocks : goal.returns-clause-blocks
returns-clause-blocks c = blocks_run

pub returns-clause-guards : goal.returns-clause-guards
returns-clause-guards c = guards_run

pub returns-clause-delays : goal.returns-clause-delays
returns-clause-delays c = delays_run

pub returns-clause-initializations : goal.returns-clause-initializations
returns-clause-initializations c = initializations_run
