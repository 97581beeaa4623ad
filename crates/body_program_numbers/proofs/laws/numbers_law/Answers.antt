use Rattle.body_program_numbers.proofs.StandingFor.{shapes_stand, exports_stand, interactions_stand, parameters_are, routines_stand}
use Rattle.body_program_numbers.proofs.laws.numbers_law.Goals as goal

pub returns-clause-shapes : goal.returns-clause-shapes
returns-clause-shapes c = shapes_stand

pub returns-clause-exports : goal.returns-clause-exports
returns-clause-exports c = exports_stand

pub returns-clause-interactions : goal.returns-clause-interactions
returns-clause-interactions c = interactions_stand

pub returns-clause-parameters : goal.returns-clause-parameters
returns-clause-parameters c = parameters_are

pub returns-clause-routines : goal.returns-clause-routines
returns-clause-routines c = routines_stand
