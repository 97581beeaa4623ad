use Rattle.std.proofs.Common.{◌≡◌, take, map}
use Rattle.body_program_numbers.specs.Found.{routines}
use Rattle.body_program_numbers.specs.Numbering.{place_of_routine}
use Rattle.body_program_numbers.proofs.lists.routine_places.Given as goal

abbrev pub invariant-loop-routine : goal.invariant-loop-routine
invariant-loop-routine l = l.places ≡ map place_of_routine (routines (take l.routine-index l.routines))
