use Rattle.std.proofs.Common.{◌≡◌, take, map}
use Rattle.body_program_numbers.specs.Found.{routine_lists}
use Rattle.body_program_numbers.specs.Numbering.{place_of_routine}
use Rattle.body_program_numbers.proofs.lists.all_routine_places.Given as goal

abbrev pub invariant-loop-body : goal.invariant-loop-body
invariant-loop-body l = l.places ≡ map (map place_of_routine) (routine_lists (take l.body-index l.bodies))
