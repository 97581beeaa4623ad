use Rattle.std.proofs.Common.{◌≡◌, take, map}
use Rattle.body_program_numbers.specs.Places.{number_in}
use Rattle.body_program_numbers.proofs.bodies.numbers_at.Given as goal

abbrev pub invariant-loop-place : goal.invariant-loop-place
invariant-loop-place l = l.numbers ≡ map (number_in l.headers) (take l.place-index l.places)
