use Rattle.std.proofs.Common.{◌≡◌, take, map}
use Rattle.estelle_model.specs.Bodies.{bodies}
use Rattle.body_program_numbers.specs.Numbering.{numbers_over}
use Rattle.body_program_numbers.proofs.bodies.all_bodies.Given as goal

abbrev pub invariant-loop-standing : goal.invariant-loop-standing
invariant-loop-standing l = (l.number ≡ l.standing-index) × (l.all ≡ map (numbers_over l.program l.channels l.headers l.points) (take l.standing-index (bodies l.program.specification)))
