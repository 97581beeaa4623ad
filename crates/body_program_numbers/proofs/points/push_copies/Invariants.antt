use Rattle.std.proofs.Common.{◌≡◌, ◌++◌, take}
use Rattle.body_program_numbers.proofs.points.push_copies.Given as goal

abbrev pub invariant-loop-point : goal.invariant-loop-point
invariant-loop-point l = l.out ≡ l.initial.out ++ take l.point-index l.points
