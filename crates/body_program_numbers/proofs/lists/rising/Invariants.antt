use Rattle.std.proofs.Common.{◌≡◌, ◌+◌}
use Rattle.body_program_numbers.specs.Places.{rising}
use Rattle.body_program_numbers.proofs.lists.rising.Given as goal

abbrev pub invariant-loop : goal.invariant-loop
invariant-loop l = (l.number ≡ l.first + l.counter) × (l.numbers ≡ rising l.first l.counter)
