use Rattle.std.proofs.Common.{◌≡◌, ◌++◌, take}
use Rattle.body_program_numbers.specs.Places.{lists_from}
use Rattle.body_program_numbers.proofs.places.number_lists.Given as goal

abbrev pub invariant-loop-places : goal.invariant-loop-places
invariant-loop-places l = (l.list ≡ l.places-index) × (l.numbers ≡ lists_from 0 (take l.places-index l.lists))
