use Rattle.std.proofs.Common.{◌≡◌, ◌++◌, take}
use Rattle.body_program_numbers.specs.Places.{list_from}
use Rattle.body_program_numbers.proofs.places.push_list.Given as goal

abbrev pub invariant-loop-place : goal.invariant-loop-place
invariant-loop-place l = (l.number ≡ l.place-index) × (l.numbers ≡ l.initial.numbers ++ list_from l.list 0 (take l.place-index l.places))
