use Rattle.std.proofs.Common.{◌≡◌, ◌++◌, map}
use Rattle.flat_transitions.specs.Choices.{choices_from}
use Rattle.flat_transitions.proofs.choices.push_all.Given as goal

abbrev pub invariant-loop-number : goal.invariant-loop-number
invariant-loop-number l = l.out ≡ l.initial.out ++ map (λ c. l.before ++ c) (choices_from l.names 0 l.number)
