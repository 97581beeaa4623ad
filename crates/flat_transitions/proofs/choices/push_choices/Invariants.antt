use Rattle.std.proofs.Common.{◌≡◌, ◌++◌, take}
use Rattle.flat_transitions.proofs.choices.push_choices.Given as goal

abbrev pub invariant-loop-choice : goal.invariant-loop-choice
invariant-loop-choice l = l.out ≡ l.initial.out ++ take l.choice-index l.chosen
