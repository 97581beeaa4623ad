use Rattle.std.proofs.Common.{◌≡◌, take}
use Rattle.std.specs.Option.{option_copied}
use Rattle.flat_transitions.specs.Chosen.{chosen_at}
use Rattle.flat_transitions.proofs.priority.chosen_at.Given as goal

abbrev pub invariant-loop-choice : goal.invariant-loop-choice
invariant-loop-choice l = option_copied l.found ≡ chosen_at (take l.choice-index l.chosen) l.at
