use Rattle.std.proofs.Common.{◌≡◌, take}
use Rattle.flat_transitions.specs.FlatList.{ordinals_of}
use Rattle.flat_transitions.proofs.entries.ordinals.Given as goal

abbrev pub invariant-loop-choice : goal.invariant-loop-choice
invariant-loop-choice l = l.ordinals ≡ ordinals_of (take l.choice-index l.chosen)
