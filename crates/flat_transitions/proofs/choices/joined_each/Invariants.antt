use Rattle.std.proofs.Common.{◌≡◌, take}
use Rattle.flat_transitions.specs.Choices.{choices_from, joined}
use Rattle.flat_transitions.proofs.choices.joined_each.Given as goal

abbrev pub invariant-loop-chosen : goal.invariant-loop-chosen
invariant-loop-chosen l = l.choices ≡ joined (take l.chosen-index l.before) (choices_from l.names 0 l.count)
