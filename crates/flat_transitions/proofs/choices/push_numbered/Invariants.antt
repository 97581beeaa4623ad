use Rattle.std.proofs.Common.{◌≡◌, ◌<◌, ◌++◌, drop}
use Rattle.flat_transitions.specs.Choices.{choice_count, numbered_choice}
use Rattle.flat_transitions.proofs.choices.push_numbered.Given as goal

abbrev pub invariant-loop-name : goal.invariant-loop-name
invariant-loop-name l = record {
  counts : l.below ≡ choice_count (drop l.name-index l.names);
  within : l.rest < l.below;
  made : l.out ++ numbered_choice (drop l.name-index l.names) l.rest ≡ l.initial.out ++ numbered_choice l.names l.number;
}
