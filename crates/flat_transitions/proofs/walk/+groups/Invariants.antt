use Rattle.std.proofs.Common.{◌≡◌, ◌++◌, take}
use Rattle.std.specs.List.{flat_map}
use Rattle.flat_transitions.specs.Flat.{with_chosen}
use Rattle.flat_transitions.specs.Walks.{below_group}
use Rattle.flat_transitions.proofs.walk.+groups.Given as goal

abbrev pub invariant-groups-loop-inner : goal.invariant-groups-loop-inner
invariant-groups-loop-inner l = record {
  stays : l.naming ≡ l.initial.naming;
  found : l.out ≡ l.initial.out ++ flat_map (below_group (with_chosen l.initial.naming) l.said) (take l.inner-index l.groups);
}
