use Rattle.std.proofs.Common.{◌≡◌, take}
use Rattle.std.specs.List.{flat_map}
use Rattle.flat_transitions.specs.Flat.{with_chosen}
use Rattle.flat_transitions.specs.Walks.{unsaid, below}
use Rattle.flat_transitions.proofs.walk.transitions.Given as goal

abbrev pub invariant-loop-trans : goal.invariant-loop-trans
invariant-loop-trans l = record {
  stays : l.naming ≡ l.table;
  found : l.found ≡ flat_map (λ t. below (with_chosen l.table) unsaid t.body) (take l.trans-index l.transitions);
}
