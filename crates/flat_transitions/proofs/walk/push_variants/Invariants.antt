use Rattle.std.proofs.Common.{◌≡◌, ◌++◌, take, map}
use Rattle.flat_transitions.specs.Flat.{with_chosen}
use Rattle.flat_transitions.specs.Walks.{variant}
use Rattle.flat_transitions.proofs.walk.push_variants.Given as goal

abbrev pub invariant-loop-chosen : goal.invariant-loop-chosen
invariant-loop-chosen l = l.out ≡ l.initial.out ++ map (variant (with_chosen l.table) l.said l.block) (take l.chosen-index l.said.choices)
