use Rattle.std.proofs.Common.{◌≡◌, ◌++◌, take}
use Rattle.std.specs.List.{flat_map}
use Rattle.module_table.specs.Known.{inter_declares}
use Rattle.module_table.proofs.declaring.declare_interactions.Given as goal

abbrev pub invariant-loop-inter : goal.invariant-loop-inter
invariant-loop-inter l = l.places ≡ l.initial.places ++ flat_map (inter_declares l.first l.second) (take l.inter-index l.inters)
