use Rattle.std.proofs.Common.{◌≡◌, ◌++◌, take}
use Rattle.std.specs.List.{flat_map}
use Rattle.meaning_table.specs.Known.{meanings_of}
use Rattle.type_shapes.specs.TypeNodes.{nodes_defined}
use Rattle.type_shapes.proofs.seen.push_definitions.Given as goal

abbrev pub invariant-loop-def : goal.invariant-loop-def
invariant-loop-def l = l.out ≡ l.initial.out ++ flat_map (nodes_defined (meanings_of l.table)) (take l.def-index l.defs)
