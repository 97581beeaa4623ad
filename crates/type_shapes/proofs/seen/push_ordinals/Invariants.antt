use Rattle.std.proofs.Common.{◌≡◌, ◌++◌, take, map}
use Rattle.meaning_table.specs.Known.{meanings_of}
use Rattle.type_shapes.specs.TypeNodes.{ordinal_node}
use Rattle.type_shapes.proofs.seen.push_ordinals.Given as goal

abbrev pub invariant-loop-ordinal : goal.invariant-loop-ordinal
invariant-loop-ordinal l = l.out ≡ l.initial.out ++ map (ordinal_node (meanings_of l.table)) (take l.ordinal-index l.ordinals)
