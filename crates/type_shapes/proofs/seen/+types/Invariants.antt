use Rattle.std.proofs.Common.{◌≡◌, ◌++◌, take}
use Rattle.std.specs.List.{flat_map}
use Rattle.meaning_table.specs.Known.{meanings_of}
use Rattle.type_shapes.specs.TypeNodes.{nodes_behind}
use Rattle.type_shapes.proofs.seen.+types.Given as goal

abbrev pub invariant-push_sections-loop-section : goal.invariant-push_sections-loop-section
invariant-push_sections-loop-section l = l.out ≡ l.initial.out ++ flat_map (nodes_behind (meanings_of l.table)) (take l.section-index l.sections)
