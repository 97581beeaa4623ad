use Rattle.std.proofs.Common.{◌≡◌, take}
use Rattle.place_table.proofs.layers.Layers.over.Given as goal

abbrev pub invariant-loop-table : goal.invariant-loop-table
invariant-loop-table g l = l.below ≡ take l.table-index l.table-items
