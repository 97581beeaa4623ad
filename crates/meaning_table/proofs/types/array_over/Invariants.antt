use Rattle.std.proofs.Common.{◌≡◌, ◌≤◌, drop, length, map}
use Rattle.estelle_model.specs.Denoted.{array_over, ordinal_type}
use Rattle.meaning_table.specs.Known.{meanings_of}
use Rattle.meaning_table.proofs.types.array_over.Given as goal

abbrev pub invariant-loop-i : goal.invariant-loop-i
invariant-loop-i l = (l.i ≤ length l.indices) × (l.array ≡ array_over (map (ordinal_type (meanings_of l.table)) (drop l.i l.indices)) l.initial.array)

abbrev pub decreases-loop-i : goal.decreases-loop-i
decreases-loop-i l = l.i
