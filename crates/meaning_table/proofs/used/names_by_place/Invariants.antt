use Rattle.std.proofs.Common.{◌≡◌, ◌≤◌, drop, length, reverse}
use Rattle.meaning_table.specs.Known.{by_place}
use Rattle.meaning_table.proofs.used.names_by_place.Given as goal

abbrev pub invariant-loop-i : goal.invariant-loop-i
invariant-loop-i l = (l.i ≤ length l.names) × (reverse l.places ≡ by_place (drop l.i l.names))

abbrev pub decreases-loop-i : goal.decreases-loop-i
decreases-loop-i l = l.i
