use Rattle.std.proofs.Common.{◌≡◌, ◌≤◌, length, take}
use Rattle.std.specs.List.{flat_map}
use Rattle.place_table.specs.Latest.{latest}
use Rattle.place_table.proofs.layers.find.Given as goal

abbrev pub invariant-loop-i : goal.invariant-loop-i
invariant-loop-i g l = (l.i ≤ length l.tables) × (latest l.at (flat_map (λ p. p.now) (take l.i l.tables)) ≡ latest l.at (flat_map (λ p. p.now) l.tables))

abbrev pub decreases-loop-i : goal.decreases-loop-i
decreases-loop-i g l = l.i
