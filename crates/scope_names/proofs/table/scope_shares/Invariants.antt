use Rattle.std.proofs.Common.{◌≡◌, ◌≤◌, map, reverse, take, length}
use Rattle.scope_names.specs.Common as common
use Rattle.scope_names.specs.Levels.{level_of}
use Rattle.scope_names.proofs.table.scope_shares.Given as goal

abbrev pub invariant-loop-i : goal.invariant-loop-i
invariant-loop-i l = record { within : l.i ≤ length l.levels; same : common.shares_scope l.kept.entries l.others l.without (reverse (map level_of (take l.i l.levels))) ≡ common.shares_scope l.kept.entries l.others l.without (reverse (map level_of l.levels)) }

abbrev pub decreases-loop-i : goal.decreases-loop-i
decreases-loop-i l = l.i
