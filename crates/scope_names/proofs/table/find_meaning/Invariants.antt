use Rattle.std.proofs.Common.{◌≡◌, ◌≤◌, map, reverse, take, length, false}
use Rattle.scope_rules.specs.Visible as visible
use Rattle.scope_names.specs.Levels.{level_of}
use Rattle.scope_names.proofs.table.find_meaning.Given as goal

abbrev pub invariant-loop-i : goal.invariant-loop-i
invariant-loop-i l = record { within : l.i ≤ length l.levels; same : visible.meaning_of l.kept.entries l.word l.outside (reverse (map level_of (take l.i l.levels))) ≡ visible.meaning_of l.kept.entries l.word false (reverse (map level_of l.levels)) }

abbrev pub decreases-loop-i : goal.decreases-loop-i
decreases-loop-i l = l.i
