use Rattle.std.proofs.Common.{◌≡◌, ◌++◌}
use Rattle.std.specs.BTreeMap as tree
use Rattle.delay_timers.specs.Renewal.{unwanted_of}
use Rattle.delay_timers.proofs.timers.Timers.missing.Given as goal

abbrev pub invariant-loop-trans : goal.invariant-loop-trans
invariant-loop-trans l = l.into.items ++ unwanted_of l.self l.path l.numbers ≡ l.initial.into.items ++ unwanted_of l.self l.path (tree.keys l.row)
