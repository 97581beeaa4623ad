use Rattle.std.proofs.Common.{◌≡◌, take}
use Rattle.run_history.specs.Histories.{project}
use Rattle.run_history.proofs.history.events_of.Given as goal

abbrev pub invariant-loop-entry : goal.invariant-loop-entry
invariant-loop-entry l = l.events ≡ project (take l.entry-index l.entries)
