use Rattle.std.proofs.Common.{◌≡◌, ◌+◌, ◌≤◌, drop}
use Rattle.run_counts.specs.Counts.{selections}
use Rattle.run_counts.proofs.counts.selections.Given as goal

-- with those of the rest these are all, and there are no more than events
abbrev pub invariant-loop-event : goal.invariant-loop-event
invariant-loop-event l = (l.count + selections (drop l.event-index l.events) ≡ selections l.events) × (l.count ≤ l.event-index)
