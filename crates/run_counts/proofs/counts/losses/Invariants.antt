use Rattle.std.proofs.Common.{◌≡◌, ◌+◌, drop}
use Rattle.run_counts.specs.Counts.{losses}
use Rattle.run_counts.proofs.counts.losses.Given as goal

-- with those of the rest these are all
abbrev pub invariant-loop-event : goal.invariant-loop-event
invariant-loop-event l = l.count + losses (drop l.event-index l.events) ≡ losses l.events
