use Rattle.std.proofs.Common.{◌≡◌, ◌+◌, ◌≤◌, drop}
use Rattle.estelle_model.specs.Ends.{fires}
use Rattle.run_counts.proofs.counts.fires.Given as goal

-- with those of the rest these are all, and there are no more than events
abbrev pub invariant-loop-event : goal.invariant-loop-event
invariant-loop-event l = (l.count + fires (drop l.event-index l.events) ≡ fires l.events) × (l.count ≤ l.event-index)
