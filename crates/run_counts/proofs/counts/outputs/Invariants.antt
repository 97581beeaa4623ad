use Rattle.std.proofs.Common.{◌≡◌, ◌+◌, length, drop}
use Rattle.estelle_model_fates.specs.Fates.{outputs}
use Rattle.run_counts.proofs.counts.outputs.Given as goal

-- with those of the rest these are all
abbrev pub invariant-loop-event : goal.invariant-loop-event
invariant-loop-event l = l.count + length (outputs (drop l.event-index l.events)) ≡ length (outputs l.events)
