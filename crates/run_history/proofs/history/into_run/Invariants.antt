use Rattle.std.proofs.Common.{◌≡◌}
use Rattle.run_history.specs.Histories.{project}
use Rattle.run_history.proofs.history.into_run.Given as goal

abbrev pub invariant-loop-entry : goal.invariant-loop-entry
invariant-loop-entry l = l.events ≡ project l.yielded
