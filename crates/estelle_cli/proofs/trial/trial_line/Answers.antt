use Rattle.outside.specs.Choices.{any_drawn}
use Rattle.run_counts.proofs.Within.{scheduled_outputs}
use Rattle.estelle_cli.proofs.Ranges.{has_room_for_outputs}
use Rattle.estelle_cli.proofs.trial.trial_line.Goals as goal

pub counts_line-requires : goal.counts_line-requires
counts_line-requires c =
    let stopped = c.in_ok-run.ensures in
    has_room_for_outputs c.args.limits.budget c.args.limits.turns _ c.requires.range.0 c.requires.range.1
    (scheduled_outputs any_drawn _ c.args.limits.budget c.args.limits.turns _ _ c.in_ok-run.run'.events c.in_ok-run.end stopped.run stopped.scheduled)
