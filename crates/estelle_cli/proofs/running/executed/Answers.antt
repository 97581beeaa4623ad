use Rattle.estelle_cli.proofs.Ranges.{has_room}
use Rattle.estelle_cli.proofs.running.executed.Goals as goal

pub execute-requires : goal.execute-requires
execute-requires g c = record { room = has_room c.args.limits.budget c.args.limits.turns c.requires.range.0 c.requires.range.1 }
