use Rattle.effect_log.proofs.After.{queues-held}
use Rattle.effect_log.proofs.laws.queues_are_held.Goals as goal

pub returns : goal.returns
returns c = queues-held
