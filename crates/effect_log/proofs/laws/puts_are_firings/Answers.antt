use Rattle.effect_log.proofs.Answered.{puts-are-firings}
use Rattle.effect_log.proofs.laws.puts_are_firings.Goals as goal

pub returns : goal.returns
returns c = puts-are-firings
