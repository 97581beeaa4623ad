use Rattle.trace_text.proofs.StageLemmas.{last_is}
use Rattle.trace_text.proofs.stage.rise_to.Goals as goal

pub returns-in-len1-up : goal.returns-in-len1-up
returns-in-len1-up c = last_is c.args.drops.now c.args.number c.in-len1-up.len_at_least
