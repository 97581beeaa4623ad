use Rattle.run_history.proofs.Settled.{open_apart, settling_follows, settling_takes_out, others_take_none_out}
use Rattle.run_history.proofs.laws.tickets_are_settled.Goals as goal

pub returns-clause-apart : goal.returns-clause-apart
returns-clause-apart c = open_apart

pub returns-clause-follow : goal.returns-clause-follow
returns-clause-follow c = settling_follows

pub returns-clause-out : goal.returns-clause-out
returns-clause-out c = settling_takes_out

pub returns-clause-others : goal.returns-clause-others
returns-clause-others c = others_take_none_out
