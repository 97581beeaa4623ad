use Rattle.std.proofs.Common.{rules}
use Rattle.body_state.proofs.StoreLemmas.{points_more}
use Rattle.body_state.proofs.log.points_of.Goals as goal

pub loop-number-preserved : goal.loop-number-preserved
loop-number-preserved c = points_more c.args.path.now c.in_ok-copy.field-0 c.loop-number.number c.in-Ok.ip c.loop-number.points c.push.new.self c.loop-number.invariant c.in_ok-copy.ensures (search rules) c.in_ok-push.ensures.ok
