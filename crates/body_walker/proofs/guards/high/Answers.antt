use Rattle.body_walker.proofs.GuardLemmas.{high_none, high_some}
use Rattle.body_state.specs.Progress.{running}
use Rattle.body_walker.proofs.guards.high.Goals as goal

pub returns-in-None : goal.returns-in-None
returns-in-None c = λ t is. high_none c.args.bodies.now t c.args.path.now c.args.low.now c.args.high.now c.from_both.result (running c.args.walk.now) c.in-None.is (c.from_both.ensures c.args.bodies.now)

pub returns-in-Some : goal.returns-in-Some
returns-in-Some c = λ t is. high_some c.args.bodies.now t c.args.path.now c.args.low.now c.args.high.now _ c.written.result (running c.args.walk.now) (running c.written.new.walk) c.in-Some.is (c.written.ensures t is)
