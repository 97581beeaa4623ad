use Rattle.body_walker.proofs.GuardLemmas.{provided_some, provided_none}
use Rattle.body_state.specs.Progress.{running}
use Rattle.body_walker.proofs.guards.provided.Goals as goal

pub returns-in-Some : goal.returns-in-Some
returns-in-Some c = λ is. provided_some c.args.bodies.now c.args.transition.now c.args.path.now c.args.values.now c.args.transition.now.provided c.in-Some.node.now c.holds.result (running c.args.walk.now) (running c.holds.new.walk) c.in-Some.ensures (c.holds.ensures is)

pub returns-in-None : goal.returns-in-None
returns-in-None c = λ is. provided_none c.args.bodies.now c.args.transition.now c.args.path.now c.args.values.now c.args.transition.now.provided (running c.args.walk.now) c.in-None.ensures
