use Rattle.body_state.proofs.WalkLemmas.{enter_after}
use Rattle.body_state.proofs.walk.Walk.enter.Goals as goal

pub returns : goal.returns
returns c = enter_after c.self.inside c.args.self.now c.self.view_is _ c.args.routine.now c.args.values c.in_ok-values.values c.in_ok-values.ensures c.in_ok-push_frame.ensures.ok
