use Rattle.body_state.proofs.WalkLemmas.{child_some, child_none}
use Rattle.body_state.proofs.walk.Walk.child.Goals as goal

pub returns-in-Some : goal.returns-in-Some
returns-in-Some c = child_some c.self.inside c.args.self.now c.self.view_is c.args.path.now c.args.number _ c.child_of.result c.in-Some.ensures c.child_of.ensures

pub returns-in-None : goal.returns-in-None
returns-in-None c = child_none c.self.inside c.args.self.now c.self.view_is c.args.path.now c.args.number c.in-None.ensures
