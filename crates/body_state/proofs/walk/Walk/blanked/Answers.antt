use Rattle.body_state.proofs.WalkLemmas.{blanked_held, blanked_gone}
use Rattle.body_state.proofs.walk.Walk.blanked.Goals as goal

pub returns-in-Some : goal.returns-in-Some
returns-in-Some c = blanked_held c.args.self.now c.args.place.now _ c.blanked_in.result c.in-Some.ensures c.blanked_in.ensures

pub returns-in-None : goal.returns-in-None
returns-in-None c = blanked_gone c.args.self.now c.args.place.now c.in-None.ensures
