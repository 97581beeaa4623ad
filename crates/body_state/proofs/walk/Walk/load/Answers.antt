use Rattle.body_state.proofs.WalkLemmas.{load_held, load_gone}
use Rattle.body_state.proofs.walk.Walk.load.Goals as goal

pub returns-in-Some : goal.returns-in-Some
returns-in-Some c = load_held c.args.self.now c.args.place.now _ c.loaded.result c.in-Some.ensures c.loaded.ensures

pub returns-in-None : goal.returns-in-None
returns-in-None c = load_gone c.args.self.now c.args.place.now c.in-None.ensures
