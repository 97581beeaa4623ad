use Rattle.body_state.proofs.WalkLemmas.{blank_put, blank_stops}
use Rattle.body_state.proofs.walk.Walk.blank.Goals as goal

pub returns-in-Ok : goal.returns-in-Ok
returns-in-Ok c = blank_put c.args.self.now c.args.place.now c.in-Ok.value c.put.result c.put.new.self c.in-Ok.ensures c.put.ensures

pub returns-in-Err : goal.returns-in-Err
returns-in-Err c = blank_stops c.args.self.now c.args.place.now c.in-Err.stop c.in-Err.ensures
