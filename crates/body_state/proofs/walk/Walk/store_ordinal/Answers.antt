use Rattle.std.proofs.Common.{rules}
use Rattle.std.proofs.lemmas.Int.{to_z-of_z}
use Rattle.body_state.proofs.WalkLemmas.{store_value, store_no_value}
use Rattle.body_state.proofs.walk.Walk.store_ordinal.Goals as goal

pub returns-in-Ok : goal.returns-in-Ok
returns-in-Ok c = store_value c.args.self.now c.args.denoter.now c.args.place.now c.host_of.result c.args.n _ c.in-Ok.value c.store.result c.store.new.self c.host_of.ensures (search (rules, to_z-of_z)) c.in-Ok.ensures c.store.ensures

pub returns-in-Err : goal.returns-in-Err
returns-in-Err c = store_no_value c.args.self.now c.args.denoter.now c.args.place.now c.host_of.result c.args.n _ c.in-Err.stop c.host_of.ensures (search (rules, to_z-of_z)) c.in-Err.ensures
