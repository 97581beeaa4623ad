use Rattle.body_state.proofs.WalkLemmas.{store_fitting}
use Rattle.body_state.proofs.walk.Walk.store.Goals as goal

pub returns : goal.returns
returns c = store_fitting c.args.self.now c.args.denoter.now c.args.place.now c.args.value c.fits-fit.result c.put_fitting.result c.put_fitting.new.self c.fits-fit.ensures c.put_fitting.ensures
