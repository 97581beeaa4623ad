use Rattle.body_jobs.proofs.RootLemmas.{root_shown}
use Rattle.body_jobs.proofs.root.root_image.Goals as goal

pub returns : goal.returns
returns c = root_shown c.args.bodies.now c.in_ok-image.image c.in_ok-image.ensures
