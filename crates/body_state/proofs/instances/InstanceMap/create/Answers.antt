use Rattle.estelle_model.specs.Effects.{instances_after}
use Rattle.body_state.proofs.StoreLemmas.{created_instances}
use Rattle.body_state.proofs.instances.InstanceMap.create.Goals as goal

pub returns : goal.returns
unfolding instances_after
returns c = created_instances c.put.result c.args.self.now _ _ c.args.parent.now c.in_ok-path.path c.args.number c.args.part.now c.in_ok-child.child c.in_ok-alter.ensures c.in_ok-path.ensures c.in_ok-child.ensures c.put.ensures
