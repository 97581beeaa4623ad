use Rattle.body_state.specs.Kept.{parts_kept}
use Rattle.body_state.proofs.StoreLemmas.{cut_order, cut_instances}
use Rattle.body_state.proofs.instances.InstanceMap.remove.Goals as goal

pub invariant_of-self-2 : goal.invariant_of-self-2
invariant_of-self-2 c = cut_order (parts_kept c.self.inside) _ c.args.self.now c.self.invariant c.in_ok-own_parts.ensures.ok c.self.view_is _ c.args.path.now c.keep_outside.ensures

pub returns : goal.returns
returns c = cut_instances (parts_kept c.self.inside) _ c.args.self.now c.self.invariant c.in_ok-own_parts.ensures.ok c.self.view_is _ c.args.path.now c.keep_outside.ensures
