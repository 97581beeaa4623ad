use Rattle.body_state.specs.Kept.{parts_kept}
use Rattle.body_state.proofs.StoreLemmas.{put_order, put_instances}
use Rattle.body_state.proofs.instances.InstanceMap.put.Goals as goal

pub invariant_of-self-2 : goal.invariant_of-self-2
invariant_of-self-2 c = put_order (parts_kept c.self.inside) _ c.args.self.now c.self.invariant c.in_ok-own_parts.ensures.ok c.self.view_is _ c.args.part c.insert_part.result c.insert_part.ensures.ok c.insert_part.ensures.err

pub returns : goal.returns
returns c = put_instances (parts_kept c.self.inside) _ c.args.self.now c.self.invariant c.in_ok-own_parts.ensures.ok c.self.view_is _ c.args.part c.insert_part.result c.insert_part.ensures.ok
