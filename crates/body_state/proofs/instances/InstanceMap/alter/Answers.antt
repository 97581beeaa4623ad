use Rattle.std.proofs.Common.{refl}
use Rattle.body_state.specs.Alterations.{altered}
use Rattle.body_state.specs.Kept.{parts_kept}
use Rattle.body_state.proofs.StoreLemmas.{altered_order, altered_instances, unaltered}
use Rattle.body_state.proofs.instances.InstanceMap.alter.Goals as goal

pub invariant_of-self-in-Some : goal.invariant_of-self-in-Some
invariant_of-self-in-Some c = altered_order (parts_kept c.self.inside) _ c.args.self.now c.self.invariant c.in_ok-own_parts-in-Some.ensures.ok c.self.view_is _ c.args.path.now c.in-Some.place c.args.by c.in-Some.ensures c.alter_at.result c.alter_at.ensures.ok c.alter_at.ensures.err

pub returns-in_ok-own_parts-in-Some : goal.returns-in_ok-own_parts-in-Some
returns-in_ok-own_parts-in-Some c = altered_instances (parts_kept c.self.inside) _ c.args.self.now c.self.invariant c.in_ok-own_parts-in-Some.ensures.ok c.self.view_is _ c.args.path.now c.in-Some.place c.args.by c.in-Some.ensures c.alter_at.result c.alter_at.ensures.ok

pub returns-in-None : goal.returns-in-None
returns-in-None c = unaltered (parts_kept c.self.inside) (parts_kept c.self.inside) c.args.self.now c.self.invariant refl c.self.view_is c.args.path.now (altered c.args.by) c.in-None.ensures
