use Rattle.std.proofs.Common.{◌∙◌}
use Rattle.body_state.specs.Kept.{parts_kept}
use Rattle.body_state.proofs.StoreLemmas.{all_parts}
use Rattle.body_state.proofs.instances.InstanceMap.into_parts.Goals as goal

pub returns : goal.returns
returns c = all_parts (parts_kept c.self.inside) _ c.args.self c.self.invariant (c.from_vec.ensures ∙ c.in_ok-kept_parts.ensures) c.self.view_is
