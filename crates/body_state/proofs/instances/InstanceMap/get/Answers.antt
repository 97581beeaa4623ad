use Rattle.std.proofs.Common.{refl}
use Rattle.body_state.specs.Kept.{parts_kept}
use Rattle.body_state.proofs.StoreLemmas.{looked_up}
use Rattle.body_state.proofs.instances.InstanceMap.get.Goals as goal

pub returns : goal.returns
returns c = looked_up (parts_kept c.self.inside) (parts_kept c.self.inside) c.args.self.now c.self.invariant refl c.self.view_is c.args.path.now _ c.shown_at.ensures
