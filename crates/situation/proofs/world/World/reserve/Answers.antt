use Rattle.std.proofs.Common.{Option, sym, subst, ◌∙◌}
use Rattle.estelle_model.specs.declared.event.End.{End}
use Rattle.situation.specs.Steps.{IsCounted}
use Rattle.situation.proofs.Kept.{reserved_kept, reserved_same}
use Rattle.situation.proofs.world.World.reserve.Goals as goal

pub invariant_of-self : goal.invariant_of-self
invariant_of-self g c =
    let old = c.self.inside.execution in
    let n = c.reserve.new.self in
    let same = reserved_same old n c.reserve.ensures.same in (
      reserved_kept old n c.self.invariant.0 c.reserve.ensures.same,
      c.self.invariant.1 ∙ sym same.0,
      subst (λ (e : Option End). IsCounted c.self.inside.first e (g.C.Clock.faults c.self.inside.clock)) (sym same.1) c.self.invariant.2,
    )
