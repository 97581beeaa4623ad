use Rattle.std.proofs.Common.{sym, ◌∙◌}
use Rattle.situation.proofs.Refused.{as_before, still_kept, still_counted, planned}
use Rattle.situation.proofs.world.World.step.Goals as goal

pub returns-clause-refused : goal.returns-clause-refused
returns-clause-refused g c =
    rw (← c.self.view_is) (as_before c.self.inside.first c.step.result c.self.inside.execution c.step.new.self c.self.inside.clock c.step.new.clock c.self.invariant.0 c.step.ensures.refused)

pub returns-clause-stepped : goal.returns-clause-stepped
returns-clause-stepped g c =
    rw (← c.self.view_is) (planned g.H.Chooser.draw g.C.Clock.moment c.self.inside.first c.step.result c.self.inside.execution c.step.new.self c.self.inside.clock c.step.new.clock c.step.ensures.stepped)

pub invariant_of-self : goal.invariant_of-self
invariant_of-self g c =
    let draw = g.H.Chooser.draw in
    let old = c.self.inside.execution in
    let n = c.step.new.self in
    let told = g.C.Clock.moment c.self.inside.clock in
    let after = g.C.Clock.moment c.step.new.clock in
    let kept = still_kept draw told after c.step.result old n c.step.ensures.stepped c.step.ensures.refused in (
      kept.0,
      c.self.invariant.1 ∙ sym kept.1,
      still_counted draw told after c.step.result old n c.self.inside.first (g.C.Clock.faults c.self.inside.clock) (g.C.Clock.faults c.step.new.clock) c.self.invariant.0 c.step.ensures.later c.self.invariant.2 c.step.ensures.stepped c.step.ensures.refused c.step.ensures.cause,
    )
