use Rattle.std.proofs.Common.{sym, ◌∙◌}
use Rattle.situation.proofs.Refused.{as_before}
use Rattle.situation.proofs.Knowing.{of_run, advanced_if, advance_keeps}
use Rattle.situation.proofs.world.World.advance.Goals as goal

pub returns-clause-refused : goal.returns-clause-refused
returns-clause-refused g c =
    rw (← c.self.view_is) (as_before c.self.inside.first c.advance.result c.self.inside.execution c.advance.new.self c.self.inside.clock c.advance.new.clock c.self.invariant.0 c.advance.ensures.refused)

pub returns-clause-advanced : goal.returns-clause-advanced
returns-clause-advanced g c =
    rw (← c.self.view_is) (advanced_if c.self.inside.first g.H.Chooser.draw g.C.Clock.moment c.advance.result c.self.inside.execution c.advance.new.self c.self.inside.clock c.advance.new.clock c.self.invariant.0 c.advance.ensures.advanced c.advance.ensures.left)

pub invariant_of-self : goal.invariant_of-self
invariant_of-self g c =
    let old = c.self.inside.execution in
    let n = c.advance.new.self in
    let kept = advance_keeps g.H.Chooser.draw (g.C.Clock.moment c.self.inside.clock) (g.C.Clock.moment c.advance.new.clock) old n c.self.inside.first (g.C.Clock.faults c.self.inside.clock) (g.C.Clock.faults c.advance.new.clock)
    c.self.invariant.0 c.advance.ensures.later c.self.invariant.2 c.advance.result c.advance.ensures.advanced c.advance.ensures.refused c.advance.ensures.cause in
    (kept.0, c.self.invariant.1 ∙ sym kept.1, kept.2)

pub returns-clause-keeps : goal.returns-clause-keeps
returns-clause-keeps g c =
    let old = c.self.inside.execution in
    let n = c.advance.new.self in
    let kept = advance_keeps g.H.Chooser.draw (g.C.Clock.moment c.self.inside.clock) (g.C.Clock.moment c.advance.new.clock) old n c.self.inside.first (g.C.Clock.faults c.self.inside.clock) (g.C.Clock.faults c.advance.new.clock)
    c.self.invariant.0 c.advance.ensures.later c.self.invariant.2 c.advance.result c.advance.ensures.advanced c.advance.ensures.refused c.advance.ensures.cause in
    of_run c.self.inside.first n c.advance.new.clock kept.0
