use Rattle.std.proofs.Common.{Option, sym, subst, ◌∙◌}
use Rattle.estelle_model.specs.declared.event.End.{End}
use Rattle.situation.specs.Steps.{IsCounted}
use Rattle.situation.proofs.Knowing.{of_run, may_choose, has_taken, taken_keeps, take_there}
use Rattle.situation.proofs.world.World.take_job.Goals as goal

pub invariant_of-self-2 : goal.invariant_of-self-2
invariant_of-self-2 g c =
    let execution = c.self.inside.execution in
    let ready = rw (← c.self.view_is) at c.requires in
    let next = may_choose c.self.inside.first execution c.self.inside.clock c.self.invariant.0 ready in
    let x = c.in_ok-at.field-0 in
    let taken = c.take.ensures x.job.trans (take_there g.H.Chooser.draw execution c.choose.new.self x c.in_ok-at.ensures.chosen) in
    let kept = taken_keeps g.H.Chooser.draw execution c.choose.new.self c.take.new.self x next.is_open next.unended ready.next.below c.in_ok-at.ensures.chosen taken in
    (kept.0, c.self.invariant.1 ∙ sym kept.1, subst (λ (e : Option End). IsCounted c.self.inside.first e (g.C.Clock.faults c.self.inside.clock)) (sym kept.2) c.self.invariant.2)

pub returns-clause-keeps : goal.returns-clause-keeps
returns-clause-keeps g c =
    let execution = c.self.inside.execution in
    let ready = rw (← c.self.view_is) at c.requires in
    let next = may_choose c.self.inside.first execution c.self.inside.clock c.self.invariant.0 ready in
    let x = c.in_ok-at.field-0 in
    let taken = c.take.ensures x.job.trans (take_there g.H.Chooser.draw execution c.choose.new.self x c.in_ok-at.ensures.chosen) in
    let kept = taken_keeps g.H.Chooser.draw execution c.choose.new.self c.take.new.self x next.is_open next.unended ready.next.below c.in_ok-at.ensures.chosen taken in
    of_run c.self.inside.first c.take.new.self c.self.inside.clock kept.0

pub returns-clause-taken : goal.returns-clause-taken
returns-clause-taken g c =
    let execution = c.self.inside.execution in
    let ready = rw (← c.self.view_is) at c.requires in
    let next = may_choose c.self.inside.first execution c.self.inside.clock c.self.invariant.0 ready in
    let x = c.in_ok-at.field-0 in
    let taken = c.take.ensures x.job.trans (take_there g.H.Chooser.draw execution c.choose.new.self x c.in_ok-at.ensures.chosen) in
    rw (← c.self.view_is) (has_taken c.self.inside.first g.H.Chooser.draw execution c.choose.new.self c.take.new.self c.self.inside.clock x next.is_open ready.next.below c.in_ok-at.ensures.chosen taken)
