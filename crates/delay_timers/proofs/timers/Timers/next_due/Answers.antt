use Rattle.std.proofs.Common.{sym, ap, ◌∙◌}
use Rattle.estelle_tree.specs.Timers.{next_due}
use Rattle.delay_timers.proofs.Least.{none_due, some_due, no_more}
use Rattle.delay_timers.proofs.timers.Timers.next_due.Goals as goal

pub returns-in-None : goal.returns-in-None
returns-in-None c = sym (none_due c.self.inside.rows c.self.inside.dues c.self.invariant (no_more _ c.in-None.ensures.variant.1)) ∙ ap next_due c.self.view_is

pub returns-in-Some : goal.returns-in-Some
returns-in-Some c =
    sym (some_due c.self.inside.rows c.self.inside.dues c.self.invariant c.in-Some.due.now c.in-Some.ensures.member c.in-Some.ensures.least) ∙ ap next_due c.self.view_is
