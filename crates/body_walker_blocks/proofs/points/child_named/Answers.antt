use Rattle.std.proofs.Common.{◌∙◌, sym}
use Rattle.body_walker_blocks.proofs.PlanSteps.{child_follows}
use Rattle.body_walker_blocks.proofs.points.child_named.Goals as goal

pub returns-in-Module : goal.returns-in-Module
returns-in-Module c = child_follows c.args.scope.now.subject c.args.here.now.path _ c.in-Module.number c.args.walk.now c.child.result (sym c.meaning.ensures ∙ c.in-Module.is) c.child.ensures
