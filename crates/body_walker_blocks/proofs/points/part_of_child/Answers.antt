use Rattle.std.proofs.Common.{subst}
use Rattle.estelle_model.specs.declared.meaning.Meaning.{Meaning}
use Rattle.body_values.specs.Gives.{Gives}
use Rattle.body_walker_blocks.specs.Points.{ip_at}
use Rattle.body_walker_blocks.proofs.Plans.{then, gives, leaves}
use Rattle.body_walker_blocks.proofs.ActionSteps.{part_steps}
use Rattle.body_walker_blocks.proofs.points.part_of_child.Goals as goal

pub returns : goal.returns
returns c = leaves (part_steps c.args.scope.now c.args.here.now c.args.name.now c.args.part.now) (then c.in_ok-child.ensures (gives (subst (λ (m : Meaning). Gives (ip_at c.in_ok-child.child m) c.ip_of.result) c.meaning.ensures c.ip_of.ensures)))
