use Rattle.std.proofs.Common.{◌∙◌, sym, refl}
use Rattle.body_walker_blocks.proofs.Plans.{then, stops, last, broken, leaves, breaks, exits}
use Rattle.body_walker_blocks.proofs.ActionSteps.{release_walks, release_other}
use Rattle.body_walker_blocks.proofs.linking.release.Goals as goal

pub returns-in_err-child-in-Module : goal.returns-in_err-child-in-Module
returns-in_err-child-in-Module c = exits c.from_residual.result c.from_residual.ensures.1 (release_walks c.args.scope.now c.args.here.now c.args.modvar.now _ c.args.scope.now.subject (sym c.meaning.ensures ∙ c.in-Module.is) refl) (stops c.in_err-child-in-Module.ensures)

pub returns-in_ok-child-in-Module : goal.returns-in_ok-child-in-Module
returns-in_ok-child-in-Module c = leaves (release_walks c.args.scope.now c.args.here.now c.args.modvar.now _ c.bodies.result.now (sym c.meaning.ensures ∙ c.in-Module.is) c.bodies.ensures) (then c.in_ok-child-in-Module.ensures (last c.release_child.ensures))

pub returns-in_default : goal.returns-in_default
returns-in_default c = breaks (release_other c.args.scope.now c.args.here.now c.args.modvar.now _ (sym c.meaning.ensures) c.in_default.not-Module) broken
