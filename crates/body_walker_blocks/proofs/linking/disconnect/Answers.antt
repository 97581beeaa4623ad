use Rattle.std.proofs.Common.{◌∙◌, sym}
use Rattle.body_walker_blocks.proofs.Plans.{last, leaves}
use Rattle.body_walker_blocks.proofs.ActionSteps.{disconnect_part, disconnect_steps, disconnect_other}
use Rattle.body_walker_blocks.proofs.linking.disconnect.Goals as goal

pub returns-in-Some : goal.returns-in-Some
returns-in-Some c = leaves (disconnect_part c.args.scope.now c.args.here.now c.args.node.now _ c.in-Some.is) (last c.disconnect_ip.ensures)

pub returns-in-Module : goal.returns-in-Module
returns-in-Module c = leaves (disconnect_steps c.args.scope.now c.args.here.now c.args.node.now _ _ c.in-None.is (sym c.meaning.ensures ∙ c.in-Module.is)) (last c.disconnect_module.ensures)

pub returns-in_default : goal.returns-in_default
returns-in_default c = leaves (disconnect_other c.args.scope.now c.args.here.now c.args.node.now _ c.in-None.is (sym c.meaning.ensures) c.in_default.not-Module) (last c.disconnect_ip-in_default.ensures)
