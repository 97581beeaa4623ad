use Rattle.body_walker.proofs.FiringLemmas.{fired, not_there, has_block}
use Rattle.body_walker.proofs.firing.fire.Goals as goal
use Rattle.estelle_model.specs.Subject.{transition}

pub returns-in-None : goal.returns-in-None
returns-in-None c = not_there c.args.program.now c.args.path.now c.args.trans c.args.image c.args.head c.args.budget (transition c.args.program.now c.args.body c.args.trans) c.nothing.result c.in-None.ensures

pub unreachable-requires : goal.unreachable-requires
unreachable-requires c = has_block c.args.program.now c.args.path.now c.args.trans c.args.image c.args.head c.args.budget (transition c.args.program.now c.args.body c.args.trans) c.in-Some.transition.now c.in-Some.ensures c.in-None-block.ensures

pub returns-in_ok-table-in-Some-block : goal.returns-in_ok-table-in-Some-block
returns-in_ok-table-in-Some-block c = fired c.args.program.now c.args.path.now c.args.trans c.args.image c.args.head c.args.budget (transition c.args.program.now c.args.body c.args.trans) c.in-Some.transition.now c.received.result.now c.in-Some-block.routine.now c.received_values.result c.to.result
    c.table.result.now c.in_ok-table-in-Some-block.table c.chosen.result.now c.bodies.result.now c.run_on.result c.in-Some.ensures c.received.ensures c.in-Some-block.ensures c.received_values.ensures c.to.ensures c.table.ensures c.chosen.ensures c.in_ok-table-in-Some-block.ensures c.bodies.ensures c.run_on.ensures
