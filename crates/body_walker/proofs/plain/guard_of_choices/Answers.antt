use Rattle.body_walker.proofs.ChosenGuards.{chosen_guard}
use Rattle.body_walker.proofs.plain.guard_of_choices.Goals as goal

pub returns : goal.returns
returns c = chosen_guard c.args.program.now c.bodies.result.now c.table.result.now c.in_ok-table.table c.chosen.result.now c.args.path.now c.args.view.now c.args.timed c.args.budget c.args.transition.now c.args.values.now c.guard_on.result
    c.bodies.ensures c.table.ensures c.chosen.ensures c.in_ok-table.ensures c.guard_on.ensures
