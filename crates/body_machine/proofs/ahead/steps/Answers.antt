use Rattle.body_machine.specs.Steps.{next, run}
use Rattle.body_machine.specs.Seen.{seen}
use Rattle.body_machine.proofs.ahead.steps.Goals as goal

pub returns-in-Some : goal.returns-in-Some
returns-in-Some c =
    let h = c.use_variable.ensures c.args.bodies.now c.args.code.now c.in-Some.ensures in
    (h.0, c.going_on.ensures (run c.args.bodies.now c.args.numbers.now c.args.code.now h.0 (next c.args.bodies.now c.args.numbers.now c.args.code.now (seen c.args.machine.now))) (seen c.use_variable.new.machine) h.1)

pub returns-in-None : goal.returns-in-None
returns-in-None c = (0, c.step.ensures)
