use Rattle.body_machine.specs.Seen.{seen}
use Rattle.body_machine.proofs.Running.{reached_first, stepped, ended, stopped}
use Rattle.body_machine.proofs.runs.run.Goals as goal

pub loop-init : goal.loop-init
loop-init c = reached_first c.args.bodies.now c.args.numbers.now c.args.code.now (seen c.args.machine.now)

pub loop-preserved : goal.loop-preserved
loop-preserved c = (stepped c.args.bodies.now c.args.numbers.now c.args.code.now (seen c.args.machine.now) c.in_ok-steps.field-0 (seen c.loop.machine) (seen c.steps.new.machine) c.if-not-branch.false c.loop.invariant c.in_ok-steps.ensures).0

pub loop-smaller : goal.loop-smaller
loop-smaller c = (stepped c.args.bodies.now c.args.numbers.now c.args.code.now (seen c.args.machine.now) c.in_ok-steps.field-0 (seen c.loop.machine) (seen c.steps.new.machine) c.if-not-branch.false c.loop.invariant c.in_ok-steps.ensures).1

pub returns-then-not-branch : goal.returns-then-not-branch
returns-then-not-branch c = ended c.args.bodies.now c.args.numbers.now c.args.code.now (seen c.args.machine.now) c.in_ok-steps.field-0 (seen c.loop.machine) (seen c.steps.new.machine) c.if-not-branch.true c.loop.invariant c.in_ok-steps.ensures

pub returns-in_err-steps : goal.returns-in_err-steps
returns-in_err-steps c = stopped c.args.bodies.now c.args.numbers.now c.args.code.now (seen c.args.machine.now) c.from_residual.result c.in_err-steps.field-0.0 (seen c.loop.machine) (seen c.steps.new.machine) c.from_residual.ensures.1 c.loop.invariant c.in_err-steps.ensures
