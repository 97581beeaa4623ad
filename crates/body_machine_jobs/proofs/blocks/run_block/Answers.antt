use Rattle.std.proofs.Common.{ap}
use Rattle.body_state.specs.Progress.{running}
use Rattle.body_machine.specs.Seen.{seen}
use Rattle.body_machine_jobs.proofs.BlockRuns.{makes_ended, makes_stopped}
use Rattle.body_machine_jobs.proofs.blocks.run_block.Goals as goal

pub returns-in-Ok : goal.returns-in-Ok
returns-in-Ok c = makes_ended c.args.bodies.now c.args.numbers.now c.args.code.now c.args.body c.args.path.now c.args.values (running c.args.walk) c.args.to c.args.unit.now (seen c.in_ok-machine.machine) (seen c.run.new.machine) c.in_ok-machine.ensures
    c.into_left-walk.result.1 (ap running c.into_left-walk.ensures.walk) c.enter.result c.in-Ok.ensures c.enter.ensures

pub returns-in-Err : goal.returns-in-Err
returns-in-Err c = makes_stopped c.args.bodies.now c.args.numbers.now c.args.code.now c.args.body c.args.path.now c.args.values (running c.args.walk) c.args.to c.args.unit.now (seen c.in_ok-machine.machine) (seen c.run.new.machine) c.in_ok-machine.ensures
    c.into_left-walk-in-Err.result.1 (ap running c.into_left-walk-in-Err.ensures.walk) c.finish.result c.in-Err.stop c.in-Err.ensures c.finish.ensures
