use Rattle.std.proofs.Common.{ap}
use Rattle.body_state.specs.Progress.{running}
use Rattle.body_machine.specs.Seen.{seen}
use Rattle.body_machine_jobs.proofs.UnitRuns.{ends_as, stops_as}
use Rattle.body_machine_jobs.proofs.units.run_unit.Goals as goal

pub returns-in-Ok : goal.returns-in-Ok
returns-in-Ok c = ends_as c.args.bodies.now c.args.numbers.now c.args.code.now c.args.body c.args.unit.now c.args.path.now c.args.values (running c.args.walk) (seen c.in_ok-machine.machine) (seen c.run.new.machine) c.in_ok-machine.ensures
    c.into_left.result.0 c.into_left.result.1 c.into_left.ensures.stack (ap running c.into_left.ensures.walk) c.in-Ok.ensures

pub returns : goal.returns
returns c = stops_as c.args.bodies.now c.args.numbers.now c.args.code.now c.args.body c.args.unit.now c.args.path.now c.args.values (running c.args.walk) (seen c.in_ok-machine.machine) (seen c.run.new.machine) c.in_ok-machine.ensures c.in-Err.stop c.in-Err.ensures
