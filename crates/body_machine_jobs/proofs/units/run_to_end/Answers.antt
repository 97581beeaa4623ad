use Rattle.std.proofs.Common.{sym, subst}
use Rattle.body_code.specs.Units.{unit_of}
use Rattle.body_state.specs.Progress.{running}
use Rattle.body_machine_meaning.specs.Executed.{RunsTo}
use Rattle.body_machine_jobs.specs.Stands.{Stands, walked}
use Rattle.body_machine_jobs.proofs.UnitRuns.{none_stops}
use Rattle.body_machine_jobs.proofs.units.run_to_end.Goals as goal

pub returns-in-None : goal.returns-in-None
returns-in-None c = none_stops c.args.bodies.now c.args.numbers.now c.args.code.now c.args.body (unit_of c.args.code.now c.args.body c.args.entry) c.args.path.now c.args.values (running c.args.walk) (sym c.in-None.ensures)

pub returns : goal.returns
returns c = subst (λ u. Stands walked (RunsTo c.args.bodies.now c.args.numbers.now c.args.code.now c.args.body u c.args.path.now c.args.values (running c.args.walk)) c.run_unit.result) c.in-Some.ensures c.run_unit.ensures
