use Rattle.body_state.specs.Progress.{running}
use Rattle.std.specs.Option.{option_copied}
use Rattle.estelle_model.specs.Computed.{values_of}
use Rattle.body_machine_jobs.specs.Answered.{Holds}
use Rattle.body_machine_jobs.proofs.GuardRuns.{told_is, guards_are}
use Rattle.body_machine_jobs.proofs.jobs.evaluated.Goals as goal

pub returns : goal.returns
returns c = guards_are c.args.program.now c.args.numbers.now c.args.code.now c.args.path.now c.args.view.now (values_of (option_copied c.args.head)) c.args.timed c.args.budget c.args.body c.args.trans c.args.transition.now
    c.bodies-bodies.result.now c.lent_values-values.result.now (running c.new-walk.result) c.answered.result c.bodies-bodies.ensures c.lent_values-values.ensures c.new-walk.ensures
    (told_is (Holds c.bodies-bodies.result.now c.args.numbers.now c.args.code.now c.args.path.now c.lent_values-values.result.now c.args.timed c.args.body c.args.trans c.args.transition.now (running c.new-walk.result)) c.guard.result c.answered.result c.new-walk.result c.answered.ensures c.guard.ensures)
