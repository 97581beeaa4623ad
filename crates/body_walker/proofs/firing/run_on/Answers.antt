use Rattle.std.proofs.Common.{subst}
use Rattle.std.specs.Prelude.{IfOk}
use Rattle.estelle_model.specs.Computed.{IsMadeBy}
use Rattle.meaning_table.specs.Known.{meanings_of}
use Rattle.body_walker.specs.Runs.{block_and_state}
use Rattle.body_walker.proofs.firing.run_on.Goals as goal

pub returns : goal.returns
returns c =
    let step = block_and_state c.args.bodies.now (meanings_of c.args.table.now) c.args.path.now c.args.types.now c.args.routine.now c.args.values c.args.to in
    subst (λ o. IfOk c.finish.result (λ made. IsMadeBy c.args.bodies.now (step o) made.0 made.1)) c.in_ok-walk.ensures (c.finish.ensures step c.in_ok-walk.walk c.run-ran.ensures)
