use Rattle.std.proofs.Common.{sym, ◌∙◌}
use Rattle.estelle_model.specs.Belonging.{are_values_of}
use Rattle.meaning_table.specs.Known.{meanings_of}
use Rattle.body_walker.proofs.FiringLemmas.{run_unfit, run_ok, run_err}
use Rattle.body_state.specs.Progress.{running}
use Rattle.body_walker.proofs.firing.run.Goals as goal

pub returns-then-not-are_values_of : goal.returns-then-not-are_values_of
returns-then-not-are_values_of c = run_unfit c.args.bodies.now (meanings_of c.args.table.now) c.args.path.now c.args.types.now c.args.routine.now c.args.values c.args.to (running c.args.walk.now) ((λ i. are_values_of c.args.types.now (sym c.items.ensures i)) ∙ sym c.are_values_of.ensures ∙ c.if-not-are_values_of.true)

pub returns-in-Ok : goal.returns-in-Ok
returns-in-Ok c = run_ok c.args.bodies.now (meanings_of c.args.table.now) c.args.path.now c.args.types.now c.args.routine.now c.args.values c.args.to (running c.args.walk.now) (running c.block.new.walk) (running c.enter_state.new.self) c.enter_state.result ((λ i. are_values_of c.args.types.now (sym c.items.ensures i)) ∙ sym c.are_values_of.ensures ∙ c.if-not-are_values_of.false) c.in-Ok.ensures (c.enter_state.ensures c.args.bodies.now)

pub returns-in-Err : goal.returns-in-Err
returns-in-Err c = run_err c.args.bodies.now (meanings_of c.args.table.now) c.args.path.now c.args.types.now c.args.routine.now c.args.values c.args.to (running c.args.walk.now) (running c.block.new.walk) c.in-Err.stop ((λ i. are_values_of c.args.types.now (sym c.items.ensures i)) ∙ sym c.are_values_of.ensures ∙ c.if-not-are_values_of.false) c.in-Err.ensures
