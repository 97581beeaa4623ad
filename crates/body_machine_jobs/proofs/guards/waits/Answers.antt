use Rattle.std.proofs.Common.{Ok, Err, sym, ◌∙◌}
use Rattle.body_code.specs.declared.unit.Entry.TheVariants as entry
use Rattle.body_code.specs.Units.{unit_of}
use Rattle.estelle_model.specs.Belonging.{are_values_of}
use Rattle.body_state.specs.Progress.{running}
use Rattle.body_machine_jobs.proofs.GuardParts.{on_copies, waits_unfit, waits_err, waits_left}
use Rattle.body_machine_jobs.proofs.guards.waits.Goals as goal

pub returns-then-not-are_values_of : goal.returns-then-not-are_values_of
returns-then-not-are_values_of c = waits_unfit c.args.bodies.now c.args.numbers.now c.args.code.now c.args.path.now c.args.values.now c.args.body c.args.trans c.args.transition.now (running c.args.walk) c.args.high.now
    ((λ i. are_values_of (sym c.received.ensures i) (sym c.items.ensures i)) ∙ sym c.are_values_of.ensures ∙ c.if-not-are_values_of.true)

pub returns-in-Ok : goal.returns-in-Ok
returns-in-Ok c = waits_left c.args.bodies.now c.args.numbers.now c.args.code.now c.args.path.now c.args.values.now c.args.body c.args.trans c.args.transition.now (running c.args.walk) c.args.high.now
    ((λ i. are_values_of (sym c.received.ensures i) (sym c.items.ensures i)) ∙ sym c.are_values_of.ensures ∙ c.if-not-are_values_of.false) c.in-Ok.ended.0 (running c.in-Ok.ended.1)
    (on_copies c.args.bodies.now c.args.numbers.now c.args.code.now c.args.path.now c.args.body (unit_of c.args.code.now c.args.body (entry.Delay c.args.trans)) (running c.args.walk) c.in_ok-values.values c.args.values.now (Ok c.in-Ok.ended) c.in_ok-values.ensures c.in-Ok.ensures)
    c.delay_left.result (c.delay_left.ensures c.args.bodies.now (running c.in-Ok.ended.1))

pub returns-in-Err : goal.returns-in-Err
returns-in-Err c = waits_err c.args.bodies.now c.args.numbers.now c.args.code.now c.args.path.now c.args.values.now c.args.body c.args.trans c.args.transition.now (running c.args.walk) c.args.high.now
    ((λ i. are_values_of (sym c.received.ensures i) (sym c.items.ensures i)) ∙ sym c.are_values_of.ensures ∙ c.if-not-are_values_of.false) c.in-Err.stop
    (on_copies c.args.bodies.now c.args.numbers.now c.args.code.now c.args.path.now c.args.body (unit_of c.args.code.now c.args.body (entry.Delay c.args.trans)) (running c.args.walk) c.in_ok-values.values c.args.values.now (Err c.in-Err.stop) c.in_ok-values.ensures c.in-Err.ensures)
