use Rattle.std.proofs.Common.{Ok, Err, sym, ◌∙◌}
use Rattle.body_code.specs.declared.unit.Entry.TheVariants as entry
use Rattle.body_code.specs.Units.{unit_of}
use Rattle.body_state.specs.Progress.{running}
use Rattle.body_machine_jobs.proofs.GuardParts.{on_copies, provided_unfit, provided_err, provided_ok, provided_stops}
use Rattle.body_machine_jobs.proofs.guards.provided.Goals as goal

pub returns-then-not-may_ask : goal.returns-then-not-may_ask
returns-then-not-may_ask c = provided_unfit c.args.bodies.now c.args.numbers.now c.args.code.now c.args.path.now c.args.values.now c.args.body c.args.trans c.args.transition.now (running c.args.walk) (sym c.may_ask.ensures ∙ c.if-not-may_ask.true)

pub returns-in-Ok-truth_left : goal.returns-in-Ok-truth_left
returns-in-Ok-truth_left c = provided_ok c.args.bodies.now c.args.numbers.now c.args.code.now c.args.path.now c.args.values.now c.args.body c.args.trans c.args.transition.now (running c.args.walk) (sym c.may_ask.ensures ∙ c.if-not-may_ask.false)
    c.in-Ok.ended.0 c.in-Ok.ended.1 (on_copies c.args.bodies.now c.args.numbers.now c.args.code.now c.args.path.now c.args.body (unit_of c.args.code.now c.args.body (entry.Guard c.args.trans)) (running c.args.walk) c.in_ok-values.values c.args.values.now (Ok c.in-Ok.ended) c.in_ok-values.ensures c.in-Ok.ensures)
    c.in-Ok-truth_left.holds (c.in-Ok-truth_left.ensures (running c.in-Ok.ended.1))

pub returns-in-Ok : goal.returns-in-Ok
returns-in-Ok c = provided_stops c.args.bodies.now c.args.numbers.now c.args.code.now c.args.path.now c.args.values.now c.args.body c.args.trans c.args.transition.now (running c.args.walk) (sym c.may_ask.ensures ∙ c.if-not-may_ask.false)
    c.in-Ok.ended.0 c.in-Ok.ended.1 (on_copies c.args.bodies.now c.args.numbers.now c.args.code.now c.args.path.now c.args.body (unit_of c.args.code.now c.args.body (entry.Guard c.args.trans)) (running c.args.walk) c.in_ok-values.values c.args.values.now (Ok c.in-Ok.ended) c.in_ok-values.ensures c.in-Ok.ensures)
    c.in-Err-truth_left.stop (c.in-Err-truth_left.ensures (running c.in-Ok.ended.1))

pub returns : goal.returns
returns c = provided_err c.args.bodies.now c.args.numbers.now c.args.code.now c.args.path.now c.args.values.now c.args.body c.args.trans c.args.transition.now (running c.args.walk) (sym c.may_ask.ensures ∙ c.if-not-may_ask.false) c.in-Err.stop
    (on_copies c.args.bodies.now c.args.numbers.now c.args.code.now c.args.path.now c.args.body (unit_of c.args.code.now c.args.body (entry.Guard c.args.trans)) (running c.args.walk) c.in_ok-values.values c.args.values.now (Err c.in-Err.stop) c.in_ok-values.ensures c.in-Err.ensures)
