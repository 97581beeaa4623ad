use Rattle.flat_transitions.proofs.Said.{said_with}
use Rattle.flat_transitions.proofs.in_force.ClausesInForce.with.Goals as goal

pub returns-clause-said : goal.returns-clause-said
returns-clause-said c =
    said_with c.args.naming.now c.table-table.result.now c.table-table.ensures c.args.self.now c.args.clause.now
    c.in_ok-from_with.ensures.from
    c.to_with.ensures
    c.when_with.ensures
    c.in_ok-received_with.ensures
    c.provided_with.ensures
    c.priority_with.ensures
    c.delay_with.ensures
    c.in_ok-choices_with.ensures
