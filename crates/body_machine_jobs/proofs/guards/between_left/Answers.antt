use Rattle.std.proofs.Common.{◌∷◌, ◌∙◌, ap}
use Rattle.body_machine_jobs.proofs.LeftValues.{between_ok, between_err}
use Rattle.body_machine_jobs.proofs.guards.between_left.Goals as goal

pub returns-in-Ok : goal.returns-in-Ok
returns-in-Ok c = λ s e u. between_ok s e c.pop.new.self c.in-Some-Datum.high u c.args.stack c.in-Ok.low c.from_both.result
    (c.in-Some-Datum.ensures ∙ ap (λ i. i ∷ c.pop.new.self) c.in-Some-Datum.field-0-is) (c.in-Ok.ensures u) (c.from_both.ensures s)

pub returns-in-Some-Datum : goal.returns-in-Some-Datum
returns-in-Some-Datum c = λ s e u. between_err s e c.pop.new.self c.in-Some-Datum.high u c.args.stack c.in-Err.stop
    (c.in-Some-Datum.ensures ∙ ap (λ i. i ∷ c.pop.new.self) c.in-Some-Datum.field-0-is) (c.in-Err.ensures u)
