use Rattle.std.proofs.Common.{◌≡◌, subst}
use Rattle.std.specs.Prelude.{IfOk}
use Rattle.estelle_model.specs.States.{Logged, on_log}
use Rattle.estelle_model.specs.Clauses.{guard_step, answered}
use Rattle.body_walker.proofs.plain.guard_on.Goals as goal

pub returns : goal.returns
returns c = λ is.
    let step = guard_step Logged on_log c.args.bodies.now c.args.path.now c.args.transition.now c.args.values.now c.args.timed in
    subst (λ w. IfOk c.answered.result (λ answer. answer ≡ answered (step w))) c.new-walk.ensures (c.answered.ensures step c.new-walk.result c.guard.new.walk (c.guard.ensures is))
