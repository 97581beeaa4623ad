use Rattle.estelle_model.specs.Subject.{child_of}
use Rattle.estelle_model.specs.Actions.{holds_child}
use Rattle.body_state.specs.Follows.{carried}
use Rattle.body_actions.proofs.ChildLemmas.{passed_on, child_held, child_not_held}
use Rattle.body_machine.proofs.children.hold.Goals as goal

pub returns-in_err-enter_state : goal.returns-in_err-enter_state
returns-in_err-enter_state c = passed_on (carried (holds_child c.args.bodies.now c.args.parent.now c.args.variable (child_of c.args.bodies.now c.args.body).to c.args.child)) c.args.walk.now c.enter_state.new.self c.from_residual.result c.in_err-enter_state.field-0.0 c.from_residual.ensures.1
    (child_not_held c.args.bodies.now c.args.parent.now c.args.variable (child_of c.args.bodies.now c.args.body).to c.state_behind-to.result c.args.child c.args.walk.now c.enter_state.new.self c.in_err-enter_state.field-0.0 c.state_behind-to.ensures (c.in_err-enter_state.ensures c.args.bodies.now))

pub returns : goal.returns
returns c = child_held c.args.bodies.now c.args.parent.now c.args.variable (child_of c.args.bodies.now c.args.body).to c.state_behind-to.result c.args.child c.args.walk.now c.enter_state.new.self c.keep.new.self c.state_behind-to.ensures (c.in_ok-enter_state.ensures c.args.bodies.now) c.in_ok-keep.ensures
