use Rattle.body_state.specs.Bodies.{state_after}
use Rattle.estelle_model.specs.Actions.{holds_child}
use Rattle.body_state.specs.Follows.{carried}
use Rattle.body_actions.proofs.ChildLemmas.{passed_on, child_held, child_not_held}
use Rattle.body_actions.proofs.children.hold_child.Goals as goal

pub returns-in_err-enter_state : goal.returns-in_err-enter_state
returns-in_err-enter_state c = λ s. passed_on (carried (holds_child s c.args.parent.now c.args.variable (state_after c.args.body.now) c.args.child)) c.args.walk.now c.enter_state.new.self c.from_residual.result c.in_err-enter_state.field-0.0 c.from_residual.ensures.1
    (child_not_held s c.args.parent.now c.args.variable (state_after c.args.body.now) c.state_after.result c.args.child c.args.walk.now c.enter_state.new.self c.in_err-enter_state.field-0.0 c.state_after.ensures (c.in_err-enter_state.ensures s))

pub returns : goal.returns
returns c = λ s. child_held s c.args.parent.now c.args.variable (state_after c.args.body.now) c.state_after.result c.args.child c.args.walk.now c.enter_state.new.self c.keep.new.self c.state_after.ensures (c.in_ok-enter_state.ensures s) c.in_ok-keep.ensures
