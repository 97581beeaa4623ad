use Rattle.std.proofs.Common.{◌≡◌, Some, ap, subst, sym, ◌∙◌}
use Rattle.std.specs.FinMap as map
use Rattle.estelle_model.specs.Bodies.{BodyAlone}
use Rattle.estelle_model.specs.Core.{Instance, Instances}
use Rattle.estelle_model.specs.Subject.{body, child_of}
use Rattle.body_state.specs.Bodies.{module_body}
use Rattle.body_state.specs.Progress.{running}
use Rattle.body_state.specs.Follows.{Follows}
use Rattle.body_state.proofs.BodyLemmas.{known_body}
use Rattle.body_state.proofs.FollowLemmas.{follows_next}
use Rattle.body_actions.specs.Children.{begins_child}
use Rattle.body_machine.specs.Frames.{deeper_than}
use Rattle.body_machine.proofs.Making.{deepen_keeps, child_goes, child_of_body}
use Rattle.body_machine.proofs.children.make_child.Goals as goal

pub returns : goal.returns
returns c =
    let s = c.args.bodies.now in
    let p = c.args.here.now.path in
    let frame = c.args.here.now.frame in
    let m = c.args.modvar in
    let k = c.args.body in
    let vs = c.args.values in
    let b : (b : BodyAlone) × (body s k ≡ Some b) × (c.in-Some.known.now ≡ module_body s k b) = known_body s k c.in-Some.known.now (body s k) c.in-Some.ensures in
    child_goes s p frame m k vs c.args.walk.now c.begin_child.new.walk c.begin_child.result c.in_ok-may_begin.ensures
    (λ i there. follows_next (deeper_than frame) (begins_child s p m i ((child_of s k).with_parameters vs)) (running c.args.walk.now) (running c.deepen.new.walk) (running c.begin_child.new.walk) tt c.begin_child.result c.in_ok-deepen.ensures
    (subst (λ (new : Instance). Follows (begins_child s p m i new) c.deepen.new.walk c.begin_child.result c.begin_child.new.walk) (sym (child_of_body s k b.0 vs b.1))
    (c.begin_child.ensures s b.0 i b.2 (ap (λ (xs : Instances). map.get xs p) (deepen_keeps frame c.args.walk.now c.deepen.new.walk c.in_ok-deepen.ensures) ∙ there))))
