use Rattle.std.proofs.Common.{◌∙◌}
use Rattle.estelle_model.specs.Effects.{Remove}
use Rattle.body_state.specs.Progress.{after}
use Rattle.body_actions.proofs.ChildLemmas.{released}
use Rattle.body_actions.proofs.children.release_child.Goals as goal

pub returns : goal.returns
returns c = released c.args.bodies.now c.args.parent.now c.args.variable c.args.child.now c.args.walk.now c.free_points.new.walk c.make.new.self c.keep.new.self c.in_ok-count.count c.in_ok-count.ensures (c.in_ok-free_points.ensures c.args.bodies.now)
    (c.in_ok-make.ensures ∙ (λ j. after (Remove (c.in_ok-copy.ensures j) (c.last_of.ensures j)) c.free_points.new.walk)) c.in_ok-keep.ensures
