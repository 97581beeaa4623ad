use Rattle.body_actions.proofs.ChildLemmas.{child_cut}
use Rattle.body_actions.proofs.children.disconnect_child.Goals as goal

pub returns : goal.returns
returns c = child_cut c.args.bodies.now c.args.path.now c.args.walk.now c.disconnect_points.new.walk c.in_ok-count.count c.in_ok-count.ensures (c.in_ok-disconnect_points.ensures c.args.bodies.now)
