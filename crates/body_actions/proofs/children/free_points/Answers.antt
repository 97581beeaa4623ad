use Rattle.std.proofs.Common.{◌≡◌, Ok, subst, refl}
use Rattle.estelle_tree.specs.declared.link.IpAddr.{IpAddr}
use Rattle.estelle_model.specs.Actions.{free_point}
use Rattle.body_state.specs.Progress.{running}
use Rattle.body_state.specs.Follows.{carried}
use Rattle.body_actions.proofs.ActionLemmas.{point_turn, points_end}
use Rattle.body_actions.proofs.children.free_points.Goals as goal

pub loop-ip-init : goal.loop-ip-init
loop-ip-init c = λ s. refl

pub loop-ip-preserved : goal.loop-ip-preserved
loop-ip-preserved c = λ s. point_turn (free_point s) c.args.path.now c.args.count c.loop-ip.ip c.loop-ip.walk c.free_point.new.walk c.args.walk.now c.loop-ip-test.true
    (subst (λ (a : IpAddr). carried (free_point s a) (running c.loop-ip.walk) ≡ Ok (tt, running c.free_point.new.walk)) c.in_ok-a.ensures (c.in_ok-free_point.ensures s)) (c.loop-ip.invariant s)

pub returns : goal.returns
returns c = λ s. points_end (free_point s) c.args.path.now c.args.count c.loop-ip.ip c.loop-ip.walk c.args.walk.now c.loop-ip-test.false (c.loop-ip.invariant s)
