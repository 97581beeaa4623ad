use Rattle.std.proofs.Common.{◌≡◌, Ok, subst, refl}
use Rattle.estelle_tree.specs.declared.link.IpAddr.{IpAddr}
use Rattle.estelle_model.specs.Actions.{disconnect_if}
use Rattle.body_state.specs.Progress.{running}
use Rattle.body_state.specs.Follows.{carried}
use Rattle.body_actions.proofs.ActionLemmas.{point_turn, points_end}
use Rattle.body_actions.proofs.children.disconnect_points.Goals as goal

pub loop-ip-init : goal.loop-ip-init
loop-ip-init c = λ s. refl

pub loop-ip-preserved : goal.loop-ip-preserved
loop-ip-preserved c = λ s. point_turn (disconnect_if s) c.args.path.now c.args.count c.loop-ip.ip c.loop-ip.walk c.disconnect_if.new.walk c.args.walk.now c.loop-ip-test.true
    (subst (λ (a : IpAddr). carried (disconnect_if s a) (running c.loop-ip.walk) ≡ Ok (tt, running c.disconnect_if.new.walk)) c.in_ok-a.ensures (c.in_ok-disconnect_if.ensures s)) (c.loop-ip.invariant s)

pub returns : goal.returns
returns c = λ s. points_end (disconnect_if s) c.args.path.now c.args.count c.loop-ip.ip c.loop-ip.walk c.args.walk.now c.loop-ip-test.false (c.loop-ip.invariant s)
