use Rattle.std.proofs.Common.{◌≡◌, sym, ◌∙◌, Some}
use Rattle.slab.specs.Slab.{get}
use Rattle.link_ops.proofs.Chains.{seek-here, seek-on}
use Rattle.link_ops.proofs.points.find.Goals as goal

pub returns-then-same_ip : goal.returns-then-same_ip
returns-then-same_ip c =
    sym (seek-here _ _ c.loop-step.step c.in_ok-k.k c.loop-step.at c.in_ok-node.node.now c.args.ip.now c.loop-step-test.true c.in_ok-k.was (sym c.in_ok-node.ensures) (sym c.same_ip.ensures ∙ c.if-same_ip.true)) ∙ c.loop-step.invariant

pub loop-step-preserved : goal.loop-step-preserved
loop-step-preserved c =
    seek-on _ _ c.loop-step.step c.in_ok-k.k c.loop-step.at c.in_ok-node.node.now c.args.ip.now c.loop-step-test.true c.in_ok-k.was (sym c.in_ok-node.ensures) (sym c.same_ip.ensures ∙ c.if-same_ip.false) ∙ c.loop-step.invariant
