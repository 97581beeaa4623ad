use Rattle.std.proofs.Common.{◌≡◌, ◌-◌, sym, ◌∙◌}
use Rattle.link_ops.specs.Pairs.{next_of}
use Rattle.link_ops.proofs.Ties.{walked-done, walked-step}
use Rattle.link_ops.proofs.pairs.walk.Goals as goal

pub returns-in-None : goal.returns-in-None
returns-in-None c = sym (walked-done (next_of c.args.points.now c.args.pairs.now c.args.role) (c.args.steps - c.loop-taken.taken) c.loop-taken.at (sym c.step.ensures ∙ c.in-None.is)) ∙ c.loop-taken.invariant

pub loop-taken-preserved : goal.loop-taken-preserved
loop-taken-preserved c = walked-step (next_of c.args.points.now c.args.pairs.now c.args.role) c.args.steps c.loop-taken.taken c.loop-taken.at c.in-Some.next c.loop-taken-test.true (sym c.step.ensures ∙ c.in-Some.is) ∙ c.loop-taken.invariant
