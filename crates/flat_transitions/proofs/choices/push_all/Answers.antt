use Rattle.flat_transitions.proofs.Numbered.{pushed_more}
use Rattle.flat_transitions.proofs.choices.push_all.Goals as goal

pub loop-number-preserved : goal.loop-number-preserved
loop-number-preserved c = pushed_more c.args.before.now c.args.names.now c.loop-number.number c.args.out.now c.loop-number.out c.push.new.self c.in_ok-choice_with.field-0 c.loop-number.invariant c.in_ok-choice_with.ensures c.in_ok-push.ensures.ok
