use Rattle.std.proofs.Common.{rules}
use Rattle.flat_transitions.proofs.Chosen.{joined_more}
use Rattle.flat_transitions.proofs.choices.joined_each.Goals as goal

pub loop-chosen-preserved : goal.loop-chosen-preserved
loop-chosen-preserved c = joined_more c.args.before.now c.loop-chosen.chosen-index c.items.result.now _ c.loop-chosen.choices c.push_all.new.out (search rules) (search rules) c.loop-chosen.invariant (search rules)
