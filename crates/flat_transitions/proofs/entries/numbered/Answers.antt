use Rattle.std.proofs.Common.{◌∙◌, arith}
use Rattle.flat_transitions.proofs.Numbers.{numbered_more}
use Rattle.flat_transitions.proofs.entries.numbered.Goals as goal

pub loop-number-preserved : goal.loop-number-preserved
loop-number-preserved c =
    c.in_ok-push.ensures.ok
    ∙ numbered_more c.args.transitions.now c.items-items.result.now c.loop-number.number c.index-items-number.result c.loop-number.shown c.in_ok-flat_trans.field-0 c.items-items.ensures
    (omega (arith, c.loop-number-test.true, c.len-count.ensures)) c.index-items-number.is c.in_ok-flat_trans.ensures c.loop-number.invariant
