use Rattle.std.proofs.Common.{arith}
use Rattle.body_machine.proofs.Counting.{references_more}
use Rattle.body_machine.proofs.places.count_references.Goals as goal

pub loop-local-preserved : goal.loop-local-preserved
loop-local-preserved c =
    let more = references_more c.args.locals.now c.loop-local.local-index c.local-item.result c.loop-local-test.true c.local-item.is in
    let one = c.one_reference-count.ensures.count in
    let bound = c.one_reference-count.ensures.bound in
    let before = c.loop-local.invariant in
    (omega (arith, more, one, before.0), omega (arith, bound, before.1))
