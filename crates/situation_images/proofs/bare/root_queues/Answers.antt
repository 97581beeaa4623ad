use Rattle.std.proofs.Common.{rules, arith}
use Rattle.situation_images.proofs.Alone.{fresh-at, more-at}
use Rattle.situation_images.proofs.bare.root_queues.Goals as goal

pub declare-requires-clause-fresh : goal.declare-requires-clause-fresh
declare-requires-clause-fresh c = fresh-at c.args.program.now c.loop-number.number c.in-Ok.ip c.root.result c.loop-number.queues.queues c.loop-number.invariant.0 c.root.ensures (search rules)

pub loop-number-preserved : goal.loop-number-preserved
loop-number-preserved c = (
  more-at c.args.program.now c.loop-number.number c.in-Ok.ip c.root.result c.is_common.result c.loop-number.queues.queues c.declare.new.self.queues c.loop-number.invariant.0 c.root.ensures (search rules) c.is_common.ensures c.declare.ensures.queues,
  omega (arith, c.loop-number.invariant.1, c.declare.ensures.room),
)
