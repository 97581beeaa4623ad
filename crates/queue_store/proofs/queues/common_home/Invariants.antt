use Rattle.queue_store.specs.Homes.{heads}
use Rattle.queue_store.proofs.DeclareLaws.{NoneSmaller}
use Rattle.queue_store.proofs.queues.common_home.Given as goal

abbrev pub invariant-loop-number : goal.invariant-loop-number
invariant-loop-number g l = NoneSmaller (heads l.table.rows) l.path l.number
