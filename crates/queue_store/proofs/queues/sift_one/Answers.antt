use Rattle.queue_store.proofs.MoveLaws.{length-on_row}
use Rattle.queue_store.proofs.queues.sift_one.Goals as goal

pub append-requires-clause-row : goal.append-requires-clause-row
append-requires-clause-row g c = rw (c.pop.ensures.rows, length-on_row) c.requires.target

pub append-requires-else-number-from-clause-row : goal.append-requires-else-number-from-clause-row
append-requires-else-number-from-clause-row g c = rw (c.pop.ensures.rows, length-on_row) c.requires.source
