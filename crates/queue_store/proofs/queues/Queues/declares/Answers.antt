use Rattle.std.proofs.Common.{◌≡◌, ◌∙◌}
use Rattle.queue_store.proofs.QueueLaws.{declares-is}
use Rattle.queue_store.proofs.queues.Queues.declares.Goals as goal

pub returns : goal.returns
returns g c = rw (← c.self.view_is) (c.is_some.ensures ∙ declares-is {T = g.row.T.Denot} c.self.inside.table.rows c.args.ip.now c.home_of.result c.home_of.ensures)
