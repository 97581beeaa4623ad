use Rattle.queue_store.specs.Chains.{load_in, next_in}
use Rattle.queue_store.specs.Rows.{ip_at}
use Rattle.queue_store.proofs.TableLaws.{found-of, unique-of}
use Rattle.queue_store.proofs.table.Table.find.Goals as goal

pub returns-clause-found : goal.returns-clause-found
returns-clause-found g c =
    let index = rw c.ask.ensures at c.get_index_of.ensures.index in
    let found = rw c.ask.ensures at c.get_index_of.ensures.found in
    rw (← c.self.view_is)
    (found-of {T = g.row.T.Denot} (load_in c.self.inside.nodes) (next_in c.self.inside.nodes) (ip_at c.args.path.now c.args.ip) c.self.inside.places.entries c.get_index_of.result index found)

pub returns-clause-unique : goal.returns-clause-unique
returns-clause-unique g c =
    rw (← c.self.view_is)
    (unique-of {T = g.row.T.Denot} (load_in c.self.inside.nodes) (next_in c.self.inside.nodes) c.self.inside.places.entries c.get_index_of.ensures.unique)
