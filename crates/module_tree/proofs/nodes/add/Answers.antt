use Rattle.module_tree.proofs.Seen.{of_ok, found_updated}
use Rattle.module_tree.proofs.nodes.add.Goals as goal
use Rattle.std.proofs.Common.{Some}

pub returns-clause-added : goal.returns-clause-added
returns-clause-added g c = found_updated c.args.nodes.now c.insert.new.self c.args.numbers.items (Some c.args.node) (of_ok c.insert.result _ c.insert.ensures.updates (c.insert.ensures.succeeds c.requires))
