use Rattle.std.proofs.Common.{Some}
use Rattle.module_tree.proofs.Seen.{found_updated}
use Rattle.module_tree.proofs.Standing.{lone_linked, planted}
use Rattle.module_tree.proofs.nodes.plant.Goals as goal

pub returns-in-Ok-clause-linked : goal.returns-in-Ok-clause-linked
returns-in-Ok-clause-linked g c =
    lone_linked c.insert.new.self.entries c.args.root (λ q.
    planted c.new-nodes.result.entries c.insert.new.self.entries c.new.result.items q _ c.new-nodes.ensures.empty c.new.ensures.items (found_updated c.new-nodes.result c.insert.new.self c.new.result.items (Some _) c.in-Ok.ensures.updates q))
