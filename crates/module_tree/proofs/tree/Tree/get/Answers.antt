use Rattle.std.proofs.Common.{ap}
use Rattle.module_tree.proofs.Seen.{part_found}
use Rattle.module_tree.proofs.tree.Tree.get.Goals as goal

pub returns-in-Some : goal.returns-in-Some
returns-in-Some g c = part_found c.args.self.now c.self.inside.nodes.entries _ _ _ (ap (λ t. t.instances) c.self.view_is) c.in-Some.ensures.value c.items.ensures
