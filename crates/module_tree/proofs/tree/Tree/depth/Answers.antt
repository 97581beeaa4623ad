use Rattle.std.proofs.Common.{ap, ◌∙◌}
use Rattle.module_tree.proofs.Standing.{there_is, tree_is}
use Rattle.module_tree.proofs.tree.Tree.depth.Goals as goal

pub returns-clause-bound : goal.returns-clause-bound
returns-clause-bound g c q h = c.self.invariant.bounded q (there_is c.args.self.now c.self.inside.nodes.entries (ap (λ t. t.instances) c.self.view_is) q ∙ h)

pub returns-clause-tree : goal.returns-clause-tree
returns-clause-tree g c = tree_is c.args.self.now c.self.inside.nodes.entries (ap (λ t. t.instances) c.self.view_is) c.self.invariant.linked
