use Rattle.module_tree.proofs.Paths.{parent_of-take}
use Rattle.module_tree.proofs.nodes.parent.Goals as goal

pub returns : goal.returns
returns c = parent_of-take c.args.numbers.now
