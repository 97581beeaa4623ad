use Rattle.module_tree.specs.Nodes.{with_birth}
use Rattle.module_tree.proofs.Seen.{writes_change}
use Rattle.module_tree.proofs.nodes.bear.Goals as goal

pub returns-in-Some-clause-born : goal.returns-in-Some-clause-born
returns-in-Some-clause-born g c = writes_change c.args.nodes.now _ c.args.parent.now c.in-Some.node.now (with_birth c.args.number) c.in-Some.ensures.value (c.get_mut.follows.holds (with_birth c.args.number c.in-Some.node.now))
