use Rattle.module_tree.specs.Nodes.{with_previous}
use Rattle.module_tree.proofs.Seen.{writes_change}
use Rattle.module_tree.proofs.nodes.set_previous.Goals as goal

pub returns-in-Some : goal.returns-in-Some
returns-in-Some g c = writes_change c.args.nodes.now _ c.args.path.now c.in-Some.node.now (with_previous c.args.number) c.in-Some.ensures.value (c.get_mut.follows.holds (with_previous c.args.number c.in-Some.node.now))
