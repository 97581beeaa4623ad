use Rattle.std.proofs.Common.{arith}
use Rattle.module_tree.proofs.Standing.{lone_bounded}
use Rattle.module_tree.proofs.tree.Tree.single.Goals as goal

pub invariant_of-result : goal.invariant_of-result
invariant_of-result g c = record { linked = c.in_ok-nodes.ensures.linked; bounded = lone_bounded c.in_ok-nodes.nodes.entries c.args.root c.in_ok-nodes.ensures.lone; room = omega arith; empty = c.new.ensures.items }
