use Rattle.std.proofs.Common.{sym, subst, ◌∙◌}
use Rattle.estelle_tree.specs.Paths.{child, parent_of}
use Rattle.module_tree.specs.Nodes.{Changes, with_next}
use Rattle.module_tree.proofs.Steps.{Unlinked, unlinked_linked, unlinked_instances, no_child_zero_left}
use Rattle.module_tree.proofs.nodes.unlink.Goals as goal

pub join_next-requires-clause-none : goal.join_next-requires-clause-none
join_next-requires-clause-none g c =
    no_child_zero_left c.args.nodes.now c.swap_remove.new.self c.args.way.now c.swap_remove.ensures.updates c.join_back.new.nodes _ _ _ c.requires.linked c.join_back.ensures.joined

steps : (g : _) (c : goal.After-drop-node g) → Unlinked c.args.nodes.now c.swap_remove.new.self c.join_back.new.nodes c.join_next.new.nodes c.args.way.now c.in-Some.node
steps g c = record {
  below = c.requires.below;
  was = sym c.in-Some.is ∙ c.swap_remove.ensures.value;
  leaf = c.requires.leaf;
  gone = c.swap_remove.ensures.updates;
  joined = c.join_back.ensures.joined;
  ended = subst (λ q. Changes c.join_back.new.nodes c.join_next.new.nodes (child (parent_of q) c.in-Some.node.previous) (with_next c.in-Some.node.next)) c.join_back.ensures.kept c.join_next.ensures.joined;
}

pub returns-in-Some-clause-linked : goal.returns-in-Some-clause-linked
returns-in-Some-clause-linked g c = unlinked_linked _ _ _ _ _ _ (steps g c) c.requires.linked

pub returns-in-Some-clause-removed : goal.returns-in-Some-clause-removed
returns-in-Some-clause-removed g c = unlinked_instances _ _ _ _ _ _ (steps g c)
