use Rattle.std.proofs.Common.{ap}
use Rattle.module_tree.proofs.Seen.{lent_alike, part_found, part_written_view, part_written_sound, with_part_in, writes_change}
use Rattle.module_tree.proofs.tree.Tree.get_mut.Goals as goal

pub invariant_of-self-lent : goal.invariant_of-self-lent
invariant_of-self-lent g c w =
    part_written_sound c.self.inside.nodes _ c.items.result.now w _ _ c.self.invariant
    (writes_change c.self.inside.nodes _ c.items.result.now c.in-Some.node.now (with_part_in w) c.in-Some.ensures.value (c.get_mut.follows.holds (with_part_in w c.in-Some.node.now)))

pub returns-in-Some : goal.returns-in-Some
returns-in-Some g c = (
  lent_alike _ _ _ (λ w.
      part_written_view c.args.self.now c.self.inside.nodes (c.get_mut.follows.lender (with_part_in w c.in-Some.node.now)) c.items.result.now c.args.path.now w _ c.self.view_is c.items.ensures
      (writes_change c.self.inside.nodes _ c.items.result.now c.in-Some.node.now (with_part_in w) c.in-Some.ensures.value (c.get_mut.follows.holds (with_part_in w c.in-Some.node.now)))),
  record { writes_back = tt; value = part_found c.args.self.now c.self.inside.nodes.entries _ _ _ (ap (λ t. t.instances) c.self.view_is) c.in-Some.ensures.value c.items.ensures },
)
