use Rattle.std.proofs.Common.{◌≡◌, ap, subst, ◌∙◌, length, arith, rules, Some, option_map}
use Rattle.std.proofs.lemmas.List.{with_items_is}
use Rattle.estelle_tree.specs.Paths.{child, parent_of}
use Rattle.module_tree.specs.Nodes.{Changes, found, with_birth, with_next}
use Rattle.module_tree.proofs.Paths.{last_is}
use Rattle.module_tree.proofs.Steps.{Placed, same_key, placed_linked, placed_instances}
use Rattle.module_tree.proofs.nodes.place.Goals as goal

steps : (g : _) (c : goal.After-add g) → Placed c.args.nodes.now c.bear.new.nodes c.join_next.new.nodes c.add.new.nodes c.args.numbers.items c.in-Some.previous c.index-number.result.now c.args.part
steps g c =
    let kept : c.join_next.new.numbers ≡ c.args.numbers.items = c.join_next.ensures.kept ∙ c.deref_mut.ensures.value in
    let parent : c.parent.result.now ≡ parent_of c.args.numbers.items = c.parent.ensures ∙ ap parent_of c.deref.ensures.value in
    record {
      below = c.requires.below;
      number = last_is c.args.numbers.items c.len.result _ (search rules) c.requires.below c.index-number.ensures;
      next = c.requires.next;
      before = subst (λ q. Some c.in-Some.previous ≡ option_map (λ n. n.last) (found c.args.nodes.now.entries q)) parent c.in-Some.ensures.last;
      bore = subst (λ q. Changes c.args.nodes.now c.bear.new.nodes q (with_birth c.index-number.result.now)) parent c.bear.ensures.born;
      joined = subst (λ q. Changes c.bear.new.nodes c.join_next.new.nodes (child (parent_of q) c.in-Some.previous) (with_next c.index-number.result.now)) c.deref_mut.ensures.value c.join_next.ensures.joined;
      added = λ q. same_key _ _ q _ _ _ (with_items_is c.args.numbers c.join_next.new.numbers (omega (arith, ap length kept)) ∙ kept) (c.add.ensures.added q);
    }

pub returns-in-Some-clause-linked : goal.returns-in-Some-clause-linked
returns-in-Some-clause-linked g c = placed_linked _ _ _ _ _ _ _ _ (steps g c) c.requires.linked

pub returns-in-Some-clause-placed : goal.returns-in-Some-clause-placed
returns-in-Some-clause-placed g c = placed_instances _ _ _ _ _ _ _ _ (steps g c)
