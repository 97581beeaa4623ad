use Rattle.std.proofs.Common.{◌≡◌, ◌≤◌, sym, ap, subst, ◌∙◌, arith, rules, ◌++◌, length, refl, take, true, false, is_some, ◌+◌, ◌-◌, if◌then◌else◌}
use Rattle.std.specs.Prelude.{IsSome}
use Rattle.std.specs.Vec.{vec_len, vec_capacity}
use Rattle.std.proofs.lemmas.List.{with_items_is}
use Rattle.std.specs.FinMap as map
use Rattle.estelle_tree.specs.Paths.{parent_of, is_inside}
use Rattle.module_tree.specs.Trees.{without}
use Rattle.module_tree.specs.Nodes.{found, instances_of}
use Rattle.module_tree.proofs.Paths.{parent_of-take}
use Rattle.module_tree.proofs.Removing.{inside_itself, inside_inside, inside_some, inside_parent, inside_as_long, left_was, left_parent, left_gone, without_removed, without_absent}
use Rattle.module_tree.proofs.nodes.remove.Goals as goal

pub leaves-init : goal.leaves-init
leaves-init g c =
    let within = c.requires.bounded c.args.path.now c.requires.there in
    let none : vec_len c.args.way.now ≡ length c.args.way.now.items = search rules in
    let empty = ap length c.requires.empty in
    let fits : vec_len c.args.way.now + length c.args.path.now ≤ vec_capacity c.args.way.now = omega (arith, within, none, empty, c.requires.room) in
    let is : c.extend_from_slice.new.self.items ≡ c.args.path.now =
    c.extend_from_slice.ensures.items ∙ ap (λ b. if b then c.args.way.now.items ++ c.args.path.now else c.args.way.now.items) (c.extend_from_slice.ensures.succeeds fits) ∙ ap (λ p. p ++ c.args.path.now) c.requires.empty in
    record {
      linked = c.requires.linked;
      there = subst (λ q. IsSome (found c.args.nodes.now.entries q)) (sym is) c.requires.there;
      below = subst (λ q. is_inside c.args.path.now q ≡ true) (sym is) (inside_itself c.args.path.now);
      bounded = c.requires.bounded;
      room = omega (arith, c.requires.room, c.extend_from_slice.ensures.capacity);
      more = c.extend_from_slice.ensures.capacity;
      spare = omega arith;
      seen = refl;
    }

pub leaves-preserved : goal.leaves-preserved
leaves-preserved g c =
    let way = c.descend.new.way.items in
    let kept : c.unlink.new.way ≡ way = c.unlink.ensures.kept ∙ c.deref_mut.ensures.value in
    let len : c.descend.new.way.len ≡ length way = search rules in
    let popped : c.pop.new.self.items ≡ parent_of way =
    c.pop.ensures.rest ∙ ap (take (c.descend.new.way.len - 1)) (with_items_is c.descend.new.way c.unlink.new.way (ap length kept ∙ sym len) ∙ kept)
    ∙ ap (λ n. take (n - 1) way) len ∙ parent_of-take way in
    let removed = c.unlink.ensures.removed ∙ ap (map.remove (instances_of c.leaves.nodes.entries)) c.deref_mut.ensures.value in
    let inside = inside_inside c.args.path.now c.leaves.way.items way c.leaves.invariant.below c.descend.ensures.below in
    record {
      linked = c.unlink.ensures.linked;
      there = subst (λ q. IsSome (found c.unlink.new.nodes.entries q)) (sym popped)
          (left_parent c.leaves.nodes.entries c.unlink.new.nodes.entries way removed c.leaves.invariant.linked (inside_some c.args.path.now way inside c.requires.below) c.descend.ensures.there);
      below = subst (λ q. is_inside c.args.path.now q ≡ true) (sym popped) (inside_parent c.args.path.now way inside (λ e. c.if-len-path.false (c.len.ensures ∙ len ∙ e)));
      bounded = λ q h. c.leaves.invariant.bounded q (left_was c.leaves.nodes.entries c.unlink.new.nodes.entries way removed q h);
      room = omega (arith, c.leaves.invariant.room, c.descend.ensures.room, c.pop.ensures.capacity);
      more = omega (arith, c.leaves.invariant.more, c.descend.ensures.room, c.pop.ensures.capacity);
      spare = omega (arith, c.leaves.invariant.spare, c.unlink.ensures.room);
      seen = ap (λ m. without m c.args.path.now) removed ∙ without_removed _ c.args.path.now way inside ∙ c.leaves.invariant.seen;
    }

pub returns-clause-removed : goal.returns-clause-removed
returns-clause-removed g c =
    let way = c.descend.new.way.items in
    let len : c.descend.new.way.len ≡ length way = search rules in
    let removed = c.unlink.ensures.removed ∙ ap (map.remove (instances_of c.leaves.nodes.entries)) c.deref_mut.ensures.value in
    let inside = inside_inside c.args.path.now c.leaves.way.items way c.leaves.invariant.below c.descend.ensures.below in
    let whole : way ≡ c.args.path.now = inside_as_long c.args.path.now way inside (sym len ∙ sym c.len.ensures ∙ c.if-len-path.true) in
    let gone = subst (λ q. is_some (found c.unlink.new.nodes.entries q) ≡ false) whole (left_gone c.leaves.nodes.entries c.unlink.new.nodes.entries way removed) in
    without_absent c.unlink.new.nodes.entries c.args.path.now c.unlink.ensures.linked gone
    ∙ ap (λ m. without m c.args.path.now) removed ∙ without_removed _ c.args.path.now way inside ∙ c.leaves.invariant.seen
