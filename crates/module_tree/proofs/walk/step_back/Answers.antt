use Rattle.std.proofs.Common.{◌≡◌, ◌∙◌, ap, sym, subst, arith, rules, length, not, true, false}
use Rattle.std.specs.Prelude.{IsSome}
use Rattle.std.specs.Vec.{vec_len}
use Rattle.std.specs.Ordering.{is_lt}
use Rattle.estelle_tree.specs.Paths.{parent_of, last_of, is_inside, path_cmp}
use Rattle.module_tree.specs.Nodes.{found, links}
use Rattle.module_tree.proofs.Paths.{child_is, length-child}
use Rattle.module_tree.proofs.Removing.{inside_parent, inside_more, inside_inside, parent_there, links_found}
use Rattle.module_tree.proofs.Below.{popped, popped_and_pushed, back_to_parent, back_to_sibling, sibling_there}
use Rattle.module_tree.proofs.walk.step_back.Goals as goal

pub push_reserved-requires : goal.push_reserved-requires
push_reserved-requires g c =
    let len : c.args.way.now.len ≡ length c.args.way.now.items = search rules in
    let up = popped c.args.way.now.items c.pop.new.self.items c.args.way.now.len len c.pop.ensures.rest in
    let long = c.requires.bounded c.args.way.now.items c.requires.there in
    let is = ap length (child_is c.args.way.now.items c.requires.below) in
    let more = length-child (parent_of c.args.way.now.items) (last_of c.args.way.now.items) in
    let left = ap length up in
    let left_len : vec_len c.pop.new.self ≡ length c.pop.new.self.items = search rules in
    omega (arith, long, is, more, left, left_len, c.requires.room, c.pop.ensures.capacity)

pub descend-requires-clause-there : goal.descend-requires-clause-there
descend-requires-clause-there g c =
    let len : c.args.way.now.len ≡ length c.args.way.now.items = search rules in
    let down = popped_and_pushed c.args.way.now.items c.pop.new.self.items c.push_reserved.new.self.items c.args.way.now.len c.args.previous len c.pop.ensures.rest c.push_reserved.ensures.items in
    subst (λ q. IsSome (found c.args.nodes.now.entries q)) (sym down)
    (sibling_there c.args.nodes.now.entries c.requires.linked c.args.way.now.items c.requires.below c.requires.there c.args.previous c.requires.previous c.if-previous-ne0.true)

pub returns-then-previous-ne0-clause-next_to : goal.returns-then-previous-ne0-clause-next_to
returns-then-previous-ne0-clause-next_to g c =
    let len : c.args.way.now.len ≡ length c.args.way.now.items = search rules in
    let down = popped_and_pushed c.args.way.now.items c.pop.new.self.items c.push_reserved.new.self.items c.args.way.now.len c.args.previous len c.pop.ensures.rest c.push_reserved.ensures.items in
    back_to_sibling c.args.nodes.now.entries c.requires.linked c.args.way.now.items c.requires.below c.requires.there c.args.previous c.requires.previous c.descend.new.way.items
    (subst (λ p. is_inside p c.descend.new.way.items ≡ true) down c.descend.ensures.below)
    (subst (λ p. (q : _) → IsSome (found c.args.nodes.now.entries q) → is_inside p q ≡ true → is_lt (path_cmp c.descend.new.way.items q) ≡ false) down c.descend.ensures.last)

pub returns-then-previous-ne0-clause-below : goal.returns-then-previous-ne0-clause-below
returns-then-previous-ne0-clause-below g c =
    let len : c.args.way.now.len ≡ length c.args.way.now.items = search rules in
    let down = popped_and_pushed c.args.way.now.items c.pop.new.self.items c.push_reserved.new.self.items c.args.way.now.len c.args.previous len c.pop.ensures.rest c.push_reserved.ensures.items in
    λ p inside long.
    inside_inside p c.push_reserved.new.self.items c.descend.new.way.items
    (subst (λ q. is_inside p q ≡ true) (sym down) (inside_more p (parent_of c.args.way.now.items) _ (inside_parent p c.args.way.now.items inside (λ e. long (sym e)))))
    c.descend.ensures.below

pub returns-else-previous-ne0-clause-there : goal.returns-else-previous-ne0-clause-there
returns-else-previous-ne0-clause-there g c =
    let len : c.args.way.now.len ≡ length c.args.way.now.items = search rules in
    let up = popped c.args.way.now.items c.pop.new.self.items c.args.way.now.len len c.pop.ensures.rest in
    subst (λ q. IsSome (found c.args.nodes.now.entries q)) (sym up)
    (sym (links_found c.args.nodes.now.entries _) ∙ parent_there (links c.args.nodes.now.entries) c.args.way.now.items c.requires.linked c.requires.below (links_found c.args.nodes.now.entries _ ∙ c.requires.there))

pub returns-else-previous-ne0-clause-next_to : goal.returns-else-previous-ne0-clause-next_to
returns-else-previous-ne0-clause-next_to g c =
    let len : c.args.way.now.len ≡ length c.args.way.now.items = search rules in
    let up = popped c.args.way.now.items c.pop.new.self.items c.args.way.now.len len c.pop.ensures.rest in
    subst (λ v. (q : _) → IsSome (found c.args.nodes.now.entries q) → is_lt (path_cmp v q) ≡ not (is_lt (path_cmp q c.args.way.now.items))) (sym up)
    (back_to_parent c.args.nodes.now.entries c.requires.linked c.args.way.now.items c.requires.below c.requires.there c.args.previous c.requires.previous c.if-previous-ne0.false)

pub returns-else-previous-ne0-clause-below : goal.returns-else-previous-ne0-clause-below
returns-else-previous-ne0-clause-below g c =
    let len : c.args.way.now.len ≡ length c.args.way.now.items = search rules in
    let up = popped c.args.way.now.items c.pop.new.self.items c.args.way.now.len len c.pop.ensures.rest in
    λ p inside long. subst (λ q. is_inside p q ≡ true) (sym up) (inside_parent p c.args.way.now.items inside (λ e. long (sym e)))
