use Rattle.std.proofs.Common.{◌≡◌, ◌∙◌, ap, sym, subst, arith, rules, length, true, is_some, true≢false}
use Rattle.std.specs.Prelude.{IsSome}
use Rattle.estelle_tree.specs.Paths.{is_inside}
use Rattle.module_tree.specs.Nodes.{found}
use Rattle.module_tree.proofs.Below.{below_some, none_yet, pushed, fewer_left, listed, none_after, one_more, one_less, previous_found, stepped, whole}
use Rattle.module_tree.proofs.walk.backward_parts.Goals as goal

pub descend-requires-clause-there : goal.descend-requires-clause-there
descend-requires-clause-there g c = subst (λ q. IsSome (found c.args.nodes.now.entries q)) (sym c.requires.way) c.requires.there

pub back-init : goal.back-init
back-init g c = record {
  there = c.descend.ensures.there;
  below = subst (λ p. is_inside p c.descend.new.way.items ≡ true) c.requires.way c.descend.ensures.below;
  room = omega (arith, c.requires.room, c.descend.ensures.room);
  parts = none_yet (λ r. r.now) _ _ c.new-parts.ensures.items (none_after c.args.nodes.now.entries c.args.path.now c.args.way.now.items c.descend.new.way.items c.requires.way c.descend.ensures.last);
}

pub returns-in-None : goal.returns-in-None
returns-in-None g c = absurd (true≢false (sym c.back.invariant.there ∙ ap is_some (sym (c.in-None.ensures.value ∙ ap (found c.args.nodes.now.entries) c.as_slice.ensures.value))))

pub returns-then-len-path : goal.returns-then-len-path
returns-then-len-path g c =
    let es = c.args.nodes.now.entries in
    let is = c.in-Some.ensures.value ∙ ap (found es) c.as_slice.ensures.value in
    let len : c.back.way.len ≡ length c.back.way.items = search rules in
    one_more es c.args.path.now c.back.way.items c.in-Some.node.now c.back.invariant.below is _ _ c.back.invariant.parts (pushed (λ r. r.now) _ _ _ c.in_ok-push-in-Some.ensures.items)
    ∙ whole es c.args.path.now c.back.way.items c.back.invariant.below (sym len ∙ sym c.len.ensures ∙ c.if-len-path.true)

pub step_back-requires-clause-below : goal.step_back-requires-clause-below
step_back-requires-clause-below g c =
    let len : c.back.way.len ≡ length c.back.way.items = search rules in
    below_some c.args.path.now c.back.way.items c.back.invariant.below (λ e. c.if-len-path.false (c.len.ensures ∙ len ∙ e))

pub step_back-requires-clause-previous : goal.step_back-requires-clause-previous
step_back-requires-clause-previous g c = previous_found c.args.nodes.now.entries c.args.path.now c.back.way.items c.in-Some.node.now (c.in-Some.ensures.value ∙ ap (found c.args.nodes.now.entries) c.as_slice.ensures.value)

pub back-smaller : goal.back-smaller
back-smaller g c =
    let es = c.args.nodes.now.entries in
    let is = c.in-Some.ensures.value ∙ ap (found es) c.as_slice.ensures.value in
    fewer_left (λ r. r.now) c.back.parts.items c.push.new.self.items _ (length (listed es c.args.path.now)) c.in_ok-push-in-Some.ensures.items
    (one_less es c.args.path.now c.back.way.items c.in-Some.node.now c.back.invariant.below is _ c.back.invariant.parts)

pub back-preserved : goal.back-preserved
back-preserved g c =
    let es = c.args.nodes.now.entries in
    let is = c.in-Some.ensures.value ∙ ap (found es) c.as_slice.ensures.value in
    let len : c.back.way.len ≡ length c.back.way.items = search rules in
    record {
      there = c.step_back.ensures.there;
      below = c.step_back.ensures.below c.args.path.now c.back.invariant.below (λ e. c.if-len-path.false (c.len.ensures ∙ len ∙ sym e));
      room = omega (arith, c.back.invariant.room, c.step_back.ensures.room);
      parts = one_more es c.args.path.now c.back.way.items c.in-Some.node.now c.back.invariant.below is _ _ c.back.invariant.parts (pushed (λ r. r.now) _ _ _ c.in_ok-push-in-Some.ensures.items)
          ∙ stepped es c.args.path.now c.step_back.new.way.items c.back.way.items c.step_back.ensures.next_to;
    }
