use Rattle.std.proofs.Common.{◌≡◌, ◌<◌, sym, ap, subst, ◌∙◌, ◌+◌, ◌-◌, true, arith, rules, length, refl}
use Rattle.std.specs.Prelude.{IsSome}
use Rattle.std.specs.Vec.{vec_len}
use Rattle.estelle_tree.specs.Paths.{is_inside}
use Rattle.module_tree.specs.Nodes.{found, links, number_at}
use Rattle.module_tree.proofs.Paths.{length-child}
use Rattle.module_tree.proofs.Removing.{inside_itself, inside_more, deeper, deeper_within}
use Rattle.module_tree.proofs.Below.{rest_deeper, rest_last}
use Rattle.module_tree.proofs.nodes.descend.Goals as goal

pub loop-last-init : goal.loop-last-init
loop-last-init g c = record { there = c.requires.there; last = c.last_child-last.ensures ∙ ap (number_at (λ n. n.last) (links c.args.nodes.now.entries)) c.deref.ensures.value; below = inside_itself c.args.way.now.items; rest = λ q h inside after. inside; room = refl }

pub push_reserved-requires : goal.push_reserved-requires
push_reserved-requires g c =
    let within = deeper_within c.args.nodes.now.entries c.loop-last.way.items c.loop-last.last c.args.depth c.requires.linked c.loop-last.invariant.last c.loop-last-test.true c.requires.bounded in
    let small : vec_len c.loop-last.way ≡ length c.loop-last.way.items = search rules in
    omega (arith, c.requires.room, c.loop-last.invariant.room)

pub loop-last-smaller : goal.loop-last-smaller
loop-last-smaller g c =
    let within = deeper_within c.args.nodes.now.entries c.loop-last.way.items c.loop-last.last c.args.depth c.requires.linked c.loop-last.invariant.last c.loop-last-test.true c.requires.bounded in
    let longer : length c.push_reserved.new.self.items ≡ length c.loop-last.way.items + 1 = ap length c.push_reserved.ensures.items ∙ length-child c.loop-last.way.items c.loop-last.last in
    let goes : c.args.depth - length c.push_reserved.new.self.items < c.args.depth - length c.loop-last.way.items = omega (arith, longer, within) in
    goes

pub loop-last-preserved : goal.loop-last-preserved
loop-last-preserved g c = record {
  there = subst (λ q. IsSome (found c.args.nodes.now.entries q)) (sym c.push_reserved.ensures.items) (deeper c.args.nodes.now.entries c.loop-last.way.items c.loop-last.last c.requires.linked c.loop-last.invariant.last c.loop-last-test.true);
  last = c.last_child-last-in-loop-last.ensures ∙ ap (number_at (λ n. n.last) (links c.args.nodes.now.entries)) c.deref-in-loop-last.ensures.value;
  below = subst (λ q. is_inside c.args.way.now.items q ≡ true) (sym c.push_reserved.ensures.items) (inside_more c.args.way.now.items c.loop-last.way.items _ c.loop-last.invariant.below);
  rest = rest_deeper c.args.nodes.now.entries c.requires.linked c.args.way.now.items c.loop-last.way.items c.push_reserved.new.self.items c.loop-last.last c.loop-last.invariant.last c.push_reserved.ensures.items c.loop-last.invariant.rest;
  room = c.push_reserved.ensures.capacity ∙ c.loop-last.invariant.room;
}

pub returns-clause-last : goal.returns-clause-last
returns-clause-last g c = rest_last c.args.nodes.now.entries c.requires.linked c.args.way.now.items c.loop-last.way.items c.loop-last.last c.loop-last.invariant.last c.loop-last-test.false c.loop-last.invariant.rest
