use Rattle.std.proofs.Common.{◌≤◌, ◌∙◌, ◌+◌, ◌++◌, ap, arith, length, if◌then◌else◌}
use Rattle.std.specs.Vec.{vec_len, vec_capacity}
use Rattle.module_tree.proofs.Below.{turned}
use Rattle.module_tree.proofs.walk.parts.Goals as goal

pub backward_parts-requires-clause-way : goal.backward_parts-requires-clause-way
backward_parts-requires-clause-way g c =
    let within = c.requires.bounded c.args.path.now c.requires.there in
    let fits : vec_len c.in_ok-way.way + length c.args.path.now ≤ vec_capacity c.in_ok-way.way = omega (arith, within, c.in_ok-way.ensures.len, c.in_ok-way.ensures.exact) in
    c.extend_from_slice.ensures.items ∙ ap (λ b. if b then c.in_ok-way.way.items ++ c.args.path.now else c.in_ok-way.way.items) (c.extend_from_slice.ensures.succeeds fits) ∙ ap (λ p. p ++ c.args.path.now) c.in_ok-way.ensures.items

pub backward_parts-requires-clause-room : goal.backward_parts-requires-clause-room
backward_parts-requires-clause-room g c = omega (arith, c.in_ok-way.ensures.exact, c.extend_from_slice.ensures.capacity)

pub returns : goal.returns
returns g c = turned (λ r. r.now) _ _ _ c.reverse.ensures.items c.in_ok-parts.ensures
