use Rattle.std.proofs.Common.{rules, ◌≡◌, ◌<◌, ◌≤◌, ℕ, [], Some, length, sym, ap, subst, ◌∙◌, arith, below_more}
use Rattle.std.specs.Prelude.{slice_get}
use Rattle.std.proofs.lemmas.Option.{get_or_from_slice_get, slice_get-get_or}
use Rattle.transition_select.specs.declared.countings.Counting.{Counting}
use Rattle.trace_check.proofs.Counted.{vec_empty}
use Rattle.trace_check.proofs.Deciding.{never, always}
use Rattle.trace_check.proofs.ending.none_counted.Goals as goal

pub returns-then-not-is_empty : goal.returns-then-not-is_empty
returns-then-not-is_empty c =
    let less : c.loop-counting.counting-index < length c.args.counts.now = omega arith in
    let some : c.counting-item.result.transitions.items ≡ [] → ⊥ = search rules in
    never (λ all. some (all c.counting-item.result (c.loop-counting.counting-index, less, sym c.counting-item.is)))

pub loop-counting-preserved : goal.loop-counting-preserved
loop-counting-preserved c k q less there =
    let v = c.counting-item.result.transitions in
    let none : v.items ≡ [] = vec_empty v.items v.len c.is_empty.result c.is_empty.ensures c.if-not-is_empty.false v.ok.0 in
    below_more (λ (j : ℕ). (x : Counting) → slice_get c.args.counts.now j ≡ Some x → x.transitions.items ≡ []) c.loop-counting.counting-index (λ j lt x e. c.loop-counting.invariant j x lt e)
    (λ x e. subst (λ (y : Counting). y.transitions.items ≡ []) (c.counting-item.is ∙ get_or_from_slice_get c.args.counts.now c.loop-counting.counting-index x c.counting-item.result e) none) k less q there

pub returns : goal.returns
returns c =
    let ends : length c.args.counts.now ≤ c.loop-counting.counting-index = omega arith in
    always (λ q there. let less = there.1 in c.loop-counting.invariant there.0 q (omega (arith, less, ends)) (slice_get-get_or c.args.counts.now there.0 q there.1 ∙ ap Some there.2))
