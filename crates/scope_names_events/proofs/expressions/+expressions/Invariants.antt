use Rattle.std.proofs.Common.{◌≡◌, take}
use Rattle.std.specs.List.{flat_map}
use Rattle.scope_names_events.specs.Writing.{write}
use Rattle.scope_rules.specs.ExpressionEvents.{elem, expr, selector, term, factor}
use Rattle.scope_names_events.proofs.expressions.+expressions.Given as goal

abbrev pub invariant-write_elems-loop-elem : goal.invariant-write_elems-loop-elem
invariant-write_elems-loop-elem l = l.out ≡ write l.initial.out (flat_map elem (take l.elem-index l.elems))

abbrev pub invariant-write_exprs-loop-expr : goal.invariant-write_exprs-loop-expr
invariant-write_exprs-loop-expr l = l.out ≡ write l.initial.out (flat_map expr (take l.expr-index l.exprs))

abbrev pub invariant-write_selectors-loop-selector : goal.invariant-write_selectors-loop-selector
invariant-write_selectors-loop-selector l = l.out ≡ write l.initial.out (flat_map (λ s. (selector s).1) (take l.selector-index l.selectors))

abbrev pub invariant-write_simple-loop-other : goal.invariant-write_simple-loop-other
invariant-write_simple-loop-other l = l.out ≡ write l.initial.out (flat_map (λ y. term y.1) (take l.other-index l.other-items))

abbrev pub invariant-write_term-loop-other : goal.invariant-write_term-loop-other
invariant-write_term-loop-other l = l.out ≡ write l.initial.out (flat_map (λ y. factor y.1) (take l.other-index l.other-items))
