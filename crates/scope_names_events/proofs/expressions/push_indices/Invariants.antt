use Rattle.std.proofs.Common.{◌≡◌, ◌++◌, map, take}
use Rattle.scope_rules.specs.declared.event.Step.TheVariants as step
use Rattle.scope_names_events.proofs.expressions.push_indices.Given as goal

abbrev pub invariant-loop-expr : goal.invariant-loop-expr
invariant-loop-expr l = l.steps ≡ l.initial.steps ++ map (λ x. step.Index) (take l._expr-index l.exprs)
