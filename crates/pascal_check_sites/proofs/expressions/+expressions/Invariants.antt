use Rattle.std.proofs.Common.{◌≡◌, ◌++◌, map, take, drop}
use Rattle.std.specs.Prelude.{fold}
use Rattle.type_rules.specs.ExpressionSites as spec
use Rattle.type_rules.proofs.ExpressionEquations.{with_term, with_factor, with_selector}
use Rattle.pascal_check_sites.proofs.SiteLists.{judged, with_index, with_elem, left_sites, left_type}
use Rattle.pascal_check_sites.proofs.expressions.+expressions.Given as goal

abbrev pub invariant-simple-loop-other : goal.invariant-simple-loop-other
invariant-simple-loop-other l = judged l.typed l.out ≡ fold (with_term l.table) (judged l.initial.typed l.initial.out) (take l.other-index l.other-items)

abbrev pub invariant-term-loop-other : goal.invariant-term-loop-other
invariant-term-loop-other l = judged l.typed l.out ≡ fold (with_factor l.table) (judged l.initial.typed l.initial.out) (take l.other-index l.other-items)

abbrev pub invariant-variable-loop-selector : goal.invariant-variable-loop-selector
invariant-variable-loop-selector l = judged l.typed l.out ≡ fold (with_selector l.table) (judged l.initial.typed l.initial.out) (take l.selector-index l.selector-items)

abbrev pub invariant-selected-loop-index : goal.invariant-selected-loop-index
invariant-selected-loop-index l = judged l.typed l.out ≡ fold (with_index l.table) (judged l.initial.typed l.initial.out) (take l.index-index l.index-items)

-- what is left gives what all gave
abbrev pub invariant-arguments-loop-actual : goal.invariant-arguments-loop-actual
invariant-arguments-loop-actual l = l.out ++ spec.arguments l.parameters (map (spec.expr l.table) (drop l.actual-index l.exprs)) ≡ l.initial.out ++ spec.arguments l.initial.parameters (map (spec.expr l.table) l.exprs)

abbrev pub invariant-members-loop-elem : goal.invariant-members-loop-elem
invariant-members-loop-elem l = (l.so_far, l.out) ≡ fold (with_elem l.table) (l.initial.so_far, l.initial.out) (take l.elem-index l.elems)

-- so is it with the first argument of a required function, and what is left behind it
abbrev pub invariant-function_call-loop-actual : goal.invariant-function_call-loop-actual
invariant-function_call-loop-actual l = record {
  sites : l.out ++ left_sites l.required l.first (map (spec.expr l.table) (drop l.actual-index l.exprs)) ≡ l.initial.out ++ spec.required_arguments l.required (map (spec.expr l.table) l.exprs);
  first : left_type l.first (map (spec.expr l.table) (drop l.actual-index l.exprs)) ≡ spec.first_type (map (spec.expr l.table) l.exprs);
}
