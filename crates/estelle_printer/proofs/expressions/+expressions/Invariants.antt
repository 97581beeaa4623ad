use Rattle.std.proofs.Common.{◌≡◌, ◌++◌, take}
use Rattle.std.specs.List.{flat_map}
use Rattle.estelle_tree.specs.declared.kind.Kind.TheVariants as k
use Rattle.estelle_tree.specs.Expressions.{of_adding, of_multiplying}
use Rattle.estelle_printer.specs.Forms.{mark, separated}
use Rattle.estelle_printer.specs.ExpressionTokens.{elem, expr, factor, selector, term}
use Rattle.estelle_printer.specs.Writing.{write}
use Rattle.estelle_printer.proofs.expressions.+expressions.Given as goal

abbrev pub invariant-write_elems-loop-place : goal.invariant-write_elems-loop-place
invariant-write_elems-loop-place l = l.out ≡ write l.initial.out (separated k.Comma elem (take l.place l.elems))

abbrev pub invariant-write_exprs-loop-place : goal.invariant-write_exprs-loop-place
invariant-write_exprs-loop-place l = l.out ≡ write l.initial.out (separated k.Comma expr (take l.place l.exprs))

abbrev pub invariant-write_simple-loop-adding : goal.invariant-write_simple-loop-adding
invariant-write_simple-loop-adding l = l.out ≡ write l.initial.out (flat_map (λ y. mark (of_adding y.0) ++ term y.1) (take l.adding-index l.adding-items))

abbrev pub invariant-write_term-loop-multiplying : goal.invariant-write_term-loop-multiplying
invariant-write_term-loop-multiplying l = l.out ≡ write l.initial.out (flat_map (λ y. mark (of_multiplying y.0) ++ factor y.1) (take l.multiplying-index l.multiplying-items))

abbrev pub invariant-write_variable-loop-selector : goal.invariant-write_variable-loop-selector
invariant-write_variable-loop-selector l = l.out ≡ write l.initial.out (flat_map selector (take l.selector-index l.selector-items))
