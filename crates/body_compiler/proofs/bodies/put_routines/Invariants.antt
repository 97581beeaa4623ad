use Rattle.std.proofs.Common.{◌≡◌, ℕ, ◌<◌, Some}
use Rattle.std.specs.Prelude.{map, slice_get}
use Rattle.estelle_tree.specs.declared.tree.declaration.Routine.{Routine as RoutineTree}
use Rattle.body_compiler.specs.Whole.{Comes, HasRoutine}
use Rattle.body_compiler.proofs.bodies.put_routines.Given as goal

abbrev pub invariant-loop-tree : goal.invariant-loop-tree
invariant-loop-tree l = record {
  counted : l.number ≡ l.tree-index;
  comes : Comes l.initial.units l.units l.body 0 l.number;
  has : (k : ℕ) → k < l.tree-index → (tree : RoutineTree) → slice_get (map (λ r. r.now) l.trees) k ≡ Some tree → HasRoutine l.numbering l.units l.body k tree;
}
