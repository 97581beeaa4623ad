-- Blocks and clauses step by step.
use Rattle.std.proofs.Common.{◌≡◌, ◌∙◌, List, [], refl, sym, subst}
use Rattle.pascal_values.specs.declared.value.Value.{Value}
use Rattle.estelle_tree.specs.declared.tree.expression.Expr.{Expr}
use Rattle.estelle_tree.specs.Paths.{Path}
use Rattle.estelle_model.specs.States.{Logged, on_log}
use Rattle.estelle_model.specs.Steps.{◌>>◌, pure}
use Rattle.estelle_model.specs.declared.meaning.Routine.{Routine}
use Rattle.estelle_model.specs.declared.place.Place.{Place}
use Rattle.estelle_model.specs.declared.place.Environment.{Environment}
use Rattle.estelle_model.specs.Blocks.{block_step, clause_value}
use Rattle.body_walker_blocks.specs.Scopes.{Scoped, meanings}
use Rattle.body_walker_blocks.specs.Walked.{actions, entering, calling, expr, within}
use Rattle.body_walker_blocks.proofs.Plans.{Plan, First, Last, Finish, Is}

-- where a block begins
abbrev pub outermost : Path → List Place → Environment
outermost p places = record { path = p; frame = 0; references = places }

module _ (t : Scoped) where
  abbrev pub block_plan : Path → List Place → Routine → List Value → Plan (Unit {0})
  block_plan p places r vs = First (within t (outermost p places) r vs) (λ v. Finish tt)

  block_alone : (p : Path) (r : Routine) (vs : List Value) → block_step Logged on_log (meanings t) (actions t) p r vs ≡ (within t (outermost p []) r vs >> pure tt)
  unfolding block_step within entering
  block_alone p r vs = refl

  -- a block, at a copy of its path, and of the same names and bodies
  pub block_steps : {p q : Path} {places : List Place} (u : Scoped) (r : Routine) (vs : List Value) → t ≡ u → q ≡ p → places ≡ [] → Is (block_step Logged on_log (meanings u) (actions u) p r vs) (block_plan q places r vs)
  block_steps {p} {q} {places} u r vs same e f =
      subst (λ (w : Scoped). Is (block_step Logged on_log (meanings w) (actions w) p r vs) (block_plan q places r vs)) same
      (subst (λ (x : Path). Is (block_step Logged on_log (meanings t) (actions t) p r vs) (block_plan x places r vs)) (sym e)
      (subst (λ (xs : List Place). Is (block_step Logged on_log (meanings t) (actions t) p r vs) (block_plan p xs r vs)) (sym f)
      (record { is = block_alone p r vs })))

  clause_alone : (p : Path) (x : Expr) → clause_value Logged on_log (meanings t) (actions t) p x ≡ (expr t (outermost p []) x).value
  unfolding clause_value expr calling entering
  clause_alone p x = refl

  -- an expression in a clause
  pub clause_steps : {p q : Path} {places : List Place} (u : Scoped) (x : Expr) → t ≡ u → q ≡ p → places ≡ [] → Is (clause_value Logged on_log (meanings u) (actions u) p x) (Last (expr t (outermost q places) x).value)
  clause_steps {p} {q} {places} u x same e f =
      subst (λ (w : Scoped). Is (clause_value Logged on_log (meanings w) (actions w) p x) (Last (expr t (outermost q places) x).value)) same
      (subst (λ (y : Path). Is (clause_value Logged on_log (meanings t) (actions t) p x) (Last (expr t (outermost y places) x).value)) (sym e)
      (subst (λ (ys : List Place). Is (clause_value Logged on_log (meanings t) (actions t) p x) (Last (expr t (outermost p ys) x).value)) (sym f)
      (record { is = clause_alone p x })))
