-- What each form of expression means, one layer of the tree at a time: at a tree that is made, and at one that is opened.
use Rattle.std.proofs.Common.{◌≡◌, ℕ, List}
use Rattle.estelle_tree.specs.declared.tree.expression.Factor.{Factor, out-Factor, roll-Factor, map-Factor, fold_out-Factor, fold-roll-Factor}
use Rattle.estelle_tree.specs.declared.tree.expression.Selector.{Selector, out-Selector, roll-Selector}
use Rattle.estelle_tree.specs.declared.tree.expression.Args.{Args, out-Args, roll-Args}
use Rattle.estelle_tree.specs.declared.tree.expression.Elem.{Elem, out-Elem, roll-Elem}
use Rattle.estelle_tree.specs.declared.tree.expression.Expr.{Expr, out-Expr, roll-Expr}
use Rattle.estelle_tree.specs.declared.tree.expression.Simple.{Simple, out-Simple, roll-Simple}
use Rattle.estelle_tree.specs.declared.tree.expression.Term.{Term, out-Term, roll-Term}
use Rattle.estelle_tree.specs.declared.tree.expression.Variable.{Variable, out-Variable, roll-Variable}
use Rattle.estelle_tree.specs.declared.tree.expression.Factor.TheOpen.{Factor-F, Selector-F, Args-F, Elem-F, Expr-F, Simple-F, Term-F, Variable-F}
use Rattle.estelle_tree.specs.declared.tree.expression.Factor.TheFolds.{map-Selector, map-Args, map-Elem, map-Expr, map-Simple, map-Term, map-Variable, fold_out-Selector, fold_out-Args, fold_out-Elem, fold_out-Expr, fold_out-Simple, fold_out-Term, fold_out-Variable, fold-roll-Selector, fold-roll-Args, fold-roll-Elem, fold-roll-Expr, fold-roll-Simple, fold-roll-Term, fold-roll-Variable}
use Rattle.estelle_tree.proofs.ExpressionFolds as kind
use Rattle.estelle_tree.proofs.ExpressionFolds.{Kind, Layer}
use Rattle.estelle_model.specs.States.{Offers}
use Rattle.estelle_model.specs.Steps.{Step}
use Rattle.estelle_model.specs.Meant.{Meanings}
use Rattle.estelle_model.specs.declared.place.Environment.{Environment}
use Rattle.estelle_model.specs.Expressions.{Call, Operand, Selecting, Written, factor_layer, selector_layer, args_layer, elem_layer, expr_layer, simple_layer, term_layer, variable_layer, factor, selector, args, elem, expr, simple, term, variable}

module _ (S : Type 0) where
  -- what each type of node comes to
  abbrev pub Results : Kind → Type 0
  Results kind.selector = Selecting S
  Results kind.args = List (Operand S)
  Results kind.elem = Step S (List ℕ)
  Results kind.variable = Written S
  Results _ = Operand S

module _ (S : Type 0) (on : Offers S) (meant : Meanings) (call : Call S) (here : Environment) where
  abbrev pub layers : (k : Kind) → Layer k (Results S) → Results S k
  layers kind.factor = factor_layer S on meant call here
  layers kind.selector = selector_layer S on meant call here
  layers kind.args = args_layer S on meant call here
  layers kind.elem = elem_layer S on meant call here
  layers kind.expr = expr_layer S on meant call here
  layers kind.simple = simple_layer S on meant call here
  layers kind.term = term_layer S on meant call here
  layers kind.variable = variable_layer S on meant call here

module _ (S : Type 0) (on : Offers S) (meant : Meanings) (call : Call S) (here : Environment) where
  -- one layer
  abbrev pub factor_at : Factor-F Factor Selector Args Elem Expr Simple Term Variable → Operand S
  factor_at l = factor_layer S on meant call here (map-Factor Factor Selector Args Elem Expr Simple Term Variable (Operand S) (Selecting S) (List (Operand S)) (Step S (List ℕ)) (Operand S) (Operand S) (Operand S) (Written S) (factor S on meant call here) (selector S on meant call here) (args S on meant call here) (elem S on meant call here) (expr S on meant call here) (simple S on meant call here) (term S on meant call here) (variable S on meant call here) l)

  pub factor_made : (l : Factor-F Factor Selector Args Elem Expr Simple Term Variable) → factor S on meant call here (roll-Factor l) ≡ factor_at l
  unfolding factor selector args elem expr simple term variable
  factor_made l = fold-roll-Factor (Operand S) (Selecting S) (List (Operand S)) (Step S (List ℕ)) (Operand S) (Operand S) (Operand S) (Written S) (factor_layer S on meant call here) (selector_layer S on meant call here) (args_layer S on meant call here) (elem_layer S on meant call here) (expr_layer S on meant call here) (simple_layer S on meant call here) (term_layer S on meant call here) (variable_layer S on meant call here) l

  pub factor_opened : (x : Factor) → factor S on meant call here x ≡ factor_at (out-Factor x)
  unfolding factor selector args elem expr simple term variable
  factor_opened x = fold_out-Factor (Operand S) (Selecting S) (List (Operand S)) (Step S (List ℕ)) (Operand S) (Operand S) (Operand S) (Written S) (factor_layer S on meant call here) (selector_layer S on meant call here) (args_layer S on meant call here) (elem_layer S on meant call here) (expr_layer S on meant call here) (simple_layer S on meant call here) (term_layer S on meant call here) (variable_layer S on meant call here) x

  -- one layer
  abbrev pub selector_at : Selector-F Factor Selector Args Elem Expr Simple Term Variable → Selecting S
  selector_at l = selector_layer S on meant call here (map-Selector Factor Selector Args Elem Expr Simple Term Variable (Operand S) (Selecting S) (List (Operand S)) (Step S (List ℕ)) (Operand S) (Operand S) (Operand S) (Written S) (factor S on meant call here) (selector S on meant call here) (args S on meant call here) (elem S on meant call here) (expr S on meant call here) (simple S on meant call here) (term S on meant call here) (variable S on meant call here) l)

  pub selector_made : (l : Selector-F Factor Selector Args Elem Expr Simple Term Variable) → selector S on meant call here (roll-Selector l) ≡ selector_at l
  unfolding factor selector args elem expr simple term variable
  selector_made l = fold-roll-Selector (Operand S) (Selecting S) (List (Operand S)) (Step S (List ℕ)) (Operand S) (Operand S) (Operand S) (Written S) (factor_layer S on meant call here) (selector_layer S on meant call here) (args_layer S on meant call here) (elem_layer S on meant call here) (expr_layer S on meant call here) (simple_layer S on meant call here) (term_layer S on meant call here) (variable_layer S on meant call here) l

  pub selector_opened : (x : Selector) → selector S on meant call here x ≡ selector_at (out-Selector x)
  unfolding factor selector args elem expr simple term variable
  selector_opened x = fold_out-Selector (Operand S) (Selecting S) (List (Operand S)) (Step S (List ℕ)) (Operand S) (Operand S) (Operand S) (Written S) (factor_layer S on meant call here) (selector_layer S on meant call here) (args_layer S on meant call here) (elem_layer S on meant call here) (expr_layer S on meant call here) (simple_layer S on meant call here) (term_layer S on meant call here) (variable_layer S on meant call here) x

  -- one layer
  abbrev pub args_at : Args-F Factor Selector Args Elem Expr Simple Term Variable → List (Operand S)
  args_at l = args_layer S on meant call here (map-Args Factor Selector Args Elem Expr Simple Term Variable (Operand S) (Selecting S) (List (Operand S)) (Step S (List ℕ)) (Operand S) (Operand S) (Operand S) (Written S) (factor S on meant call here) (selector S on meant call here) (args S on meant call here) (elem S on meant call here) (expr S on meant call here) (simple S on meant call here) (term S on meant call here) (variable S on meant call here) l)

  pub args_made : (l : Args-F Factor Selector Args Elem Expr Simple Term Variable) → args S on meant call here (roll-Args l) ≡ args_at l
  unfolding factor selector args elem expr simple term variable
  args_made l = fold-roll-Args (Operand S) (Selecting S) (List (Operand S)) (Step S (List ℕ)) (Operand S) (Operand S) (Operand S) (Written S) (factor_layer S on meant call here) (selector_layer S on meant call here) (args_layer S on meant call here) (elem_layer S on meant call here) (expr_layer S on meant call here) (simple_layer S on meant call here) (term_layer S on meant call here) (variable_layer S on meant call here) l

  pub args_opened : (x : Args) → args S on meant call here x ≡ args_at (out-Args x)
  unfolding factor selector args elem expr simple term variable
  args_opened x = fold_out-Args (Operand S) (Selecting S) (List (Operand S)) (Step S (List ℕ)) (Operand S) (Operand S) (Operand S) (Written S) (factor_layer S on meant call here) (selector_layer S on meant call here) (args_layer S on meant call here) (elem_layer S on meant call here) (expr_layer S on meant call here) (simple_layer S on meant call here) (term_layer S on meant call here) (variable_layer S on meant call here) x

  -- one layer
  abbrev pub elem_at : Elem-F Factor Selector Args Elem Expr Simple Term Variable → Step S (List ℕ)
  elem_at l = elem_layer S on meant call here (map-Elem Factor Selector Args Elem Expr Simple Term Variable (Operand S) (Selecting S) (List (Operand S)) (Step S (List ℕ)) (Operand S) (Operand S) (Operand S) (Written S) (factor S on meant call here) (selector S on meant call here) (args S on meant call here) (elem S on meant call here) (expr S on meant call here) (simple S on meant call here) (term S on meant call here) (variable S on meant call here) l)

  pub elem_made : (l : Elem-F Factor Selector Args Elem Expr Simple Term Variable) → elem S on meant call here (roll-Elem l) ≡ elem_at l
  unfolding factor selector args elem expr simple term variable
  elem_made l = fold-roll-Elem (Operand S) (Selecting S) (List (Operand S)) (Step S (List ℕ)) (Operand S) (Operand S) (Operand S) (Written S) (factor_layer S on meant call here) (selector_layer S on meant call here) (args_layer S on meant call here) (elem_layer S on meant call here) (expr_layer S on meant call here) (simple_layer S on meant call here) (term_layer S on meant call here) (variable_layer S on meant call here) l

  pub elem_opened : (x : Elem) → elem S on meant call here x ≡ elem_at (out-Elem x)
  unfolding factor selector args elem expr simple term variable
  elem_opened x = fold_out-Elem (Operand S) (Selecting S) (List (Operand S)) (Step S (List ℕ)) (Operand S) (Operand S) (Operand S) (Written S) (factor_layer S on meant call here) (selector_layer S on meant call here) (args_layer S on meant call here) (elem_layer S on meant call here) (expr_layer S on meant call here) (simple_layer S on meant call here) (term_layer S on meant call here) (variable_layer S on meant call here) x

  -- one layer
  abbrev pub expr_at : Expr-F Factor Selector Args Elem Expr Simple Term Variable → Operand S
  expr_at l = expr_layer S on meant call here (map-Expr Factor Selector Args Elem Expr Simple Term Variable (Operand S) (Selecting S) (List (Operand S)) (Step S (List ℕ)) (Operand S) (Operand S) (Operand S) (Written S) (factor S on meant call here) (selector S on meant call here) (args S on meant call here) (elem S on meant call here) (expr S on meant call here) (simple S on meant call here) (term S on meant call here) (variable S on meant call here) l)

  pub expr_made : (l : Expr-F Factor Selector Args Elem Expr Simple Term Variable) → expr S on meant call here (roll-Expr l) ≡ expr_at l
  unfolding factor selector args elem expr simple term variable
  expr_made l = fold-roll-Expr (Operand S) (Selecting S) (List (Operand S)) (Step S (List ℕ)) (Operand S) (Operand S) (Operand S) (Written S) (factor_layer S on meant call here) (selector_layer S on meant call here) (args_layer S on meant call here) (elem_layer S on meant call here) (expr_layer S on meant call here) (simple_layer S on meant call here) (term_layer S on meant call here) (variable_layer S on meant call here) l

  pub expr_opened : (x : Expr) → expr S on meant call here x ≡ expr_at (out-Expr x)
  unfolding factor selector args elem expr simple term variable
  expr_opened x = fold_out-Expr (Operand S) (Selecting S) (List (Operand S)) (Step S (List ℕ)) (Operand S) (Operand S) (Operand S) (Written S) (factor_layer S on meant call here) (selector_layer S on meant call here) (args_layer S on meant call here) (elem_layer S on meant call here) (expr_layer S on meant call here) (simple_layer S on meant call here) (term_layer S on meant call here) (variable_layer S on meant call here) x

  -- one layer
  abbrev pub simple_at : Simple-F Factor Selector Args Elem Expr Simple Term Variable → Operand S
  simple_at l = simple_layer S on meant call here (map-Simple Factor Selector Args Elem Expr Simple Term Variable (Operand S) (Selecting S) (List (Operand S)) (Step S (List ℕ)) (Operand S) (Operand S) (Operand S) (Written S) (factor S on meant call here) (selector S on meant call here) (args S on meant call here) (elem S on meant call here) (expr S on meant call here) (simple S on meant call here) (term S on meant call here) (variable S on meant call here) l)

  pub simple_made : (l : Simple-F Factor Selector Args Elem Expr Simple Term Variable) → simple S on meant call here (roll-Simple l) ≡ simple_at l
  unfolding factor selector args elem expr simple term variable
  simple_made l = fold-roll-Simple (Operand S) (Selecting S) (List (Operand S)) (Step S (List ℕ)) (Operand S) (Operand S) (Operand S) (Written S) (factor_layer S on meant call here) (selector_layer S on meant call here) (args_layer S on meant call here) (elem_layer S on meant call here) (expr_layer S on meant call here) (simple_layer S on meant call here) (term_layer S on meant call here) (variable_layer S on meant call here) l

  pub simple_opened : (x : Simple) → simple S on meant call here x ≡ simple_at (out-Simple x)
  unfolding factor selector args elem expr simple term variable
  simple_opened x = fold_out-Simple (Operand S) (Selecting S) (List (Operand S)) (Step S (List ℕ)) (Operand S) (Operand S) (Operand S) (Written S) (factor_layer S on meant call here) (selector_layer S on meant call here) (args_layer S on meant call here) (elem_layer S on meant call here) (expr_layer S on meant call here) (simple_layer S on meant call here) (term_layer S on meant call here) (variable_layer S on meant call here) x

  -- one layer
  abbrev pub term_at : Term-F Factor Selector Args Elem Expr Simple Term Variable → Operand S
  term_at l = term_layer S on meant call here (map-Term Factor Selector Args Elem Expr Simple Term Variable (Operand S) (Selecting S) (List (Operand S)) (Step S (List ℕ)) (Operand S) (Operand S) (Operand S) (Written S) (factor S on meant call here) (selector S on meant call here) (args S on meant call here) (elem S on meant call here) (expr S on meant call here) (simple S on meant call here) (term S on meant call here) (variable S on meant call here) l)

  pub term_made : (l : Term-F Factor Selector Args Elem Expr Simple Term Variable) → term S on meant call here (roll-Term l) ≡ term_at l
  unfolding factor selector args elem expr simple term variable
  term_made l = fold-roll-Term (Operand S) (Selecting S) (List (Operand S)) (Step S (List ℕ)) (Operand S) (Operand S) (Operand S) (Written S) (factor_layer S on meant call here) (selector_layer S on meant call here) (args_layer S on meant call here) (elem_layer S on meant call here) (expr_layer S on meant call here) (simple_layer S on meant call here) (term_layer S on meant call here) (variable_layer S on meant call here) l

  pub term_opened : (x : Term) → term S on meant call here x ≡ term_at (out-Term x)
  unfolding factor selector args elem expr simple term variable
  term_opened x = fold_out-Term (Operand S) (Selecting S) (List (Operand S)) (Step S (List ℕ)) (Operand S) (Operand S) (Operand S) (Written S) (factor_layer S on meant call here) (selector_layer S on meant call here) (args_layer S on meant call here) (elem_layer S on meant call here) (expr_layer S on meant call here) (simple_layer S on meant call here) (term_layer S on meant call here) (variable_layer S on meant call here) x

  -- one layer
  abbrev pub variable_at : Variable-F Factor Selector Args Elem Expr Simple Term Variable → Written S
  variable_at l = variable_layer S on meant call here (map-Variable Factor Selector Args Elem Expr Simple Term Variable (Operand S) (Selecting S) (List (Operand S)) (Step S (List ℕ)) (Operand S) (Operand S) (Operand S) (Written S) (factor S on meant call here) (selector S on meant call here) (args S on meant call here) (elem S on meant call here) (expr S on meant call here) (simple S on meant call here) (term S on meant call here) (variable S on meant call here) l)

  pub variable_made : (l : Variable-F Factor Selector Args Elem Expr Simple Term Variable) → variable S on meant call here (roll-Variable l) ≡ variable_at l
  unfolding factor selector args elem expr simple term variable
  variable_made l = fold-roll-Variable (Operand S) (Selecting S) (List (Operand S)) (Step S (List ℕ)) (Operand S) (Operand S) (Operand S) (Written S) (factor_layer S on meant call here) (selector_layer S on meant call here) (args_layer S on meant call here) (elem_layer S on meant call here) (expr_layer S on meant call here) (simple_layer S on meant call here) (term_layer S on meant call here) (variable_layer S on meant call here) l

  pub variable_opened : (x : Variable) → variable S on meant call here x ≡ variable_at (out-Variable x)
  unfolding factor selector args elem expr simple term variable
  variable_opened x = fold_out-Variable (Operand S) (Selecting S) (List (Operand S)) (Step S (List ℕ)) (Operand S) (Operand S) (Operand S) (Written S) (factor_layer S on meant call here) (selector_layer S on meant call here) (args_layer S on meant call here) (elem_layer S on meant call here) (expr_layer S on meant call here) (simple_layer S on meant call here) (term_layer S on meant call here) (variable_layer S on meant call here) x
