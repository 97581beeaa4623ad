-- What the trees of the examples mean, one equation for each form.
use Rattle.std.proofs.Common.{◌≡◌, ℕ, false, List, [], map, ℤ, Some, None, ap, ◌∙◌}
use Rattle.pascal_values.specs.declared.value.Value.{Value}
use Rattle.pascal_values.specs.declared.value.Value.TheVariants as pascal
use Rattle.estelle_tree.specs.declared.tree.type_expr.Sign.TheVariants as sign
use Rattle.estelle_tree.specs.declared.tree.expression.Relation.{Relation}
use Rattle.estelle_tree.specs.declared.tree.expression.Adding.{Adding}
use Rattle.estelle_tree.specs.declared.tree.expression.Multiplying.{Multiplying}
use Rattle.estelle_tree.specs.declared.tree.expression.Factor.{Factor}
use Rattle.estelle_tree.specs.declared.tree.expression.Factor.TheOpen.{Factor-F, Selector-F}
use Rattle.estelle_tree.specs.declared.tree.expression.Elem.{Elem}
use Rattle.estelle_tree.specs.declared.tree.expression.Expr.{Expr}
use Rattle.estelle_tree.specs.declared.tree.expression.Selector.{Selector}
use Rattle.estelle_tree.specs.declared.tree.statement.Direction.{Direction}
use Rattle.estelle_tree.specs.declared.tree.statement.Stmt.{Stmt}
use Rattle.estelle_tree.specs.declared.tree.statement.Stmt.TheOpen.{Stmt-F}
use Rattle.estelle_tree.specs.declared.tree.statement.Case.{Case}
use Rattle.estelle_model.specs.declared.denoter.Host.TheVariants as host
use Rattle.estelle_model.specs.Operators.{signed, related}
use Rattle.estelle_model.specs.States.{Offers}
use Rattle.estelle_model.specs.Steps.{Step, Do, ◌>>=◌, pure, checked, all}
use Rattle.estelle_model.specs.Meant.{Meanings}
use Rattle.estelle_model.specs.declared.place.Environment.{Environment}
use Rattle.estelle_model.specs.Expressions.{Call, Operand, Written, computed, multiplied, multiplied_host, added, added_host, both, valued, designated, assigned, accessed, indexed, bool_step, selector_step, member_step, set_step, expr, args, elem, term, factor, variable, selector, target}
use Rattle.estelle_model.specs.Loops.{while_loop}
use Rattle.estelle_model.specs.Statements.{Acts, assign_to, invoke_of, count_over, chosen, stmt, branch, stmts, assign, invoke, count, select}
use Rattle.estelle_model.proofs.ExpressionEquations.{factor_made, selector_made, args_made, elem_made, expr_made, simple_made, term_made, variable_made}
use Rattle.estelle_model.proofs.StatementEquations.{stmt_made, stmts_made}
use Rattle.estelle_model.proofs.Trees as tree

module _ (S : Type 0) (on : Offers S) (meant : Meanings) (call : Call S) (here : Environment) where
  abbrev pub mean : Expr → Operand S
  mean e = expr S on meant call here e

  abbrev pub mean_factor : Factor → Operand S
  mean_factor f = factor S on meant call here f

  pub number_is : (n : ℤ) → mean_factor (tree.number n) ≡ computed host.Integer (pure (pascal.Int n))
  number_is n = factor_made S on meant call here (Factor-F.Number n tree.nowhere)

  pub parenthesised_is : (e : Expr) → mean_factor (tree.parenthesised e) ≡ computed (mean e).host (mean e).value
  parenthesised_is e = factor_made S on meant call here (Factor-F.Paren e tree.nowhere)

  pub written_is : (x : ℕ) (ss : List Selector) → variable S on meant call here (tree.access x ss) ≡ record { name = tree.name x; selectors = map (selector S on meant call here) ss }
  written_is x ss = variable_made S on meant call here (record { name = tree.name x; selectors = ss; span = tree.nowhere })

  pub access_is : (x : ℕ) (ss : List Selector) → mean_factor (tree.accessing x ss) ≡ valued S on meant call here (meant (tree.name x)) (map (selector S on meant call here) ss)
  access_is x ss = factor_made S on meant call here (Factor-F.Variable (tree.access x ss)) ∙ ap (λ (w : Written S). valued S on meant call here (meant w.name) w.selectors) (written_is x ss)

  pub target_is : (x : ℕ) (ss : List Selector) → target S on meant call here (tree.access x ss) ≡ assigned S on meant call here (meant (tree.name x)) (map (selector S on meant call here) ss)
  unfolding target
  target_is x ss = ap (λ (w : Written S). assigned S on meant call here (meant w.name) w.selectors) (written_is x ss)

  pub index_is : (es : List Expr) → selector S on meant call here (tree.index es) ≡ record { over = indexed S on meant call here (map mean es); name = None }
  index_is es = selector_made S on meant call here (Selector-F.Index es)

  pub arguments_are : (es : List Expr) → args S on meant call here (tree.arguments es) ≡ map mean es
  arguments_are es = args_made S on meant call here (record { exprs = es; span = tree.nowhere })

  pub call_is : (f : ℕ) (es : List Expr) → mean_factor (tree.call_with f es) ≡ designated S on meant call here (meant (tree.name f)) (map mean es)
  call_is f es = factor_made S on meant call here (Factor-F.Call (tree.name f) (tree.arguments es) tree.nowhere) ∙ ap (λ (os : List (Operand S)). designated S on meant call here (meant (tree.name f)) os) (arguments_are es)

  pub term_is : (f : Factor) → term S on meant call here (tree.term f []) ≡ mean_factor f
  term_is f = term_made S on meant call here (record { first = f; others = []; span = tree.nowhere })

  pub alone_is : (f : Factor) → mean (tree.alone f) ≡ mean_factor f
  alone_is f = simp (expr_made, simple_made, term_made)

  pub product_is : (f : Factor) (op : Multiplying) (g : Factor) → mean (tree.product f op g) ≡ computed (multiplied_host op) (multiplied op (mean_factor f).value (mean_factor g).value)
  product_is f op g = simp (expr_made, simple_made, term_made)

  pub sum_is : (f : Factor) (op : Adding) (g : Factor) → mean (tree.sum f op g) ≡ computed (added_host op) (added op (mean_factor f).value (mean_factor g).value)
  sum_is f op g = simp (expr_made, simple_made, term_made)

  pub relation_is : (f : Factor) (op : Relation) (g : Factor) → mean (tree.relation f op g) ≡ computed host.Boolean (both (related op) (mean_factor f).value (mean_factor g).value)
  relation_is f op g = simp (expr_made, simple_made, term_made)

  -- a sign applies to the whole first term
  pub minus_is : (f : Factor) (op : Multiplying) (g : Factor) → mean (tree.signed_product sign.Minus f op g) ≡ computed host.Integer (multiplied op (mean_factor f).value (mean_factor g).value >>= λ v. checked (signed sign.Minus v))
  minus_is f op g = simp (expr_made, simple_made, term_made)

  pub minus_alone_is : (f : Factor) → mean (tree.signed_alone sign.Minus f) ≡ computed host.Integer ((mean_factor f).value >>= λ v. checked (signed sign.Minus v))
  minus_alone_is f = simp (expr_made, simple_made, term_made)

  pub range_is : (a b : Expr) → elem S on meant call here (tree.member a (Some b)) ≡ member_step (mean a) (Some (mean b))
  range_is a b = elem_made S on meant call here (record { first = a; last = Some b; span = tree.nowhere })

  pub member_is : (a : Expr) → elem S on meant call here (tree.member a None) ≡ member_step (mean a) None
  member_is a = elem_made S on meant call here (record { first = a; last = None; span = tree.nowhere })

  pub set_is : (es : List Elem) → mean_factor (tree.set_of es) ≡ computed host.Integer (set_step [] (map (elem S on meant call here) es))
  set_is es = factor_made S on meant call here (Factor-F.Set es tree.nowhere)

module _ (S : Type 0) (on : Offers S) (meant : Meanings) (act : Acts S) (call : Call S) (here : Environment) where
  abbrev pub run : Stmt → Do S
  run p = stmt S on meant act call here p

  abbrev pub value_of : Expr → Step S Value
  value_of e = (expr S on meant call here e).value

  pub empty_is : run tree.empty ≡ pure tt
  empty_is = stmt_made S on meant act call here Stmt-F.Empty

  pub assignment_is : (x : ℕ) (ss : List Selector) (e : Expr) → run (tree.assignment (tree.access x ss) e) ≡ assign_to S on meant act call here (assigned S on meant call here (meant (tree.name x)) (map (selector S on meant call here) ss)) (value_of e)
  unfolding assign
  assignment_is x ss e = stmt_made S on meant act call here (Stmt-F.Assign (tree.access x ss) e tree.nowhere) ∙ ap (λ t. assign_to S on meant act call here t (value_of e)) (target_is S on meant call here x ss)

  pub call_statement_is : (p : ℕ) (es : List Expr) → run (tree.procedure_call p es) ≡ invoke_of S on meant act call here (meant (tree.name p)) (map (mean S on meant call here) es)
  unfolding invoke
  call_statement_is p es = stmt_made S on meant act call here (Stmt-F.Call (tree.name p) (Some (tree.arguments es)) tree.nowhere) ∙ ap (λ (os : List (Operand S)). invoke_of S on meant act call here (meant (tree.name p)) os) (arguments_are S on meant call here es)

  pub plain_call_is : (p : ℕ) → run (tree.plain_call p) ≡ invoke_of S on meant act call here (meant (tree.name p)) []
  unfolding invoke
  plain_call_is p = stmt_made S on meant act call here (Stmt-F.Call (tree.name p) None tree.nowhere)

  pub while_is : (e : Expr) (p : Stmt) → run (tree.while e p) ≡ while_loop (bool_step (value_of e)) (run p)
  while_is e p = stmt_made S on meant act call here (Stmt-F.While e p tree.nowhere)

  pub for_is : (x : ℕ) (first : Expr) (dir : Direction) (last : Expr) (p : Stmt) → run (tree.for x first dir last p) ≡ count_over S on meant act call here (accessed S on meant call here (meant (tree.name x)) []) (value_of first) dir (value_of last) (run p)
  unfolding count
  for_is x first dir last p = stmt_made S on meant act call here (Stmt-F.Count (tree.name x) first dir last p tree.nowhere)

  pub case_is : (e : Expr) (cases : List Case) → run (tree.case_of e cases) ≡ (selector_step (value_of e) >>= λ n. chosen meant n (map (branch S on meant act call here) cases))
  unfolding select
  case_is e cases = stmt_made S on meant act call here (Stmt-F.Case e cases false tree.nowhere)

  pub sequence_is : (ps : List Stmt) → stmts S on meant act call here (tree.sequence ps) ≡ all (map run ps)
  sequence_is ps = stmts_made S on meant act call here (record { stmts = ps; span = tree.nowhere })
