-- Quiet functions: what an expression calls has no statement of Estelle and no procedure statement (ISO/IEC 9074: functions without side effects).
use Rattle.std.specs.Prelude.{◌≡◌, ℕ, Bool, true, false, ◌&&◌, is_some, List, Option, Some, None, IsTrue}
use Rattle.std.specs.List.{list_all}
use Rattle.estelle_tree.specs.declared.tree.name.Name.{Name}
use Rattle.estelle_tree.specs.declared.tree.expression.Adding.{Adding}
use Rattle.estelle_tree.specs.declared.tree.expression.Multiplying.{Multiplying}
use Rattle.estelle_tree.specs.declared.tree.expression.Relation.{Relation}
use Rattle.estelle_tree.specs.declared.tree.expression.Expr.{Expr}
use Rattle.estelle_tree.specs.declared.tree.expression.Args.{Args}
use Rattle.estelle_tree.specs.declared.tree.expression.Variable.{Variable}
use Rattle.estelle_tree.specs.declared.tree.expression.Factor.TheOpen.{Factor-F, Selector-F, Args-F, Elem-F, Expr-F, Simple-F, Term-F, Variable-F}
use Rattle.estelle_tree.specs.declared.tree.expression.Factor.TheFolds.{fold-Args, fold-Expr, fold-Variable}
use Rattle.estelle_tree.specs.declared.tree.statement.Stmts.{Stmts}
use Rattle.estelle_tree.specs.declared.tree.statement.Stmt.TheOpen.{Stmt-F, Case-F, Stmts-F}
use Rattle.estelle_tree.specs.declared.tree.statement.Stmt.TheFolds.{fold-Stmts}
use Rattle.estelle_tree.specs.declared.tree.clause.DelayHigh.{DelayHigh}
use Rattle.estelle_tree.specs.declared.tree.clause.DelayHigh.TheVariants as high
use Rattle.estelle_model.specs.declared.meaning.Meaning.{Meaning}
use Rattle.estelle_model.specs.declared.meaning.Meaning.TheVariants.{Called}
use Rattle.estelle_model.specs.declared.meaning.Routine.{Routine}
use Rattle.estelle_model.specs.Meant.{Meanings}
use Rattle.estelle_model.specs.Transitions.{Choice, Transition, Delay}
use Rattle.estelle_model.specs.Subject.{Subject, meant_with, transition}

-- the routine is a function
abbrev pub is_function : Routine → Bool
is_function r = is_some r.result

-- it is no procedure
abbrev pub is_no_procedure : Meaning → Bool
is_no_procedure (Called r) = is_function r
is_no_procedure _ = true

-- each of them is so
abbrev pub each_is : List Bool → Bool
each_is = list_all (λ b. b)

-- it is so, if it is there
abbrev pub is_if_there : Option Bool → Bool
is_if_there None = true
is_if_there (Some b) = b

module _ (known : Meanings) where
  -- ---- expressions that name no procedure

  abbrev pub factor_layer : Factor-F Bool Bool Bool Bool Bool Bool Bool Bool → Bool
  factor_layer (Factor-F.Number n span) = true
  factor_layer (Factor-F.Char n span) = true
  factor_layer (Factor-F.Variable v) = v
  factor_layer (Factor-F.Call x args span) = is_no_procedure (known x) && args
  factor_layer (Factor-F.Paren e span) = e
  factor_layer (Factor-F.Not e span) = e
  factor_layer (Factor-F.Set elems span) = each_is elems

  abbrev pub selector_layer : Selector-F Bool Bool Bool Bool Bool Bool Bool Bool → Bool
  selector_layer (Selector-F.Index es) = each_is es
  selector_layer (Selector-F.Field x) = true

  abbrev pub args_layer : Args-F Bool Bool Bool Bool Bool Bool Bool Bool → Bool
  args_layer a = each_is a.exprs

  abbrev pub elem_layer : Elem-F Bool Bool Bool Bool Bool Bool Bool Bool → Bool
  elem_layer m = m.first && is_if_there m.last

  abbrev pub right_side : Option (Relation × Bool) → Bool
  right_side None = true
  right_side (Some r) = r.1

  abbrev pub expr_layer : Expr-F Bool Bool Bool Bool Bool Bool Bool Bool → Bool
  expr_layer e = e.left && right_side e.right

  abbrev pub simple_layer : Simple-F Bool Bool Bool Bool Bool Bool Bool Bool → Bool
  simple_layer e = e.first && list_all (λ (o : Adding × Bool). o.1) e.others

  abbrev pub term_layer : Term-F Bool Bool Bool Bool Bool Bool Bool Bool → Bool
  term_layer e = e.first && list_all (λ (o : Multiplying × Bool). o.1) e.others

  abbrev pub variable_layer : Variable-F Bool Bool Bool Bool Bool Bool Bool Bool → Bool
  variable_layer v = is_no_procedure (known v.name) && each_is v.selectors

  unfoldable pub names_no_procedure : Expr → Bool
  names_no_procedure = fold-Expr Bool Bool Bool Bool Bool Bool Bool Bool factor_layer selector_layer args_layer elem_layer expr_layer simple_layer term_layer variable_layer

  unfoldable pub args_name_no_procedure : Args → Bool
  args_name_no_procedure = fold-Args Bool Bool Bool Bool Bool Bool Bool Bool factor_layer selector_layer args_layer elem_layer expr_layer simple_layer term_layer variable_layer

  unfoldable pub variable_names_no_procedure : Variable → Bool
  variable_names_no_procedure = fold-Variable Bool Bool Bool Bool Bool Bool Bool Bool factor_layer selector_layer args_layer elem_layer expr_layer simple_layer term_layer variable_layer

  -- ---- statements without one of Estelle and without a procedure statement, whose expressions name no procedure

  abbrev pub stmt_layer : Stmt-F Bool Bool Bool → Bool
  stmt_layer Stmt-F.Empty = true
  stmt_layer (Stmt-F.Assign v e span) = variable_names_no_procedure v && names_no_procedure e
  stmt_layer (Stmt-F.Begin body span) = body
  stmt_layer (Stmt-F.If test then_part else_part span) = names_no_procedure test && (then_part && is_if_there else_part)
  stmt_layer (Stmt-F.While test body span) = names_no_procedure test && body
  stmt_layer (Stmt-F.Repeat body test span) = body && names_no_procedure test
  stmt_layer (Stmt-F.Count x first dir last body span) = names_no_procedure first && (names_no_procedure last && body)
  stmt_layer (Stmt-F.Case e cases semicolon span) = names_no_procedure e && each_is cases
  stmt_layer _ = false

  abbrev pub case_layer : Case-F Bool Bool Bool → Bool
  case_layer c = c.body

  abbrev pub stmts_layer : Stmts-F Bool Bool Bool → Bool
  stmts_layer x = each_is x.stmts

  unfoldable pub are_quiet : Stmts → Bool
  are_quiet = fold-Stmts Bool Bool Bool stmt_layer case_layer stmts_layer

  -- ---- clauses

  abbrev pub condition_is_quiet : Option Expr → Bool
  condition_is_quiet None = true
  condition_is_quiet (Some e) = names_no_procedure e

  abbrev pub bound_is_quiet : Option DelayHigh → Bool
  bound_is_quiet None = true
  bound_is_quiet (Some high.Star) = true
  bound_is_quiet (Some (high.Expr e)) = names_no_procedure e

  abbrev pub delay_is_quiet : Option Delay → Bool
  delay_is_quiet None = true
  delay_is_quiet (Some d) = names_no_procedure d.low && bound_is_quiet d.high

-- each function has a quiet body, and what guards evaluate names no procedure
pub record IsQuiet (s : Subject) : Type 0 where
  pub functions : (chosen : List Choice) (x : Name) (r : Routine) → meant_with s chosen x ≡ Called r → IsTrue (is_function r) → IsTrue (are_quiet (meant_with s chosen) r.body)
  pub conditions : (k n : ℕ) (t : Transition) → transition s k n ≡ Some t → IsTrue (condition_is_quiet (meant_with s t.chosen) t.provided)
  pub delays : (k n : ℕ) (t : Transition) → transition s k n ≡ Some t → IsTrue (delay_is_quiet (meant_with s t.chosen) t.delay)
