-- What each form of statement means, one layer of the tree at a time: at a tree that is made, and at one that is opened.
use Rattle.std.proofs.Common.{◌≡◌, List}
use Rattle.estelle_tree.specs.declared.tree.type_expr.Const.{Const}
use Rattle.estelle_tree.specs.declared.tree.statement.Stmt.{Stmt, out-Stmt, roll-Stmt, map-Stmt, fold_out-Stmt, fold-roll-Stmt}
use Rattle.estelle_tree.specs.declared.tree.statement.Case.{Case, out-Case, roll-Case}
use Rattle.estelle_tree.specs.declared.tree.statement.Stmts.{Stmts, out-Stmts, roll-Stmts}
use Rattle.estelle_tree.specs.declared.tree.statement.Stmt.TheOpen.{Stmt-F, Case-F, Stmts-F}
use Rattle.estelle_tree.specs.declared.tree.statement.Stmt.TheFolds.{map-Case, map-Stmts, fold_out-Case, fold_out-Stmts, fold-roll-Case, fold-roll-Stmts}
use Rattle.estelle_tree.proofs.StatementFolds as kind
use Rattle.estelle_tree.proofs.StatementFolds.{Kind, Layer}
use Rattle.estelle_model.specs.States.{Offers}
use Rattle.estelle_model.specs.Steps.{Do}
use Rattle.estelle_model.specs.Meant.{Meanings}
use Rattle.estelle_model.specs.declared.place.Environment.{Environment}
use Rattle.estelle_model.specs.Expressions.{Call}
use Rattle.estelle_model.specs.Statements.{Acts, stmt_layer, case_layer, stmts_layer, stmt, branch, stmts}

module _ (S : Type 0) where
  -- what each type of node comes to
  abbrev pub Results : Kind → Type 0
  Results kind.stmt = Do S
  Results kind.branch = List Const × Do S
  Results kind.stmts = Do S

module _ (S : Type 0) (on : Offers S) (meant : Meanings) (act : Acts S) (call : Call S) (here : Environment) where
  abbrev pub layers : (k : Kind) → Layer k (Results S) → Results S k
  layers kind.stmt = stmt_layer S on meant act call here
  layers kind.branch = case_layer S on meant act call here
  layers kind.stmts = stmts_layer S on meant act call here

module _ (S : Type 0) (on : Offers S) (meant : Meanings) (act : Acts S) (call : Call S) (here : Environment) where
  -- one layer
  abbrev pub stmt_at : Stmt-F Stmt Case Stmts → Do S
  stmt_at l = stmt_layer S on meant act call here (map-Stmt Stmt Case Stmts (Do S) (List Const × Do S) (Do S) (stmt S on meant act call here) (branch S on meant act call here) (stmts S on meant act call here) l)

  pub stmt_made : (l : Stmt-F Stmt Case Stmts) → stmt S on meant act call here (roll-Stmt l) ≡ stmt_at l
  unfolding stmt branch stmts
  stmt_made l = fold-roll-Stmt (Do S) (List Const × Do S) (Do S) (stmt_layer S on meant act call here) (case_layer S on meant act call here) (stmts_layer S on meant act call here) l

  pub stmt_opened : (x : Stmt) → stmt S on meant act call here x ≡ stmt_at (out-Stmt x)
  unfolding stmt branch stmts
  stmt_opened x = fold_out-Stmt (Do S) (List Const × Do S) (Do S) (stmt_layer S on meant act call here) (case_layer S on meant act call here) (stmts_layer S on meant act call here) x

  -- one layer
  abbrev pub branch_at : Case-F Stmt Case Stmts → List Const × Do S
  branch_at l = case_layer S on meant act call here (map-Case Stmt Case Stmts (Do S) (List Const × Do S) (Do S) (stmt S on meant act call here) (branch S on meant act call here) (stmts S on meant act call here) l)

  pub branch_made : (l : Case-F Stmt Case Stmts) → branch S on meant act call here (roll-Case l) ≡ branch_at l
  unfolding stmt branch stmts
  branch_made l = fold-roll-Case (Do S) (List Const × Do S) (Do S) (stmt_layer S on meant act call here) (case_layer S on meant act call here) (stmts_layer S on meant act call here) l

  pub branch_opened : (x : Case) → branch S on meant act call here x ≡ branch_at (out-Case x)
  unfolding stmt branch stmts
  branch_opened x = fold_out-Case (Do S) (List Const × Do S) (Do S) (stmt_layer S on meant act call here) (case_layer S on meant act call here) (stmts_layer S on meant act call here) x

  -- one layer
  abbrev pub stmts_at : Stmts-F Stmt Case Stmts → Do S
  stmts_at l = stmts_layer S on meant act call here (map-Stmts Stmt Case Stmts (Do S) (List Const × Do S) (Do S) (stmt S on meant act call here) (branch S on meant act call here) (stmts S on meant act call here) l)

  pub stmts_made : (l : Stmts-F Stmt Case Stmts) → stmts S on meant act call here (roll-Stmts l) ≡ stmts_at l
  unfolding stmt branch stmts
  stmts_made l = fold-roll-Stmts (Do S) (List Const × Do S) (Do S) (stmt_layer S on meant act call here) (case_layer S on meant act call here) (stmts_layer S on meant act call here) l

  pub stmts_opened : (x : Stmts) → stmts S on meant act call here x ≡ stmts_at (out-Stmts x)
  unfolding stmt branch stmts
  stmts_opened x = fold_out-Stmts (Do S) (List Const × Do S) (Do S) (stmt_layer S on meant act call here) (case_layer S on meant act call here) (stmts_layer S on meant act call here) x
