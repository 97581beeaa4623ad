-- One equation of where rules speak of statements for each type of node.
use Rattle.std.proofs.Common.{◌≡◌, ◌∙◌}
use Rattle.std.specs.List.{flat_map}
use Rattle.estelle_tree.specs.declared.tree.statement.Stmt.{Stmt, out-Stmt, map-Stmt, fold_out-Stmt}
use Rattle.estelle_tree.specs.declared.tree.statement.Stmt.TheFolds.{fold_out-Case, fold_out-Stmts}
use Rattle.estelle_tree.specs.declared.tree.statement.Case.{Case, out-Case}
use Rattle.estelle_tree.specs.declared.tree.statement.Stmts.{Stmts, out-Stmts}
use Rattle.type_rules.specs.Meanings.{Env}
use Rattle.type_rules.specs.Sites.{Sites}
use Rattle.type_rules.specs.StatementSites.{Alternative, stmt_layer, case_layer, stmts_layer, stmt, case_, stmts}
use Rattle.type_rules.proofs.Lists.{chain_map}

pub stmt_is : (env : Env) (x : Stmt) → stmt env x ≡ stmt_layer env (map-Stmt Stmt Case Stmts Sites Alternative Sites (stmt env) (case_ env) (stmts env) (out-Stmt x))
unfolding stmt case_ stmts
stmt_is env x = fold_out-Stmt Sites Alternative Sites (stmt_layer env) case_layer stmts_layer x

pub case_is : (env : Env) (x : Case) → case_ env x ≡ ((out-Case x).labels, stmt env (out-Case x).body)
unfolding stmt case_ stmts
case_is env x = fold_out-Case Sites Alternative Sites (stmt_layer env) case_layer stmts_layer x

pub stmts_is : (env : Env) (x : Stmts) → stmts env x ≡ flat_map (stmt env) (out-Stmts x).stmts
unfolding stmt case_ stmts
stmts_is env x = fold_out-Stmts Sites Alternative Sites (stmt_layer env) case_layer stmts_layer x ∙ chain_map (λ (s : Sites). s) (stmt env) (out-Stmts x).stmts

pub ruleset statements = (stmt_is, case_is, stmts_is)
