-- One equation of the events for each type of node in statements.
use Rattle.std.proofs.Common.{◌≡◌, ◌++◌, ◌∙◌}
use Rattle.std.specs.List.{flat_map}
use Rattle.estelle_tree.specs.declared.tree.statement.Stmt.{Stmt, out-Stmt, map-Stmt, fold_out-Stmt}
use Rattle.estelle_tree.specs.declared.tree.statement.Stmt.TheFolds.{fold_out-Case, fold_out-Stmts}
use Rattle.estelle_tree.specs.declared.tree.statement.Case.{Case, out-Case}
use Rattle.estelle_tree.specs.declared.tree.statement.Stmts.{Stmts, out-Stmts}
use Rattle.scope_rules.specs.TypeEvents.{Events, const_events}
use Rattle.scope_rules.specs.StatementEvents.{stmt_layer, case_layer, stmts_layer, stmt, case_, stmts}
use Rattle.scope_names_events.proofs.WritingLemmas.{chain_map}

pub stmt_is : (x : Stmt) → stmt x ≡ stmt_layer (map-Stmt Stmt Case Stmts Events Events Events stmt case_ stmts (out-Stmt x))
unfolding stmt case_ stmts
stmt_is x = fold_out-Stmt Events Events Events stmt_layer case_layer stmts_layer x

pub case_is : (x : Case) → case_ x ≡ flat_map const_events (out-Case x).labels ++ stmt (out-Case x).body
unfolding stmt case_ stmts
case_is x = fold_out-Case Events Events Events stmt_layer case_layer stmts_layer x

pub stmts_is : (x : Stmts) → stmts x ≡ flat_map stmt (out-Stmts x).stmts
unfolding stmt case_ stmts
stmts_is x = fold_out-Stmts Events Events Events stmt_layer case_layer stmts_layer x ∙ chain_map (λ (es : Events). es) stmt (out-Stmts x).stmts

pub ruleset statements = (stmt_is, case_is, stmts_is, chain_map)
