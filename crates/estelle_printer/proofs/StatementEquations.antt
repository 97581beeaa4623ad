-- One equation of the tokens for each type of node in statements.
use Rattle.std.proofs.Common.{◌≡◌, ◌++◌, ◌∙◌}
use Rattle.estelle_tree.specs.declared.kind.Kind.TheVariants as k
use Rattle.estelle_tree.specs.declared.tree.statement.Stmt.{Stmt, out-Stmt, map-Stmt, fold_out-Stmt}
use Rattle.estelle_tree.specs.declared.tree.statement.Stmt.TheFolds.{fold_out-Case, fold_out-Stmts}
use Rattle.estelle_tree.specs.declared.tree.statement.Case.{Case, out-Case}
use Rattle.estelle_tree.specs.declared.tree.statement.Stmts.{Stmts, out-Stmts}
use Rattle.estelle_printer.proofs.WritingLemmas.{separated_map}
use Rattle.estelle_printer.specs.Forms.{Tokens, mark, separated}
use Rattle.estelle_printer.specs.TypeTokens.{constant}
use Rattle.estelle_printer.specs.StatementTokens.{stmt_layer, case_layer, stmts_layer, stmt, case_, stmts}

pub stmt_is : (x : Stmt) → stmt x ≡ stmt_layer (map-Stmt Stmt Case Stmts Tokens Tokens Tokens stmt case_ stmts (out-Stmt x))
unfolding stmt case_ stmts
stmt_is x = fold_out-Stmt Tokens Tokens Tokens stmt_layer case_layer stmts_layer x

pub case_is : (x : Case) → case_ x ≡ separated k.Comma constant (out-Case x).labels ++ mark k.Colon ++ stmt (out-Case x).body
unfolding stmt case_ stmts
case_is x = fold_out-Case Tokens Tokens Tokens stmt_layer case_layer stmts_layer x

pub stmts_is : (x : Stmts) → stmts x ≡ separated k.Semicolon stmt (out-Stmts x).stmts
unfolding stmt case_ stmts
stmts_is x = fold_out-Stmts Tokens Tokens Tokens stmt_layer case_layer stmts_layer x ∙ separated_map k.Semicolon stmt (out-Stmts x).stmts

pub ruleset statements = (separated_map, stmt_is, case_is, stmts_is)
