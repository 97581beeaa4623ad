-- Statements without their spans.
use Rattle.std.specs.Prelude.{map}
use Rattle.std.specs.Option.{option_map}
use Rattle.estelle_tree.specs.declared.tree.statement.Ip.{Ip}
use Rattle.estelle_tree.specs.declared.tree.statement.Stmt.{Stmt, roll-Stmt, fold-Stmt}
use Rattle.estelle_tree.specs.declared.tree.statement.Stmt.TheOpen.{Stmt-F, Case-F, Stmts-F}
use Rattle.estelle_tree.specs.declared.tree.statement.Stmt.TheFolds.{fold-Case, fold-Stmts}
use Rattle.estelle_tree.specs.declared.tree.statement.Case.{Case, roll-Case}
use Rattle.estelle_tree.specs.declared.tree.statement.Stmts.{Stmts, roll-Stmts}
use Rattle.estelle_tree.specs.Spans.{StmtLayer, nowhere}
use Rattle.round_trip.specs.Types.{bare_name, bare_const}
use Rattle.round_trip.specs.Expressions.{bare_expr, bare_args, bare_variable}

abbrev pub bare_ip : Ip → Ip
bare_ip p = record { name = bare_name p.name; part = option_map bare_name p.part; span = nowhere }

-- One level: the statements in it have lost their spans.
abbrev pub stmt_layer : StmtLayer → Stmt
stmt_layer Stmt-F.Empty = roll-Stmt Stmt-F.Empty
stmt_layer (Stmt-F.Assign variable value span) = roll-Stmt (Stmt-F.Assign (bare_variable variable) (bare_expr value) nowhere)
stmt_layer (Stmt-F.Call name args span) = roll-Stmt (Stmt-F.Call (bare_name name) (option_map bare_args args) nowhere)
stmt_layer (Stmt-F.Begin stmts span) = roll-Stmt (Stmt-F.Begin stmts nowhere)
stmt_layer (Stmt-F.If condition then_part else_part span) = roll-Stmt (Stmt-F.If (bare_expr condition) then_part else_part nowhere)
stmt_layer (Stmt-F.While condition body span) = roll-Stmt (Stmt-F.While (bare_expr condition) body nowhere)
stmt_layer (Stmt-F.Repeat stmts condition span) = roll-Stmt (Stmt-F.Repeat stmts (bare_expr condition) nowhere)
stmt_layer (Stmt-F.Count variable first direction last body span) = roll-Stmt (Stmt-F.Count (bare_name variable) (bare_expr first) direction (bare_expr last) body nowhere)
stmt_layer (Stmt-F.Case selector cases semicolon span) = roll-Stmt (Stmt-F.Case (bare_expr selector) cases semicolon nowhere)
stmt_layer (Stmt-F.Init modvar body args span) = roll-Stmt (Stmt-F.Init (bare_name modvar) (bare_name body) (option_map bare_args args) nowhere)
stmt_layer (Stmt-F.Release modvar span) = roll-Stmt (Stmt-F.Release (bare_name modvar) nowhere)
stmt_layer (Stmt-F.Connect first second span) = roll-Stmt (Stmt-F.Connect (bare_ip first) (bare_ip second) nowhere)
stmt_layer (Stmt-F.Disconnect ip span) = roll-Stmt (Stmt-F.Disconnect (bare_ip ip) nowhere)
stmt_layer (Stmt-F.Attach own modvar ip span) = roll-Stmt (Stmt-F.Attach (bare_name own) (bare_name modvar) (bare_name ip) nowhere)
stmt_layer (Stmt-F.Detach own span) = roll-Stmt (Stmt-F.Detach (bare_name own) nowhere)
stmt_layer (Stmt-F.Output ip interaction args span) = roll-Stmt (Stmt-F.Output (bare_name ip) (bare_name interaction) (option_map bare_args args) nowhere)

abbrev pub case_layer : Case-F Stmt Case Stmts → Case
case_layer c = roll-Case (record c { labels = map bare_const c.labels; span = nowhere })

abbrev pub stmts_layer : Stmts-F Stmt Case Stmts → Stmts
stmts_layer ss = roll-Stmts (record ss { span = nowhere })

unfoldable pub bare_stmt : Stmt → Stmt
bare_stmt = fold-Stmt Stmt Case Stmts stmt_layer case_layer stmts_layer

unfoldable pub bare_case : Case → Case
bare_case = fold-Case Stmt Case Stmts stmt_layer case_layer stmts_layer

unfoldable pub bare_stmts : Stmts → Stmts
bare_stmts = fold-Stmts Stmt Case Stmts stmt_layer case_layer stmts_layer
