-- The span of a node whose production has alternatives.
use Rattle.estelle_tree.specs.declared.span.Span.{Span}
use Rattle.estelle_tree.specs.declared.tree.type_expr.Const.{Const}
use Rattle.estelle_tree.specs.declared.tree.type_expr.Const.TheVariants as const
use Rattle.estelle_tree.specs.declared.tree.type_expr.Ordinal.{Ordinal}
use Rattle.estelle_tree.specs.declared.tree.type_expr.Ordinal.TheVariants as ordinal
use Rattle.estelle_tree.specs.declared.tree.type_expr.TypeExpr.{TypeExpr, out-TypeExpr}
use Rattle.estelle_tree.specs.declared.tree.type_expr.TypeExpr.TheOpen.{TypeExpr-F}
use Rattle.estelle_tree.specs.declared.tree.type_expr.Fields.{Fields}
use Rattle.estelle_tree.specs.declared.tree.type_expr.TypedNames.{TypedNames}
use Rattle.estelle_tree.specs.declared.tree.expression.Factor.{Factor, out-Factor}
use Rattle.estelle_tree.specs.declared.tree.expression.Factor.TheOpen.{Factor-F, Selector-F}
use Rattle.estelle_tree.specs.declared.tree.expression.Selector.{Selector}
use Rattle.estelle_tree.specs.declared.tree.expression.Args.{Args}
use Rattle.estelle_tree.specs.declared.tree.expression.Elem.{Elem}
use Rattle.estelle_tree.specs.declared.tree.expression.Expr.{Expr}
use Rattle.estelle_tree.specs.declared.tree.expression.Simple.{Simple}
use Rattle.estelle_tree.specs.declared.tree.expression.Term.{Term}
use Rattle.estelle_tree.specs.declared.tree.expression.Variable.{Variable, out-Variable}
use Rattle.estelle_tree.specs.declared.tree.statement.Stmt.{Stmt, out-Stmt}
use Rattle.estelle_tree.specs.declared.tree.statement.Stmt.TheOpen.{Stmt-F}
use Rattle.estelle_tree.specs.declared.tree.statement.Case.{Case}
use Rattle.estelle_tree.specs.declared.tree.statement.Stmts.{Stmts}
use Rattle.estelle_tree.specs.declared.tree.declaration.BlockDecl.{BlockDecl}
use Rattle.estelle_tree.specs.declared.tree.declaration.BlockDecl.TheVariants as block_decl
use Rattle.estelle_tree.specs.declared.tree.clause.Clause.{Clause}
use Rattle.estelle_tree.specs.declared.tree.clause.Clause.TheVariants as clause
use Rattle.estelle_tree.specs.declared.tree.clause.Group.{Group}
use Rattle.estelle_tree.specs.declared.tree.clause.TransBody.{TransBody, out-TransBody}
use Rattle.estelle_tree.specs.declared.tree.clause.TransBody.TheOpen.{TransBody-F}
use Rattle.estelle_tree.specs.declared.tree.specification.SysAttr.{SysAttr}
use Rattle.estelle_tree.specs.declared.tree.specification.SysAttr.TheVariants as sys_attr
use Rattle.estelle_tree.specs.declared.tree.specification.Attr.{Attr}
use Rattle.estelle_tree.specs.declared.tree.specification.Attr.TheVariants as attr
use Rattle.estelle_tree.specs.declared.tree.specification.Head.{Head}
use Rattle.estelle_tree.specs.declared.tree.specification.Head.TheVariants as head
use Rattle.estelle_tree.specs.declared.tree.specification.Disc.{Disc}
use Rattle.estelle_tree.specs.declared.tree.specification.Disc.TheVariants as disc
use Rattle.estelle_tree.specs.declared.tree.specification.Decl.{Decl, out-Decl}
use Rattle.estelle_tree.specs.declared.tree.specification.Decl.TheOpen.{Decl-F}
use Rattle.estelle_tree.specs.declared.tree.specification.Body.{Body, out-Body}
use Rattle.estelle_tree.specs.declared.tree.specification.Parts.{Parts}

-- One level of a tree: the nodes in it are whole trees.
abbrev pub TypeExprLayer : Type 0
TypeExprLayer = TypeExpr-F TypeExpr Fields TypedNames

abbrev pub FactorLayer : Type 0
FactorLayer = Factor-F Factor Selector Args Elem Expr Simple Term Variable

abbrev pub SelectorLayer : Type 0
SelectorLayer = Selector-F Factor Selector Args Elem Expr Simple Term Variable

abbrev pub StmtLayer : Type 0
StmtLayer = Stmt-F Stmt Case Stmts

abbrev pub TransBodyLayer : Type 0
TransBodyLayer = TransBody-F TransBody Group

abbrev pub DeclLayer : Type 0
DeclLayer = Decl-F Decl Body Parts

-- a node without tokens
abbrev pub nowhere : Span
nowhere = record { start = 0; end = 0 }

abbrev pub of_const : Const → Span
of_const (const.Number sign value span) = span
of_const (const.Name sign name span) = span
of_const (const.Char value span) = span

abbrev pub of_ordinal : Ordinal → Span
of_ordinal (ordinal.Name name) = name.span
of_ordinal (ordinal.Enumeration names span) = span
of_ordinal (ordinal.Subrange low high span) = span

abbrev pub of_type_layer : TypeExprLayer → Span
of_type_layer (TypeExpr-F.Ordinal ordinal) = of_ordinal ordinal
of_type_layer (TypeExpr-F.Array packed indices component span) = span
of_type_layer (TypeExpr-F.Fields packed fields span) = span
of_type_layer (TypeExpr-F.Set packed base span) = span

abbrev pub of_type : TypeExpr → Span
of_type t = of_type_layer (out-TypeExpr t)

abbrev pub of_factor_layer : FactorLayer → Span
of_factor_layer (Factor-F.Number value span) = span
of_factor_layer (Factor-F.Char value span) = span
of_factor_layer (Factor-F.Variable variable) = (out-Variable variable).span
of_factor_layer (Factor-F.Call name args span) = span
of_factor_layer (Factor-F.Paren inner span) = span
of_factor_layer (Factor-F.Not operand span) = span
of_factor_layer (Factor-F.Set elems span) = span

abbrev pub of_factor : Factor → Span
of_factor f = of_factor_layer (out-Factor f)

abbrev pub of_stmt_layer : StmtLayer → Span
of_stmt_layer Stmt-F.Empty = nowhere
of_stmt_layer (Stmt-F.Assign variable value span) = span
of_stmt_layer (Stmt-F.Call name args span) = span
of_stmt_layer (Stmt-F.Begin stmts span) = span
of_stmt_layer (Stmt-F.If condition then_part else_part span) = span
of_stmt_layer (Stmt-F.While condition body span) = span
of_stmt_layer (Stmt-F.Repeat stmts condition span) = span
of_stmt_layer (Stmt-F.Count variable first direction last body span) = span
of_stmt_layer (Stmt-F.Case selector cases semicolon span) = span
of_stmt_layer (Stmt-F.Init modvar body args span) = span
of_stmt_layer (Stmt-F.Release modvar span) = span
of_stmt_layer (Stmt-F.Connect first second span) = span
of_stmt_layer (Stmt-F.Disconnect ip span) = span
of_stmt_layer (Stmt-F.Attach own modvar ip span) = span
of_stmt_layer (Stmt-F.Detach own span) = span
of_stmt_layer (Stmt-F.Output ip interaction args span) = span

abbrev pub of_stmt : Stmt → Span
of_stmt s = of_stmt_layer (out-Stmt s)

abbrev pub of_block_decl : BlockDecl → Span
of_block_decl (block_decl.Const defs span) = span
of_block_decl (block_decl.Types defs span) = span
of_block_decl (block_decl.Var vars span) = span

abbrev pub of_clause : Clause → Span
of_clause (clause.From states span) = span
of_clause (clause.To state span) = span
of_clause (clause.When ip interaction params span) = span
of_clause (clause.Provided condition span) = span
of_clause (clause.Priority value span) = span
of_clause (clause.Any domains span) = span
of_clause (clause.Delay low high span) = span

abbrev pub of_trans_body_layer : TransBodyLayer → Span
of_trans_body_layer (TransBody-F.Block block) = block.span
of_trans_body_layer (TransBody-F.Groups groups span) = span

abbrev pub of_trans_body : TransBody → Span
of_trans_body b = of_trans_body_layer (out-TransBody b)

abbrev pub of_sys_attr : SysAttr → Span
of_sys_attr (sys_attr.Systemprocess span) = span
of_sys_attr (sys_attr.Systemactivity span) = span

abbrev pub of_attr : Attr → Span
of_attr (attr.SysAttr sys) = of_sys_attr sys
of_attr (attr.Process span) = span
of_attr (attr.Activity span) = span

abbrev pub of_disc : Disc → Span
of_disc (disc.Individual span) = span
of_disc (disc.Common span) = span

abbrev pub of_head : Head → Span
of_head (head.Default disc span) = span
of_head (head.Timescale unit span) = span

abbrev pub of_decl_layer : DeclLayer → Span
of_decl_layer (Decl-F.Const defs span) = span
of_decl_layer (Decl-F.Types defs span) = span
of_decl_layer (Decl-F.Channel channel) = channel.span
of_decl_layer (Decl-F.Header header) = header.span
of_decl_layer (Decl-F.Body body) = (out-Body body).span
of_decl_layer (Decl-F.Ip ips span) = span
of_decl_layer (Decl-F.Modvar modvars span) = span
of_decl_layer (Decl-F.Var vars span) = span
of_decl_layer (Decl-F.State states span) = span
of_decl_layer (Decl-F.Stateset sets span) = span
of_decl_layer (Decl-F.Routine routine) = routine.span

abbrev pub of_decl : Decl → Span
of_decl d = of_decl_layer (out-Decl d)
