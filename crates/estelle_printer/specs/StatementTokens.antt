-- The tokens of a statement.
use Rattle.std.specs.Prelude.{[], ◌++◌, Option}
use Rattle.estelle_tree.specs.declared.kind.Kind.TheVariants as k
use Rattle.estelle_tree.specs.declared.tree.expression.Args.{Args}
use Rattle.estelle_tree.specs.declared.tree.statement.Ip.{Ip}
use Rattle.estelle_tree.specs.declared.tree.statement.Stmt.{Stmt}
use Rattle.estelle_tree.specs.declared.tree.statement.Stmt.TheOpen.{Stmt-F, Case-F, Stmts-F}
use Rattle.estelle_tree.specs.declared.tree.statement.Stmt.TheFolds.{fold-Stmt, fold-Case, fold-Stmts}
use Rattle.estelle_tree.specs.declared.tree.statement.Stmts.{Stmts}
use Rattle.estelle_tree.specs.declared.tree.statement.Case.{Case}
use Rattle.estelle_tree.specs.Statements.{of_direction}
use Rattle.estelle_printer.specs.Forms.{Tokens, mark, flag, optional, separated, enclosed}
use Rattle.estelle_printer.specs.TypeTokens.{name, constant}
use Rattle.estelle_printer.specs.ExpressionTokens.{expr, args, variable}

-- Ip = NAME ["." NAME]
abbrev pub ip : Ip → Tokens
ip p = name p.name ++ optional (λ part. mark k.Dot ++ name part) p.part

-- `["(" Args ")"]`
abbrev pub may_be_args : Option Args → Tokens
may_be_args = optional (λ a. enclosed k.OpenParenthesis k.CloseParenthesis (args a))

-- Stmt = | Variable ":=" Expr | NAME ["(" Args ")"] | begin Stmts end
--      | if Expr then Stmt [else Stmt] | while Expr do Stmt | repeat Stmts until Expr
--      | for NAME ":=" Expr (to | downto) Expr do Stmt
--      | case Expr of Case {";" Case} [";"] end
--      | init NAME with NAME ["(" Args ")"] | release NAME | connect Ip to Ip | disconnect Ip
--      | attach NAME to NAME "." NAME | detach NAME | output NAME "." NAME ["(" Args ")"]
abbrev pub stmt_layer : Stmt-F Tokens Tokens Tokens → Tokens
stmt_layer Stmt-F.Empty = []
stmt_layer (Stmt-F.Assign v value span) = variable v ++ mark k.Becomes ++ expr value
stmt_layer (Stmt-F.Call n a span) = name n ++ may_be_args a
stmt_layer (Stmt-F.Begin stmts span) = enclosed k.Begin k.End stmts
stmt_layer (Stmt-F.If condition then_part else_part span) = mark k.If ++ expr condition ++ mark k.Then ++ then_part ++ optional (λ s. mark k.Else ++ s) else_part
stmt_layer (Stmt-F.While condition body span) = mark k.While ++ expr condition ++ mark k.Do ++ body
stmt_layer (Stmt-F.Repeat stmts condition span) = enclosed k.Repeat k.Until stmts ++ expr condition
stmt_layer (Stmt-F.Count v first direction last body span) = mark k.For ++ name v ++ mark k.Becomes ++ expr first ++ mark (of_direction direction) ++ expr last ++ mark k.Do ++ body
stmt_layer (Stmt-F.Case selector cases semicolon span) = mark k.Case ++ expr selector ++ mark k.Of ++ separated k.Semicolon (λ x. x) cases ++ flag k.Semicolon semicolon ++ mark k.End
stmt_layer (Stmt-F.Init modvar body a span) = mark k.Init ++ name modvar ++ mark k.With ++ name body ++ may_be_args a
stmt_layer (Stmt-F.Release modvar span) = mark k.Release ++ name modvar
stmt_layer (Stmt-F.Connect first second span) = mark k.Connect ++ ip first ++ mark k.To ++ ip second
stmt_layer (Stmt-F.Disconnect p span) = mark k.Disconnect ++ ip p
stmt_layer (Stmt-F.Attach own modvar p span) = mark k.Attach ++ name own ++ mark k.To ++ name modvar ++ mark k.Dot ++ name p
stmt_layer (Stmt-F.Detach own span) = mark k.Detach ++ name own
stmt_layer (Stmt-F.Output p interaction a span) = mark k.Output ++ name p ++ mark k.Dot ++ name interaction ++ may_be_args a

-- Case = Const {"," Const} ":" Stmt
abbrev pub case_layer : Case-F Tokens Tokens Tokens → Tokens
case_layer c = separated k.Comma constant c.labels ++ mark k.Colon ++ c.body

-- Stmts = Stmt {";" Stmt}
abbrev pub stmts_layer : Stmts-F Tokens Tokens Tokens → Tokens
stmts_layer ss = separated k.Semicolon (λ x. x) ss.stmts

unfoldable pub stmt : Stmt → Tokens
stmt = fold-Stmt Tokens Tokens Tokens stmt_layer case_layer stmts_layer

unfoldable pub case_ : Case → Tokens
case_ = fold-Case Tokens Tokens Tokens stmt_layer case_layer stmts_layer

unfoldable pub stmts : Stmts → Tokens
stmts = fold-Stmts Tokens Tokens Tokens stmt_layer case_layer stmts_layer
