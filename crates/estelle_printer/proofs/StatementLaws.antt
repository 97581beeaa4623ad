-- Which tokens a statement spells.
use Rattle.std.proofs.Common.{◌≡◌, ℕ, zero, suc, Bool, true, false, ◌++◌, refl, ap, sym, Option, Some, None, append_assoc}
use Rattle.estelle_tree.specs.declared.kind.Kind.{Kind}
use Rattle.estelle_tree.specs.declared.kind.Kind.TheVariants as k
use Rattle.estelle_tree.specs.declared.tree.name.Name.{Name}
use Rattle.estelle_tree.specs.declared.tree.expression.Expr.{Expr}
use Rattle.estelle_tree.specs.declared.tree.statement.Direction.{Direction}
use Rattle.estelle_tree.specs.declared.tree.statement.Direction.TheVariants as direction_of
use Rattle.estelle_tree.specs.declared.tree.statement.Stmt.{Stmt, out-Stmt, map-Stmt}
use Rattle.estelle_tree.specs.declared.tree.statement.Stmt.TheOpen.{Stmt-F}
use Rattle.estelle_tree.specs.declared.tree.statement.Stmts.{Stmts, out-Stmts}
use Rattle.estelle_tree.specs.declared.tree.statement.Case.{Case, out-Case}
use Rattle.estelle_tree.specs.Input.{Input}
use Rattle.estelle_tree.specs.Spans.{StmtLayer}
use Rattle.estelle_tree.specs.Spelling.{Spelling, Optional, Behind, Joined, Separated, Enclosed}
use Rattle.estelle_tree.specs.Types.{IsName, IsConst}
use Rattle.estelle_tree.specs.Expressions.{IsExpr, IsArgs, IsVariable, ExprBelow}
use Rattle.estelle_tree.specs.Statements.{IsIp, MayBeArgs, of_direction, StmtsOf, CaseOf, IsIf, IsStmtLayer, StmtBelow}
use Rattle.estelle_printer.specs.Forms.{Tokens, mark, flag, optional, separated, enclosed}
use Rattle.estelle_printer.specs.TypeTokens.{name, constant}
use Rattle.estelle_printer.specs.ExpressionTokens.{expr, args, variable}
use Rattle.estelle_printer.specs.StatementTokens.{ip, may_be_args, stmt_layer, stmt, case_, stmts}
use Rattle.estelle_printer.proofs.TerminalLaws.{is_plain}
use Rattle.estelle_printer.proofs.WritingLemmas.{separated_map}
use Rattle.estelle_printer.proofs.FormLaws.{Stand, ◌⋯◌, none, same_tokens, regrouped, takes, Tells, flagged, behind, may_be, separate, enclosed_in, joined}
use Rattle.estelle_printer.proofs.TypeLaws.{name_tells, constant_tells, behind_name, dot_name, names_dot}
use Rattle.estelle_printer.proofs.ExpressionLaws.{expr_below_tells, is_expr_tells, is_args_tells, is_variable_tells}
use Rattle.estelle_printer.proofs.StatementEquations.{stmt_is, case_is, stmts_is}

ip_tells : Tells IsIp ip
ip_tells p i j h = go p.part h.part
  where
    go : (part : Option Name) → Optional (Behind k.Dot IsName) part h.mid j → Stand (name p.name ++ optional (λ n. mark k.Dot ++ name n) part) i j
    go None e = name_tells p.name i h.mid h.name ⋯ none e
    go (Some n) e = behind_name p.name (mark k.Dot ++ name n) i h.mid j h.name (dot_name n h.mid e.at j e.mark e.item) refl

direction_one : (d : Direction) → is_plain (of_direction d) ≡ true
direction_one direction_of.To = refl
direction_one direction_of.Downto = refl

may_be_args_tells : (room : ℕ) → Tells (MayBeArgs room) may_be_args
may_be_args_tells room = may_be (Enclosed k.OpenParenthesis k.CloseParenthesis (IsArgs room)) (λ a. enclosed k.OpenParenthesis k.CloseParenthesis (args a)) (enclosed_in (IsArgs room) args (is_args_tells room) k.OpenParenthesis k.CloseParenthesis refl refl)

names_joined : (k' : Kind) → is_plain k' ≡ true → (a b : Name) (i j : Input) → Joined k' IsName IsName a b i j → Stand (name a ++ mark k' ++ name b) i j
names_joined k' one a b i j h = joined IsName IsName name name k' one name_tells name_tells a b i j h

module _ (room : ℕ) (S : Bool → Spelling Stmt) (tells : (whole : Bool) → Tells (S whole) stmt) where
  pub stmts_of_tells : (whole : Bool) → Tells (StmtsOf (S whole)) stmts
  stmts_of_tells whole ss i j h = same_tokens (stmts_is ss) (separate (S whole) stmt (tells whole) k.Semicolon refl (out-Stmts ss).stmts i j h.stmts)

  case_tells : Tells (CaseOf (S false)) case_
  case_tells c i j h = same_tokens (case_is c) (joined (Separated k.Comma IsConst) (S false) (separated k.Comma constant) stmt k.Colon refl (separate IsConst constant constant_tells k.Comma refl) (tells false) (out-Case c).labels (out-Case c).body i j h.parts)

  cases_tell : Tells (Separated k.Semicolon (CaseOf (S false))) (separated k.Semicolon case_)
  cases_tell = separate (CaseOf (S false)) case_ case_tells k.Semicolon refl

  if_tells : (whole : Bool) (e : Expr) (s : Stmt) (i j : Input) → IsIf room S whole e s i j → Stand (mark k.If ++ expr e ++ mark k.Then ++ stmt s) i j
  if_tells whole e s i j h = regrouped (takes k.If i h.at refl h.word ⋯ expr_below_tells room e h.at h.mid h.condition ⋯ behind (S whole) stmt (tells whole) k.Then refl s h.mid j h.then_part) (simp append_assoc)

  stmt_layer_tells : (whole : Bool) (s : StmtLayer) (i j : Input) → IsStmtLayer room S whole s i j → Stand (stmt_layer (map-Stmt Stmt Case Stmts Tokens Tokens Tokens stmt case_ stmts s)) i j
  stmt_layer_tells whole Stmt-F.Empty i j h = none h
  stmt_layer_tells whole (Stmt-F.Assign v value span) i j h = joined (IsVariable room) (IsExpr room) variable expr k.Becomes refl (is_variable_tells room) (is_expr_tells room) v value i j h.0
  stmt_layer_tells whole (Stmt-F.Call n a span) i j h = name_tells n i h.0.mid h.0.name ⋯ may_be_args_tells room a h.0.mid j h.0.args
  stmt_layer_tells whole (Stmt-F.Begin ss span) i j h = enclosed_in (StmtsOf (S false)) stmts (stmts_of_tells false) k.Begin k.End refl refl ss i j h.1
  stmt_layer_tells whole (Stmt-F.If condition then_part None span) i j h = if_tells false condition then_part i j h.1.1 ⋯ none refl
  stmt_layer_tells whole (Stmt-F.If condition then_part (Some t) span) i j h = if_tells true condition then_part i h.1.0 h.1.1 ⋯ behind (S whole) stmt (tells whole) k.Else refl t h.1.0 j h.1.2
  stmt_layer_tells whole (Stmt-F.While condition body span) i j h =
      regrouped (takes k.While i h.1.at refl h.1.word ⋯ expr_below_tells room condition h.1.at h.1.mid h.1.condition ⋯ behind (S whole) stmt (tells whole) k.Do refl body h.1.mid j h.1.body) (simp append_assoc)
  stmt_layer_tells whole (Stmt-F.Repeat ss condition span) i j h =
      enclosed_in (StmtsOf (S false)) stmts (stmts_of_tells false) k.Repeat k.Until refl refl ss i h.1.mid h.1.stmts ⋯ expr_below_tells room condition h.1.mid j h.1.condition
  stmt_layer_tells whole (Stmt-F.Count v first direction last body span) i j h = regrouped (takes k.For i h.1.at refl h.1.word
      ⋯ joined IsName (ExprBelow room) name expr k.Becomes refl name_tells (expr_below_tells room) v first h.1.at h.1.mid h.1.start
      ⋯ behind (ExprBelow room) expr (expr_below_tells room) (of_direction direction) (direction_one direction) last h.1.mid h.1.after h.1.last
      ⋯ behind (S whole) stmt (tells whole) k.Do refl body h.1.after j h.1.body) (simp append_assoc)
  stmt_layer_tells whole (Stmt-F.Case selector cases semicolon span) i j h = regrouped (takes k.Case i h.1.at refl h.1.word
      ⋯ joined (ExprBelow room) (Separated k.Semicolon (CaseOf (S false))) expr (separated k.Semicolon case_) k.Of refl (expr_below_tells room) cases_tell selector cases h.1.at h.1.mid h.1.parts
      ⋯ flagged k.Semicolon refl semicolon h.1.mid h.1.after h.1.semicolon
      ⋯ takes k.End h.1.after j refl h.1.ends)
      (ap (λ cs. mark k.Case ++ expr selector ++ mark k.Of ++ cs ++ flag k.Semicolon semicolon ++ mark k.End) (sym (separated_map k.Semicolon case_ cases)))
  stmt_layer_tells whole (Stmt-F.Init modvar body a span) i j h = regrouped (takes k.Init i h.0.at refl h.0.word ⋯ names_joined k.With refl modvar body h.0.at h.0.mid h.0.names ⋯ may_be_args_tells room a h.0.mid j h.0.args) (simp append_assoc)
  stmt_layer_tells whole (Stmt-F.Release modvar span) i j h = behind IsName name name_tells k.Release refl modvar i j h.0
  stmt_layer_tells whole (Stmt-F.Connect first second span) i j h = regrouped (takes k.Connect i h.0.at refl h.0.word ⋯ joined IsIp IsIp ip ip k.To refl ip_tells ip_tells first second h.0.at j h.0.ips) (simp append_assoc)
  stmt_layer_tells whole (Stmt-F.Disconnect p span) i j h = behind IsIp ip ip_tells k.Disconnect refl p i j h.0
  stmt_layer_tells whole (Stmt-F.Attach own modvar p span) i j h =
      regrouped (takes k.Attach i h.0.at refl h.0.word ⋯ name_tells own h.0.at h.0.mid h.0.own ⋯ takes k.To h.0.mid h.0.after refl h.0.to ⋯ names_dot modvar p h.0.after j h.0.lower) (simp append_assoc)
  stmt_layer_tells whole (Stmt-F.Detach own span) i j h = behind IsName name name_tells k.Detach refl own i j h.0
  stmt_layer_tells whole (Stmt-F.Output p interaction a span) i j h = regrouped (takes k.Output i h.0.at refl h.0.word ⋯ names_dot p interaction h.0.at h.0.mid h.0.names ⋯ may_be_args_tells room a h.0.mid j h.0.args) (simp append_assoc)

pub stmt_below_tells : (room : ℕ) (whole : Bool) → Tells (StmtBelow room whole) stmt
stmt_below_tells zero whole s i j h = absurd h
stmt_below_tells (suc room) whole s i j h = same_tokens (stmt_is s) (stmt_layer_tells room (StmtBelow room) (stmt_below_tells room) whole (out-Stmt s) i j h)
