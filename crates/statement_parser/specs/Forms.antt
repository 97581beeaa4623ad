-- Statements and routines, as forms.
use Rattle.std.specs.Prelude.{ℕ, suc, ◌==◌, Bool, true, false, ◌||◌, ◌&&◌, not, List, Option, Some, None, ◌⊎◌}
use Rattle.std.proofs.Common.{inl, inr}
use Rattle.estelle_tree.specs.declared.kind.Kind.{Kind}
use Rattle.estelle_tree.specs.declared.kind.Kind.TheVariants as k
use Rattle.estelle_tree.specs.declared.span.Span.{Span}
use Rattle.estelle_tree.specs.declared.tree.name.Name.{Name}
use Rattle.estelle_tree.specs.declared.tree.expression.Args.{Args}
use Rattle.estelle_tree.specs.declared.tree.expression.Expr.{Expr}
use Rattle.estelle_tree.specs.declared.tree.expression.Variable.{Variable}
use Rattle.estelle_tree.specs.declared.tree.statement.Direction.{Direction}
use Rattle.estelle_tree.specs.declared.tree.statement.Direction.TheVariants as direction
use Rattle.estelle_tree.specs.declared.tree.statement.Ip.{Ip}
use Rattle.estelle_tree.specs.declared.tree.statement.Stmt.{Stmt}
use Rattle.estelle_tree.specs.declared.tree.statement.Stmt.TheVariants as a_stmt
use Rattle.estelle_tree.specs.declared.tree.statement.Stmts.{Stmts}
use Rattle.estelle_tree.specs.declared.tree.statement.Case.{Case}
use Rattle.estelle_tree.specs.declared.tree.declaration.BlockDecl.{BlockDecl}
use Rattle.estelle_tree.specs.declared.tree.declaration.Formals.{Formals}
use Rattle.estelle_tree.specs.declared.tree.declaration.Routine.{Routine}
use Rattle.estelle_tree.specs.Input.{Input}
use Rattle.estelle_tree.specs.Spelling.{Spelling, Enclosed, Behind, Never}
use Rattle.estelle_tree.specs.Beginning.{Beginning, Nothing, Then, After}
use Rattle.estelle_tree.specs.BeginsExpressions.{BeginsFactorBelow}
use Rattle.estelle_tree.specs.BeginsStatements.{BeginsStmtBelow}
use Rattle.estelle_tree.specs.Expressions.{IsArgs, FactorBelow, IsFactor}
use Rattle.estelle_tree.specs.Statements.{IsIp, of_direction, StmtsOf, CaseOf, StmtBelow}
use Rattle.estelle_tree.specs.Declarations.{IsStatementPart, IsRoutine}
use Rattle.expression_parser.specs.Forms as expressions
use Rattle.syntax_forms.specs.Kinds.{is, never}
use Rattle.syntax_forms.specs.Form.{Form, word, name, ◌▸◌, ◌⊕◌, one_of, level, unless, separated, sections, node, built, known, told}
use Rattle.syntax_forms.specs.Repeats.{behind, may, many}
use Rattle.syntax_forms.specs.Types.{constant}
use Rattle.syntax_forms.specs.Definitions.{formals, block_decl}
use Rattle.statement_parser.specs.Statement.{begins_stmt, goes_on_stmt}

-- Ip = NAME ["." NAME]
abbrev pub ip : Form Ip
ip = node IsIp (name ▸ may (behind k.Dot name))

-- `to | downto`
abbrev pub direction_of : Kind → Option Direction
direction_of k.To = Some direction.To
direction_of k.Downto = Some direction.Downto
direction_of _ = None

-- What a statement is made of, and the statement. A terminal brings nothing.
abbrev pub Word : Type 0
Word = Unit {0}

abbrev pub make_named : (Name × Option Args) ⊎ (Variable × (Word × Expr)) → Span → Stmt
make_named (inl (n, given)) = a_stmt.Call n given
make_named (inr (v, (u, e))) = a_stmt.Assign v e

abbrev pub make_begin : Stmts × Word → Span → Stmt
make_begin (ss, u) = a_stmt.Begin ss

abbrev pub make_if : Expr × (Word × (Stmt × Option Stmt)) → Span → Stmt
make_if (e, (u, (s, t))) = a_stmt.If e s t

abbrev pub make_while : Expr × (Word × Stmt) → Span → Stmt
make_while (e, (u, s)) = a_stmt.While e s

abbrev pub make_repeat : Stmts × (Word × Expr) → Span → Stmt
make_repeat (ss, (u, e)) = a_stmt.Repeat ss e

abbrev pub make_for : Name × (Word × (Expr × (Direction × (Expr × (Word × Stmt))))) → Span → Stmt
make_for (n, (u, (e, (d, (f, (v, s)))))) = a_stmt.Count n e d f s

abbrev pub make_case : Expr × (Word × ((List Case × Bool) × Word)) → Span → Stmt
make_case (e, (u, ((cs, is_ended), v))) = a_stmt.Case e cs is_ended

abbrev pub make_init : Word × (Name × (Word × (Name × Option Args))) → Span → Stmt
make_init (u, (m, (v, (b, given)))) = a_stmt.Init m b given

abbrev pub make_release : Word × Name → Span → Stmt
make_release (u, m) = a_stmt.Release m

abbrev pub make_connect : Word × (Ip × (Word × Ip)) → Span → Stmt
make_connect (u, (p, (v, q))) = a_stmt.Connect p q

abbrev pub make_disconnect : Word × Ip → Span → Stmt
make_disconnect (u, p) = a_stmt.Disconnect p

abbrev pub make_attach : Word × (Name × (Word × (Name × (Word × Name)))) → Span → Stmt
make_attach (u, (o, (v, (m, (w, p))))) = a_stmt.Attach o m p

abbrev pub make_detach : Word × Name → Span → Stmt
make_detach (u, o) = a_stmt.Detach o

abbrev pub make_output : Word × (Name × (Word × (Name × Option Args))) → Span → Stmt
make_output (u, (p, (v, (n, given)))) = a_stmt.Output p n given

-- with these a NAME is a variable's that is assigned, and not a call's
abbrev pub assigns : ℕ → Kind → Bool
assigns room x = is k.Becomes x || (is k.Dot x || (is k.OpenBracket x && not (room == 0)))

-- ---- parts of statements, where this many more levels may open
module _ (room : ℕ) where
  -- an expression, and one that stands one level down
  abbrev pub expr : Form Expr
  expr = expressions.expr (IsFactor room) (BeginsFactorBelow (suc room))

  abbrev pub expr_below : Form Expr
  expr_below = expressions.expr (FactorBelow room) (BeginsFactorBelow room)

  -- `"(" Args ")"`: these parentheses open no level
  abbrev pub given_args : Form Args
  given_args = node (Enclosed k.OpenParenthesis k.CloseParenthesis (IsArgs room)) (word k.OpenParenthesis ▸ expressions.args (IsFactor room) (BeginsFactorBelow (suc room)) ▸ word k.CloseParenthesis)

  -- `Variable ":=" Expr`
  abbrev pub assignment : Form (Variable × (Word × Expr))
  assignment = expressions.variable room (FactorBelow room) (BeginsFactorBelow room) ▸ word k.Becomes ▸ expr

  -- `NAME ["(" Args ")"]`
  abbrev pub call : Form (Name × Option Args)
  call = name ▸ may given_args

-- ---- over what the statements in it spell, with `true` the whole ones, and what begins them
module _ (S : Bool → Spelling Stmt) (B : Beginning) where
  abbrev pub below : Form Stmt
  below = known true (S false) B begins_stmt goes_on_stmt

  -- Stmts = Stmt {";" Stmt}
  abbrev pub stmts : Form Stmts
  stmts = node (StmtsOf (S false)) (separated k.Semicolon below)

  -- Case = Const {"," Const} ":" Stmt
  abbrev pub case : Form Case
  case = node (CaseOf (S false)) (separated k.Comma constant ▸ word k.Colon ▸ below)

  -- `Stmt [else Stmt]`: an `else` belongs to the nearest `if` that can take it, so that what stands before it is whole
  abbrev pub Branches : Spelling (Stmt × Option Stmt)
  Branches (s, None) i j = S false s i j
  Branches (s, Some t) i j = (m : Input) × S true s i m × Behind k.Else (S false) t m j

  abbrev pub branches : Form (Stmt × Option Stmt)
  branches = known true Branches (Then B (S true) (After k.Else B)) (λ x. begins_stmt x || is k.Else x) goes_on_stmt

  -- the statement that a terminal begins, where this many more levels may open
  abbrev pub stmt_by : ℕ → Kind → Form Stmt
  stmt_by room k.Name = built make_named (unless (assigns room) (call room) (assignment room))
  stmt_by room k.Begin = built make_begin (level room k.Begin (stmts ▸ word k.End))
  stmt_by room k.If = built make_if (level room k.If (expr_below room ▸ word k.Then ▸ branches))
  stmt_by room k.While = built make_while (level room k.While (expr_below room ▸ word k.Do ▸ below))
  stmt_by room k.Repeat = built make_repeat (level room k.Repeat (stmts ▸ word k.Until ▸ expr_below room))
  stmt_by room k.For = built make_for (level room k.For (name ▸ word k.Becomes ▸ expr_below room ▸ one_of direction_of of_direction ▸ expr_below room ▸ word k.Do ▸ below))
  stmt_by room k.Case = built make_case (level room k.Case (expr_below room ▸ word k.Of ▸ sections k.Semicolon case ▸ word k.End))
  stmt_by room k.Init = built make_init (word k.Init ▸ name ▸ word k.With ▸ name ▸ may (given_args room))
  stmt_by room k.Release = built make_release (word k.Release ▸ name)
  stmt_by room k.Connect = built make_connect (word k.Connect ▸ ip ▸ word k.To ▸ ip)
  stmt_by room k.Disconnect = built make_disconnect (word k.Disconnect ▸ ip)
  stmt_by room k.Attach = built make_attach (word k.Attach ▸ name ▸ word k.To ▸ name ▸ word k.Dot ▸ name)
  stmt_by room k.Detach = built make_detach (word k.Detach ▸ name)
  stmt_by room k.Output = built make_output (word k.Output ▸ name ▸ word k.Dot ▸ name ▸ may (given_args room))
  stmt_by room _ = known false Never Nothing never never

  -- one of them, or nothing
  abbrev pub stmt : ℕ → Form (Option Stmt)
  stmt room = may (told (stmt_by room) goes_on_stmt)

-- ---- the statement part of a block, and routines, where this many more levels may open
module _ (room : ℕ) where
  -- `begin Stmts end ";"`
  abbrev pub statement_part : Form Stmts
  statement_part = node (IsStatementPart room) (level room k.Begin (stmts (StmtBelow room) (BeginsStmtBelow room) ▸ word k.End ▸ word k.Semicolon))

  -- `{BlockDecl} begin Stmts end ";"`
  abbrev pub block : Form (List BlockDecl × Stmts)
  block = many (block_decl room) ▸ statement_part

  -- Routine = procedure NAME [Formals] ";" {BlockDecl} begin Stmts end ";"
  --         | function NAME [Formals] ":" NAME ";" {BlockDecl} begin Stmts end ";"
  abbrev pub procedure : Form (Word × (Name × (Option Formals × (Word × (List BlockDecl × Stmts)))))
  procedure = word k.Procedure ▸ name ▸ may formals ▸ word k.Semicolon ▸ block

  abbrev pub function : Form (Word × (Name × (Option Formals × (Word × (Name × (Word × (List BlockDecl × Stmts)))))))
  function = word k.Function ▸ name ▸ may formals ▸ word k.Colon ▸ name ▸ word k.Semicolon ▸ block

  abbrev pub routine : Form Routine
  routine = node (IsRoutine room) (procedure ⊕ function)
