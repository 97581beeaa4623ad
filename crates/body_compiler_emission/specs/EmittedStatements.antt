-- What each function of the compiler adds for statements.
use Rattle.std.specs.Prelude.{◌≡◌, ℕ, ◌+◌, if◌then◌else◌, List, [], ◌∷◌, length, map, option_map, Option, Some, None, ℤ}
use Rattle.std.specs.Borrow.{Bor}
use Rattle.pascal_values.specs.declared.value.Shape.{Shape}
use Rattle.estelle_tree.specs.declared.tree.name.Name.{Name}
use Rattle.estelle_tree.specs.declared.tree.type_expr.Const.{Const}
use Rattle.estelle_tree.specs.declared.tree.expression.Expr.{Expr}
use Rattle.estelle_tree.specs.declared.tree.expression.Args.{Args, out-Args}
use Rattle.estelle_tree.specs.declared.tree.expression.Variable.{Variable}
use Rattle.estelle_tree.specs.declared.tree.statement.Direction.{Direction}
use Rattle.estelle_tree.specs.declared.tree.statement.Direction.TheVariants as direction
use Rattle.estelle_tree.specs.declared.tree.statement.Stmt.{Stmt}
use Rattle.estelle_tree.specs.declared.tree.statement.Case.{Case, out-Case}
use Rattle.estelle_tree.specs.declared.tree.statement.Stmts.{Stmts}
use Rattle.estelle_tree.specs.declared.tree.statement.Stmt.TheFolds.{fold-Stmt, fold-Case}
use Rattle.body_code.specs.declared.instr.Instr.{Instr}
use Rattle.body_code.specs.declared.instr.Instr.TheVariants as op
use Rattle.estelle_model.specs.Types.{shape_of, whole}
use Rattle.estelle_model.specs.declared.denoter.Host.{Host}
use Rattle.estelle_model.specs.declared.denoter.Denoter.{Denoter}
use Rattle.estelle_model.specs.declared.meaning.Meaning.{Meaning}
use Rattle.estelle_model.specs.declared.meaning.Passing.TheVariants.{ByValue}
use Rattle.estelle_model.specs.declared.meaning.Routine.{Routine}
use Rattle.estelle_model.specs.Meant.{Meanings}
use Rattle.estelle_model.specs.Statements.{Statement}
use Rattle.body_compiler_pieces.specs.Pieces.{Piece, one, ◌⨾◌, fork, loop, repeat}
use Rattle.body_compiler_pieces.specs.ExpressionCode.{Access}
use Rattle.body_compiler_pieces.specs.StatementCode as code
use Rattle.body_compiler_pieces.specs.UnitCode as units
use Rattle.body_compiler_pieces.specs.StatementCode.{stmt_layer, case_layer, stmts_layer}
use Rattle.body_compiler_emission.specs.declared.control.Control.{Control}
use Rattle.body_compiler_emission.specs.Drafts.{Drafted, grown, with_instr, with_instr_at, with_temporary, count_closed}
use Rattle.body_compiler_emission.specs.Scopes.{Scoped, scope_of}
use Rattle.body_compiler_emission.specs.Emitted.{expr, give_all}

-- what a temporary holds is on top
unfoldable pub recalled : ℕ → Drafted → Drafted
recalled k u = with_instr op.Load (with_instr (op.Loc k) u)

-- a control variable: a variable of the instance, or a local
abbrev pub control_instr : Control → Instr
control_instr c = (if c.local then op.Loc c.number else op.Var c.number)

abbrev pub begins_instr : Direction → Instr
begins_instr direction.To = op.Le
begins_instr direction.Downto = op.Ge

abbrev pub goes_instr : Direction → Instr
goes_instr direction.To = op.Lt
goes_instr direction.Downto = op.Gt

-- before the first turn, at the entry of each, and behind each
unfoldable pub tested : Direction → (turn last : ℕ) → Drafted → Drafted
tested dir t u v = with_instr (begins_instr dir) (recalled u (recalled t v))

unfoldable pub entered : (kind : ℕ) → Instr → (turn : ℕ) → Drafted → Drafted
entered kind place t v = with_instr (op.Store kind) (recalled t (with_instr place (with_instr op.Turn (with_instr (op.Jfalse 0) v))))

unfoldable pub ended : Direction → (number : ℕ) → Instr → (turn last test : ℕ) → Drafted → Drafted
ended dir number place t u test v = with_instr op.Blank (with_instr place (count_closed t number (code.next_instr dir) test (with_instr (goes_instr dir) (recalled u (recalled t v)))))

-- the arguments of a procedure statement
abbrev pub exprs_of : Option Args → List Expr
exprs_of None = []
exprs_of (Some es) = (out-Args es).exprs

-- expressions by references to them
abbrev pub lent : List (Bor Expr) → List Expr
lent = map (λ e. e.now)

-- whether a temporary holds an ordinal, or one of several
unfoldable pub is_one : ℕ → ℤ → Piece
is_one t m = code.is_one t m

unfoldable pub is_one_of : ℕ → List ℤ → Piece
is_one_of t ms = code.is_one_of t ms

-- labels refuse no code
unfoldable pub AreOrdinals : Meanings → List Const → Type 0
AreOrdinals meant cs = (p : Piece) → code.labelled meant cs p ≡ p

-- the turns of a `for`, whose variable is a place of one instruction
unfoldable pub counting : Direction → (number kind : ℕ) → (place : Instr) → Piece → (turn last : ℕ) → Piece
counting dir number kind place body t u = code.counting dir number kind (one place) body t u

module _ (t : Scoped) where
  unfoldable pub stmts : Stmts → Piece
  stmts x = code.stmts (scope_of t) x

  unfoldable pub stmt : Stmt → Piece
  stmt = fold-Stmt Piece (List ℤ × Piece) Piece (stmt_layer (scope_of t)) (case_layer (scope_of t)) (stmts_layer (scope_of t))

  unfoldable pub branch : Case → List ℤ × Piece
  branch = fold-Case Piece (List ℤ × Piece) Piece (stmt_layer (scope_of t)) (case_layer (scope_of t)) (stmts_layer (scope_of t))

  -- ---- statements of Pascal

  unfoldable pub target : Variable → Option Access
  target v = code.target (scope_of t) v

  unfoldable pub assign : Variable → Expr → Piece
  assign v e = code.assign_to (scope_of t) (code.target (scope_of t) v) (expr t e)

  unfoldable pub procedure : Name → Option Args → Piece
  procedure x es = code.invoke_of (scope_of t) x ((scope_of t).meant x) (code.arguments (scope_of t) es)

  unfoldable pub choose : Expr → Stmt → Option Stmt → Piece
  choose test then_part else_part = code.choose (scope_of t) test (stmt then_part) (option_map stmt else_part)

  unfoldable pub while_loop : Expr → Stmt → Piece
  while_loop test body = loop (expr t test).value (stmt body)

  unfoldable pub repeat_loop : Stmts → Expr → Piece
  repeat_loop body test = repeat (stmts body ⨾ (expr t test).value)

  unfoldable pub control : Meaning → Option Access
  control m = code.control (scope_of t) m

  -- a temporary of a host's whole type keeps what an expression leaves
  unfoldable pub kept : Host → (number : ℕ) → Expr → (temporary : ℕ) → Drafted → Drafted
  kept h number e k u = with_instr (op.Store number) (grown (expr t e).value (with_instr (op.Loc k) (with_temporary (shape_of (whole h)) u)))

  unfoldable pub count : Name → Expr → Direction → Expr → Stmt → Piece
  count x first dir last body = code.count_over (scope_of t) (code.control (scope_of t) ((scope_of t).meant x)) (expr t first).value dir (expr t last).value (stmt body)

  unfoldable pub select : Expr → List Case → Piece
  select e cases = code.select (scope_of t) e (map branch cases)

  unfoldable pub first_of : ℕ → List Case → Piece
  first_of k cases = code.first_of k (map branch cases)

  -- a case: behind its labels, behind its statement, and with the jump to the end
  abbrev pub labelled : ℕ → Case → Drafted → Drafted
  labelled k c u = grown (is_one_of k (code.ordinals_of (scope_of t).meant (out-Case c).labels)) u

  -- its statement, if each of its labels has an ordinal
  unfoldable pub chosen : Case → Piece
  chosen c = code.labelled (scope_of t).meant (out-Case c).labels (stmt (out-Case c).body)

  unfoldable pub entered_case : ℕ → Case → Drafted → Drafted
  entered_case k c u = grown (chosen c) (with_instr (op.Jfalse 0) (labelled k c u))

  unfoldable pub case_end : ℕ → Case → Drafted → ℕ
  case_end k c u = length (entered_case k c u).instrs

  unfoldable pub cased : ℕ → Case → Drafted → Drafted
  cased k c u = with_instr_at (length (labelled k c u).instrs) (op.Jfalse (case_end k c u + 1)) (with_instr (op.Jump 0) (entered_case k c u))

  -- ---- statements of Estelle

  unfoldable pub act : Statement → List Expr → Piece
  act st es = code.act (scope_of t) st (map (expr t) es)

  -- ---- units

  -- a function's result is loaded at last
  unfoldable pub result_code : Routine → Piece
  result_code r = units.result_code (scope_of t) r r.result

  -- expressions of a clause
  unfoldable pub clause : List Expr → Piece
  clause es = units.clause_code (scope_of t) es
