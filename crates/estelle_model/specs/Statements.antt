-- Statements (ISO 7185, 6.8), and what the statements of Estelle are given.
use Rattle.std.specs.Prelude.{Bool, false, ◌||◌, if◌then◌else◌, List, [], ◌∷◌, Option, Some, None, ℤ, Result, Ok, Err}
use Rattle.pascal_values.specs.declared.fault.Fault.TheVariants as fault
use Rattle.pascal_values.specs.declared.value.Value.{Value}
use Rattle.pascal_values.specs.Integers.{is_between}
use Rattle.estelle_tree.specs.declared.tree.name.Name.{Name}
use Rattle.estelle_tree.specs.declared.tree.type_expr.Const.{Const}
use Rattle.estelle_tree.specs.declared.tree.expression.Expr.{Expr}
use Rattle.estelle_tree.specs.declared.tree.expression.Args.{Args}
use Rattle.estelle_tree.specs.declared.tree.expression.Variable.{Variable}
use Rattle.estelle_tree.specs.declared.tree.statement.Direction.{Direction}
use Rattle.estelle_tree.specs.declared.tree.statement.Ip.{Ip}
use Rattle.estelle_tree.specs.declared.tree.statement.Stmt.{Stmt}
use Rattle.estelle_tree.specs.declared.tree.statement.Stmts.{Stmts}
use Rattle.estelle_tree.specs.declared.tree.statement.Case.{Case}
use Rattle.estelle_tree.specs.declared.tree.statement.Stmt.TheOpen.{Stmt-F, Case-F, Stmts-F}
use Rattle.estelle_tree.specs.declared.tree.statement.Stmt.TheFolds.{fold-Stmt, fold-Case, fold-Stmts}
use Rattle.estelle_model.specs.Stops.{Stop}
use Rattle.estelle_model.specs.Types.{ordinal_of, host_of}
use Rattle.estelle_model.specs.Operators.{◌>>>◌}
use Rattle.estelle_model.specs.Constants.{constant_of}
use Rattle.estelle_model.specs.States.{Offers}
use Rattle.estelle_model.specs.Steps.{Step, Do, ◌>>=◌, pure, fail, breaks, all}
use Rattle.estelle_model.specs.declared.meaning.Meaning.{Meaning}
use Rattle.estelle_model.specs.declared.meaning.Meaning.TheVariants.{Called}
use Rattle.estelle_model.specs.Meant.{Meanings}
use Rattle.estelle_model.specs.Places.{blank_at, store, store_ordinal}
use Rattle.estelle_model.specs.declared.place.Environment.{Environment}
use Rattle.estelle_model.specs.Expressions.{Call, Operand, Access, bool_step, bound_step, selector_step, give_all, no_arguments, expr, args, target, accessed}
use Rattle.estelle_model.specs.Loops.{while_loop, repeat_loop, count_loop}

-- the statements of Estelle (ISO/IEC 9074), by what they name
pub data Statement : Type 0 where
  Init : (module_variable body : Name) → Statement
  Release : (module_variable : Name) → Statement
  Connect : (first second : Ip) → Statement
  Disconnect : (a : Ip) → Statement
  Attach : (own module_variable ip : Name) → Statement
  Detach : (own : Name) → Statement
  Output : (ip interaction : Name) → Statement

-- a statement of Estelle as it is written, with its arguments; a statement of Pascal is none
abbrev pub statement_of : {A B C : Type 0} → Stmt-F A B C → Option (Statement × Option Args)
statement_of (Stmt-F.Init x b es span) = Some (Init x b, es)
statement_of (Stmt-F.Release x span) = Some (Release x, None)
statement_of (Stmt-F.Connect a b span) = Some (Connect a b, None)
statement_of (Stmt-F.Disconnect a span) = Some (Disconnect a, None)
statement_of (Stmt-F.Attach p x q span) = Some (Attach p x q, None)
statement_of (Stmt-F.Detach p span) = Some (Detach p, None)
statement_of (Stmt-F.Output p m es span) = Some (Output p m, es)
statement_of _ = None

-- what a statement of Estelle does with its arguments
abbrev pub Acts : Type 0 → Type 0
Acts S = Environment → Statement → List (Operand S) → Do S

-- ---- labels

abbrev pub has_ordinal : ℤ → Result ℤ Stop → Bool
has_ordinal n (Ok m) = is_between n n m
has_ordinal n (Err e) = false

-- one of the labels is the value with this ordinal
abbrev pub is_labelled : Meanings → ℤ → List Const → Bool
is_labelled meant n [] = false
is_labelled meant n (c ∷ cs) = has_ordinal n (constant_of meant c >>> ordinal_of) || is_labelled meant n cs

-- the statement of the first case with the label; NoCase where there is none
abbrev pub chosen : {S : Type 0} → Meanings → ℤ → List (List Const × Do S) → Do S
chosen meant n [] = fail fault.NoCase
chosen meant n (c ∷ cs) = if is_labelled meant n c.0 then c.1 else chosen meant n cs

abbrev pub or_nothing : {S : Type 0} → Option (Do S) → Do S
or_nothing None = pure tt
or_nothing (Some p) = p

module _ (S : Type 0) (on : Offers S) (meant : Meanings) (act : Acts S) (call : Call S) (here : Environment) where
  abbrev pub value_of_expr : Expr → Step S Value
  value_of_expr e = (expr S on meant call here e).value

  abbrev pub arguments : Option Args → List (Operand S)
  arguments None = []
  arguments (Some es) = args S on meant call here es

  abbrev pub assign_to : Option (Access S) → Step S Value → Do S
  assign_to None p = breaks
  assign_to (Some a) p = do
    place ← a.place
    v ← p
    store S on a.denoter place v

  -- the left side with its indices, then the right side, then the fit
  unfoldable pub assign : Variable → Expr → Do S
  assign v e = assign_to (target S on meant call here v) (value_of_expr e)

  abbrev pub invoke_of : Meaning → List (Operand S) → Do S
  invoke_of (Called r) es = do
    given ← give_all r.parameters es no_arguments
    result ← call r given
    pure tt
  invoke_of _ es = breaks

  unfoldable pub invoke : Name → Option Args → Do S
  invoke x es = invoke_of (meant x) (arguments es)

  unfoldable pub choose : Expr → Do S → Option (Do S) → Do S
  choose test then_part else_part = do
    b ← bool_step (value_of_expr test)
    if b then then_part else or_nothing else_part

  abbrev pub count_over : Option (Access S) → Step S Value → Direction → Step S Value → Do S → Do S
  count_over None first dir last body = breaks
  count_over (Some a) first dir last body = do
    m ← bound_step (host_of a.denoter) first
    n ← bound_step (host_of a.denoter) last
    place ← a.place
    count_loop dir m n (λ k. store_ordinal S on a.denoter place k) (blank_at S on place) body

  -- the bounds, which are values of the variable's host type, are evaluated once
  unfoldable pub count : Name → Expr → Direction → Expr → Do S → Do S
  count x first dir last body = count_over (accessed S on meant call here (meant x) []) (value_of_expr first) dir (value_of_expr last) body

  unfoldable pub select : Expr → List (List Const × Do S) → Do S
  select e cases = selector_step (value_of_expr e) >>= λ n. chosen meant n cases

  abbrev pub acted : Option (Statement × Option Args) → Do S
  acted None = breaks
  acted (Some x) = act here x.0 (arguments x.1)

  abbrev pub stmt_layer : Stmt-F (Do S) (List Const × Do S) (Do S) → Do S
  stmt_layer Stmt-F.Empty = pure tt
  stmt_layer (Stmt-F.Assign v e span) = assign v e
  stmt_layer (Stmt-F.Call x es span) = invoke x es
  stmt_layer (Stmt-F.Begin body span) = body
  stmt_layer (Stmt-F.If test then_part else_part span) = choose test then_part else_part
  stmt_layer (Stmt-F.While test body span) = while_loop (bool_step (value_of_expr test)) body
  stmt_layer (Stmt-F.Repeat body test span) = repeat_loop body (bool_step (value_of_expr test))
  stmt_layer (Stmt-F.Count x first dir last body span) = count x first dir last body
  stmt_layer (Stmt-F.Case e cases semicolon span) = select e cases
  stmt_layer x = acted (statement_of x)

  abbrev pub case_layer : Case-F (Do S) (List Const × Do S) (Do S) → List Const × Do S
  case_layer c = (c.labels, c.body)

  abbrev pub stmts_layer : Stmts-F (Do S) (List Const × Do S) (Do S) → Do S
  stmts_layer x = all x.stmts

  unfoldable pub stmt : Stmt → Do S
  stmt = fold-Stmt (Do S) (List Const × Do S) (Do S) stmt_layer case_layer stmts_layer

  unfoldable pub branch : Case → List Const × Do S
  branch = fold-Case (Do S) (List Const × Do S) (Do S) stmt_layer case_layer stmts_layer

  unfoldable pub stmts : Stmts → Do S
  stmts = fold-Stmts (Do S) (List Const × Do S) (Do S) stmt_layer case_layer stmts_layer
