-- What statements are compiled to.
use Rattle.std.specs.Prelude.{ℕ, ◌^◌, nat_lt, Bool, true, false, List, [], ◌∷◌, length, map, option_map, Option, Some, None, ℤ, Result, Ok, Err}
use Rattle.pascal_values.specs.declared.fault.Fault.TheVariants as fault
use Rattle.pascal_values.specs.declared.value.Value.TheVariants as pascal
use Rattle.pascal_values.specs.declared.value.Shape.{Shape}
use Rattle.estelle_tree.specs.declared.tree.name.Name.{Name}
use Rattle.estelle_tree.specs.declared.tree.type_expr.Const.{Const}
use Rattle.estelle_tree.specs.declared.tree.expression.Expr.{Expr}
use Rattle.estelle_tree.specs.declared.tree.expression.Args.{Args}
use Rattle.estelle_tree.specs.declared.tree.expression.Variable.{Variable}
use Rattle.estelle_tree.specs.declared.tree.statement.Direction.{Direction}
use Rattle.estelle_tree.specs.declared.tree.statement.Direction.TheVariants as direction
use Rattle.estelle_tree.specs.declared.tree.statement.Stmts.{Stmts}
use Rattle.estelle_tree.specs.declared.tree.statement.Stmt.TheOpen.{Stmt-F, Case-F, Stmts-F}
use Rattle.estelle_tree.specs.declared.tree.statement.Stmt.TheFolds.{fold-Stmts}
use Rattle.body_code.specs.declared.instr.Point as point
use Rattle.body_code.specs.declared.instr.Point.TheVariants.{Own, OfChild}
use Rattle.body_code.specs.declared.instr.Ends as ends
use Rattle.body_code.specs.declared.instr.Ends.TheVariants.{Point, Child}
use Rattle.body_code.specs.declared.instr.Instr.{Instr}
use Rattle.body_code.specs.declared.instr.Instr.TheVariants as op
use Rattle.estelle_model.specs.declared.denoter.Denoter.{Denoter}
use Rattle.estelle_model.specs.declared.denoter.Host.{Host}
use Rattle.estelle_model.specs.declared.denoter.Host.TheVariants as hosts
use Rattle.estelle_model.specs.Stops.{Stop}
use Rattle.estelle_model.specs.Types.{ordinal_of, shape_of, host_of, whole}
use Rattle.estelle_model.specs.Operators.{◌>>>◌}
use Rattle.estelle_model.specs.Constants.{constant_of}
use Rattle.estelle_model.specs.declared.meaning.Routine.{Routine}
use Rattle.estelle_model.specs.declared.meaning.Meaning.{Meaning}
use Rattle.estelle_model.specs.declared.meaning.Meaning.TheVariants.{Called, Ip, Module, Body, Own as OwnVariable, Exported, Local}
use Rattle.estelle_model.specs.declared.meaning.Passing.TheVariants.{ByValue}
use Rattle.estelle_model.specs.Definitions.{types_received}
use Rattle.estelle_model.specs.Statements.{Statement, Init, Release, Connect, Disconnect, Attach, Detach, Output}
use Rattle.estelle_model.specs.Meant.{Meanings, result_number}
use Rattle.body_compiler_pieces.specs.Pieces.{Piece, none, refused, one, ◌⨾◌, fork, loop, repeat, keep, recall, count}
use Rattle.body_compiler_pieces.specs.ExpressionCode.{by_number, Scope, Access, Operand, Selecting, expr, args, variable, accessed, give_all, call}

-- ---- `case`

abbrev pub with_ordinal : Result ℤ Stop → List ℤ → List ℤ
with_ordinal (Ok m) ms = m ∷ ms
with_ordinal (Err e) ms = ms

-- the ordinals of labels
abbrev pub ordinals_of : Meanings → List Const → List ℤ
ordinals_of meant [] = []
ordinals_of meant (c ∷ cs) = with_ordinal (constant_of meant c >>> ordinal_of) (ordinals_of meant cs)

-- code behind labels; where one of them has no ordinal, nothing is compiled
abbrev pub where_ordinal : Result ℤ Stop → Piece → Piece
where_ordinal (Ok m) p = p
where_ordinal (Err e) p = refused

abbrev pub labelled : Meanings → List Const → Piece → Piece
labelled meant [] p = p
labelled meant (c ∷ cs) p = where_ordinal (constant_of meant c >>> ordinal_of) (labelled meant cs p)

-- whether a temporary holds this integer
abbrev pub is_one : ℕ → ℤ → Piece
is_one t m = recall t ⨾ one (op.Push (pascal.Int m)) ⨾ one op.Eq

-- or one of these
abbrev pub is_one_of : ℕ → List ℤ → Piece
is_one_of t [] = one (op.Push (pascal.Bool false))
is_one_of t (m ∷ []) = is_one t m
is_one_of t (m ∷ (k ∷ ms)) = is_one t m ⨾ fork (one (op.Push (pascal.Bool true))) (is_one_of t (k ∷ ms))

-- the statement of the first case with the label that the temporary holds
abbrev pub first_of : ℕ → List (List ℤ × Piece) → Piece
first_of t [] = one (op.Fail fault.NoCase)
first_of t (c ∷ cs) = is_one_of t c.0 ⨾ fork c.1 (first_of t cs)

-- ---- `for`

-- a value alone tells which value of the type is the next one
abbrev pub is_word : Host → Bool
is_word (hosts.Enumeration last) = nat_lt last (2 ^ 32)
is_word _ = true

abbrev pub begins_code : Direction → Piece
begins_code direction.To = one op.Le
begins_code direction.Downto = one op.Ge

abbrev pub goes_code : Direction → Piece
goes_code direction.To = one op.Lt
goes_code direction.Downto = one op.Gt

abbrev pub next_instr : Direction → Instr
next_instr direction.To = op.Succ
next_instr direction.Downto = op.Pred

-- with the value of the turn and the last one in temporaries: the limit is tested before the next value is taken
abbrev pub counting : Direction → (number kind : ℕ) → (place body : Piece) → (turn last : ℕ) → Piece
counting dir number kind place body t u = count t number (next_instr dir) (recall t ⨾ recall u ⨾ begins_code dir) ((place ⨾ recall t ⨾ one (op.Store kind)) ⨾ body ⨾ recall t ⨾ recall u ⨾ goes_code dir) (place ⨾ one op.Blank)

module _ (scope : Scope) where
  -- stores by the number of the type's shape
  abbrev pub store_into : Denoter → Piece
  store_into t = by_number (scope.number (shape_of t)) (λ n. one (op.Store n))

  -- the place, then the value
  abbrev pub assign_to : Option Access → Operand → Piece
  assign_to None e = refused
  assign_to (Some a) e = a.place ⨾ e.value ⨾ store_into a.denoter

  -- a function's result is the local behind its own variables
  abbrev pub result_of : Routine → Option Denoter → Option Access
  result_of r None = None
  result_of r (Some t) = Some (record { denoter = t; place = by_number (scope.local (result_number r)) (λ i. one (op.Loc i)) })

  abbrev pub assigned : Meaning → List Selecting → Option Access
  assigned (Called r) ss = result_of r r.result
  assigned m ss = accessed scope m ss

  abbrev pub target : Variable → Option Access
  target v = assigned (scope.meant (variable scope v).name) (variable scope v).selectors

  abbrev pub value_of_expr : Expr → Piece
  value_of_expr e = (expr scope e).value

  abbrev pub or_nothing : Option Piece → Piece
  or_nothing None = none
  or_nothing (Some p) = p

  abbrev pub choose : Expr → Piece → Option Piece → Piece
  choose test then_part else_part = value_of_expr test ⨾ fork then_part (or_nothing else_part)

  -- the ordinal of the selector, which is an integer, is kept
  abbrev pub select : Expr → List (List ℤ × Piece) → Piece
  select e cases = by_number (scope.number (shape_of (whole hosts.Integer))) (λ n. keep (shape_of (whole hosts.Integer)) n (value_of_expr e ⨾ one op.Ord) (λ t. first_of t cases))

  -- a control variable whose place is the same in each turn
  abbrev pub control : Meaning → Option Access
  control (OwnVariable k t) = accessed scope (OwnVariable k t) []
  control (Exported k t) = accessed scope (Exported k t) []
  control (Local k t) = accessed scope (Local k t) []
  control _ = None

  abbrev pub count_by : Bool → Shape → Access → (first : Piece) → Direction → (last body : Piece) → Piece
  count_by false shape a first dir last body = refused
  count_by true shape a first dir last body = by_number (scope.number shape) (λ k. by_number (scope.number (shape_of a.denoter)) (λ d. keep shape k first (λ t. keep shape k last (λ u. counting dir k d a.place body t u))))

  -- the bounds are kept
  abbrev pub count_over : Option Access → (first : Piece) → Direction → (last body : Piece) → Piece
  count_over None first dir last body = refused
  count_over (Some a) first dir last body = count_by (is_word (host_of a.denoter)) (shape_of (whole (host_of a.denoter))) a first dir last body

  -- a procedure alone leaves nothing
  abbrev pub where_no_result : Option Denoter → Piece → Piece
  where_no_result None p = p
  where_no_result (Some t) p = refused

  abbrev pub invoke_of : Name → Meaning → List Operand → Piece
  invoke_of x (Called r) es = where_no_result r.result (call scope (scope.routine x) r es)
  invoke_of x _ es = refused

  abbrev pub arguments : Option Args → List Operand
  arguments None = []
  arguments (Some es) = args scope es

  -- ---- statements of Estelle (ISO/IEC 9074)

  -- an interaction point of the instance, or of the child in a module variable
  abbrev pub point_of : Meaning → Option Meaning → Option point.Point
  point_of (Ip k) None = Some (Own k)
  point_of (Module m) (Some (Ip k)) = Some (OfChild m k)
  point_of x part = None

  -- one of these, or a whole child
  abbrev pub ends_of : Meaning → Option Meaning → Option ends.Ends
  ends_of (Module m) None = Some (Child m)
  ends_of x part = option_map Point (point_of x part)

  abbrev pub meant_part : Option Name → Option Meaning
  meant_part = option_map scope.meant

  abbrev pub with_point : Option point.Point → (point.Point → Piece) → Piece
  with_point None f = refused
  with_point (Some x) f = f x

  abbrev pub connect : Option point.Point → Option point.Point → Piece
  connect x y = with_point x (λ a. with_point y (λ b. one (op.Connect a b)))

  abbrev pub disconnect : Option ends.Ends → Piece
  disconnect None = refused
  disconnect (Some x) = one (op.Disconnect x)

  abbrev pub attach : Meaning → Option point.Point → Piece
  attach (Ip k) x = with_point x (λ a. one (op.Attach k a))
  attach _ x = refused

  abbrev pub detach : Meaning → Piece
  detach (Ip k) = one (op.Detach k)
  detach _ = refused

  abbrev pub release : Meaning → Piece
  release (Module m) = one (op.Release m)
  release _ = refused

  abbrev pub output : Meaning → Option ℕ → List Denoter → Piece
  output (Ip k) (Some i) types = one (op.Output k i (length types))
  output _ _ types = refused

  abbrev pub init_with : ℕ → ℕ → Option (List Denoter) → List Operand → Piece
  init_with m k None es = refused
  init_with m k (Some types) es = give_all scope (map ByValue types) es ⨾ one (op.Init m k (length types))

  abbrev pub init : Meaning → Meaning → List Operand → Piece
  init (Module m) (Body k) es = init_with m k (scope.parameters k) es
  init _ _ es = refused

  -- the types of what a statement is given
  abbrev pub given_types : Statement → List Denoter
  given_types (Output ip m) = types_received (scope.meant m)
  given_types _ = []

  abbrev pub plan : Statement → Piece
  plan (Connect x y) = connect (point_of (scope.meant x.name) (meant_part x.part)) (point_of (scope.meant y.name) (meant_part y.part))
  plan (Disconnect x) = disconnect (ends_of (scope.meant x.name) (meant_part x.part))
  plan (Attach own x part) = attach (scope.meant own) (point_of (scope.meant x) (Some (scope.meant part)))
  plan (Detach own) = detach (scope.meant own)
  plan (Output ip m) = output (scope.meant ip) (scope.interaction ip m) (types_received (scope.meant m))
  plan (Release x) = release (scope.meant x)
  plan (Init x b) = refused

  -- the arguments come first
  abbrev pub act : Statement → List Operand → Piece
  act (Init x b) es = init (scope.meant x) (scope.meant b) es
  act st es = give_all scope (map ByValue (given_types st)) es ⨾ plan st

  abbrev pub stmt_layer : Stmt-F Piece (List ℤ × Piece) Piece → Piece
  stmt_layer Stmt-F.Empty = none
  stmt_layer (Stmt-F.Assign v e span) = assign_to (target v) (expr scope e)
  stmt_layer (Stmt-F.Call x es span) = invoke_of x (scope.meant x) (arguments es)
  stmt_layer (Stmt-F.Begin body span) = body
  stmt_layer (Stmt-F.If test then_part else_part span) = choose test then_part else_part
  stmt_layer (Stmt-F.While test body span) = loop (value_of_expr test) body
  stmt_layer (Stmt-F.Repeat body test span) = repeat (body ⨾ value_of_expr test)
  stmt_layer (Stmt-F.Count x first dir last body span) = count_over (control (scope.meant x)) (value_of_expr first) dir (value_of_expr last) body
  stmt_layer (Stmt-F.Case e cases semicolon span) = select e cases
  stmt_layer (Stmt-F.Init x b es span) = act (Init x b) (arguments es)
  stmt_layer (Stmt-F.Release x span) = act (Release x) []
  stmt_layer (Stmt-F.Connect a b span) = act (Connect a b) []
  stmt_layer (Stmt-F.Disconnect a span) = act (Disconnect a) []
  stmt_layer (Stmt-F.Attach p x q span) = act (Attach p x q) []
  stmt_layer (Stmt-F.Detach p span) = act (Detach p) []
  stmt_layer (Stmt-F.Output p m es span) = act (Output p m) (arguments es)

  abbrev pub case_layer : Case-F Piece (List ℤ × Piece) Piece → List ℤ × Piece
  case_layer c = (ordinals_of scope.meant c.labels, labelled scope.meant c.labels c.body)

  abbrev pub all : List Piece → Piece
  all [] = none
  all (p ∷ ps) = p ⨾ all ps

  abbrev pub stmts_layer : Stmts-F Piece (List ℤ × Piece) Piece → Piece
  stmts_layer x = all x.stmts

  unfoldable pub stmts : Stmts → Piece
  stmts = fold-Stmts Piece (List ℤ × Piece) Piece stmt_layer case_layer stmts_layer
