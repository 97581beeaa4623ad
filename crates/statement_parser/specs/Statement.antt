-- Statements, read from left to right. The *room* is how many more levels of nesting may open.
use Rattle.std.specs.Prelude.{◌≡◌, ℕ, zero, suc, Bool, true, false, ◌||◌, Option}
use Rattle.estelle_tree.specs.declared.kind.Kind.{Kind}
use Rattle.estelle_tree.specs.declared.kind.Kind.TheVariants as k
use Rattle.estelle_tree.specs.declared.tree.name.Name.{Name}
use Rattle.estelle_tree.specs.declared.tree.expression.Args.{Args}
use Rattle.estelle_tree.specs.declared.tree.expression.Expr.{Expr}
use Rattle.estelle_tree.specs.declared.tree.statement.Direction.{Direction}
use Rattle.estelle_tree.specs.declared.tree.statement.Direction.TheVariants as direction
use Rattle.estelle_tree.specs.declared.tree.statement.Ip.{Ip}
use Rattle.estelle_tree.specs.declared.tree.statement.Stmt.{Stmt}
use Rattle.estelle_tree.specs.declared.tree.statement.Stmt.TheVariants as form
use Rattle.estelle_tree.specs.declared.tree.statement.Stmts.{Stmts, roll-Stmts}
use Rattle.estelle_tree.specs.declared.tree.statement.Case.{Case, roll-Case}
use Rattle.estelle_tree.specs.Input.{Input, kind}
use Rattle.token_reader.specs.Reader.{Parser, ◌>>=◌, ◌>>◌, pure, refuse, peek, peek_second, here, remaining, since, since_over, take, eat, expect, name}
use Rattle.token_reader.specs.Lists.{optional, behind, separated, separated_if}
use Rattle.expression_parser.specs.Expression.{goes_on_expr, where_room, expr, args, variable}
use Rattle.type_parser.specs.Types.{begins_constant, constant}

-- ---- what the next token tells

-- with these a statement that is not empty begins
abbrev pub begins_stmt : Kind → Bool
begins_stmt k.Name = true
begins_stmt k.Begin = true
begins_stmt k.If = true
begins_stmt k.While = true
begins_stmt k.Repeat = true
begins_stmt k.For = true
begins_stmt k.Case = true
begins_stmt k.Init = true
begins_stmt k.Release = true
begins_stmt k.Connect = true
begins_stmt k.Disconnect = true
begins_stmt k.Attach = true
begins_stmt k.Detach = true
begins_stmt k.Output = true
begins_stmt _ = false

-- with these a statement can go on where it could end, or begin where it could be empty: one that is
-- whole, so that no `if` at its end can take an `else`
abbrev pub goes_on_whole : Kind → Bool
goes_on_whole k.Becomes = true
goes_on_whole kind' = goes_on_expr kind' || begins_stmt kind'

-- the same of any statement
abbrev pub goes_on_stmt : Kind → Bool
goes_on_stmt k.Else = true
goes_on_stmt kind' = goes_on_whole kind'

-- with these a statement sequence can go on where it could end
abbrev pub goes_on_stmts : Kind → Bool
goes_on_stmts k.Semicolon = true
goes_on_stmts kind' = goes_on_stmt kind'

abbrev pub begins_args : Kind → Bool
begins_args k.OpenParenthesis = true
begins_args _ = false

-- ---- statements that have no others in them, where this many more levels may open

-- Ip = NAME ["." NAME]
unfoldable pub ip : Parser Ip
ip = do
  from ← here
  n ← name
  part ← behind k.Dot name
  span ← since from
  pure (record { name = n; part = part; span = span })

-- `"(" Args ")"`: these parentheses open no level
unfoldable pub given_args : ℕ → Parser Args
given_args room = do
  expect k.OpenParenthesis
  given ← args room
  expect k.CloseParenthesis
  pure given

-- `["(" Args ")"]`
abbrev pub may_be_args : ℕ → Parser (Option Args)
may_be_args room = optional begins_args (given_args room)

-- `Variable ":=" Expr`
unfoldable pub assignment : ℕ → Parser Stmt
assignment room = do
  from ← here
  target ← variable room
  expect k.Becomes
  value ← expr room
  span ← since from
  pure (form.Assign target value span)

-- `NAME ["(" Args ")"]`
unfoldable pub call : ℕ → Parser Stmt
call room = do
  from ← here
  n ← name
  given ← may_be_args room
  span ← since from
  pure (form.Call n given span)

-- what a NAME begins is an assignment where `:=`, `[` or `.` comes next, and else a call
abbrev pub named_by : ℕ → Kind → Parser Stmt
named_by room k.Becomes = assignment room
named_by room k.OpenBracket = where_room room (assignment room) (call room)
named_by room k.Dot = assignment room
named_by room _ = call room

-- `init NAME with NAME ["(" Args ")"]`
unfoldable pub init : ℕ → Parser Stmt
init room = do
  from ← here
  expect k.Init
  modvar ← name
  expect k.With
  body ← name
  given ← may_be_args room
  span ← since from
  pure (form.Init modvar body given span)

-- `release NAME`
unfoldable pub release : Parser Stmt
release = do
  from ← here
  expect k.Release
  modvar ← name
  span ← since from
  pure (form.Release modvar span)

-- `connect Ip to Ip`
unfoldable pub connect : Parser Stmt
connect = do
  from ← here
  expect k.Connect
  first ← ip
  expect k.To
  second ← ip
  span ← since from
  pure (form.Connect first second span)

-- `disconnect Ip`
unfoldable pub disconnect : Parser Stmt
disconnect = do
  from ← here
  expect k.Disconnect
  p ← ip
  span ← since from
  pure (form.Disconnect p span)

-- `attach NAME to NAME "." NAME`
unfoldable pub attach : Parser Stmt
attach = do
  from ← here
  expect k.Attach
  own ← name
  expect k.To
  modvar ← name
  expect k.Dot
  p ← name
  span ← since from
  pure (form.Attach own modvar p span)

-- `detach NAME`
unfoldable pub detach : Parser Stmt
detach = do
  from ← here
  expect k.Detach
  own ← name
  span ← since from
  pure (form.Detach own span)

-- `output NAME "." NAME ["(" Args ")"]`
unfoldable pub output : ℕ → Parser Stmt
output room = do
  from ← here
  expect k.Output
  p ← name
  expect k.Dot
  interaction ← name
  given ← may_be_args room
  span ← since from
  pure (form.Output p interaction given span)

-- ---- levels

-- takes a word that opens a level, and refuses it where none may open
unfoldable pub opens : ℕ → Kind → Parser (Unit {0})
opens zero word = refuse
opens (suc room) word = expect word

-- an expression one level down from where this many may open
unfoldable pub expr_below : ℕ → Parser Expr
expr_below zero = refuse
expr_below (suc room) = expr room

-- `to | downto`
abbrev pub direction_by : Kind → Parser Direction
direction_by k.To = take >> pure direction.To
direction_by k.Downto = take >> pure direction.Downto
direction_by _ = refuse

unfoldable pub direction_word : Parser Direction
direction_word = peek >>= direction_by

-- `NAME ":=" Expr`, the expression one level down from where this many may open
unfoldable pub start_bound : ℕ → Parser (Name × Expr)
start_bound room = do
  n ← name
  expect k.Becomes
  first ← expr_below room
  pure (n, first)

-- `(to | downto) Expr do`
unfoldable pub end_bound : ℕ → Parser (Direction × Expr)
end_bound room = do
  way ← direction_word
  last ← expr_below room
  expect k.Do
  pure (way, last)

-- `NAME ":=" Expr (to | downto) Expr do`
unfoldable pub bounds : ℕ → Parser (Name × Expr × Direction × Expr)
bounds room = do
  from ← start_bound room
  to ← end_bound room
  pure (from.0, from.1, to.0, to.1)

-- ---- over the parser of the statements in them
module _ (item : Parser Stmt) where
  -- Stmts = Stmt {";" Stmt}
  unfoldable pub stmts_over : Parser Stmts
  stmts_over = do
    from ← here
    before ← remaining
    found ← separated k.Semicolon item
    span ← since_over from before
    pure (roll-Stmts (record { stmts = found; span = span }))

  -- `[else Stmt]`
  abbrev pub else_over : Parser (Option Stmt)
  else_over = behind k.Else item

  -- Case = Const {"," Const} ":" Stmt
  unfoldable pub case_over : Parser Case
  case_over = do
    from ← here
    labels ← separated k.Comma constant
    expect k.Colon
    body ← item
    span ← since from
    pure (roll-Case (record { labels = labels; body = body; span = span }))

-- ---- over the parser of the statements one level down
module _ (room : ℕ) (below : Parser Stmt) where
  -- `begin Stmts end`
  unfoldable pub begin_over : Parser Stmt
  begin_over = do
    from ← here
    opens room k.Begin
    found ← stmts_over below
    expect k.End
    span ← since from
    pure (form.Begin found span)

  -- `if Expr then Stmt [else Stmt]`: it takes each `else` that it can, so that one belongs to the nearest `if`
  unfoldable pub if_over : Parser Stmt
  if_over = do
    from ← here
    opens room k.If
    condition ← expr_below room
    expect k.Then
    then_part ← below
    else_part ← else_over below
    span ← since from
    pure (form.If condition then_part else_part span)

  -- `while Expr do Stmt`
  unfoldable pub while_over : Parser Stmt
  while_over = do
    from ← here
    opens room k.While
    condition ← expr_below room
    expect k.Do
    body ← below
    span ← since from
    pure (form.While condition body span)

  -- `repeat Stmts until Expr`
  unfoldable pub repeat_over : Parser Stmt
  repeat_over = do
    from ← here
    opens room k.Repeat
    found ← stmts_over below
    expect k.Until
    condition ← expr_below room
    span ← since from
    pure (form.Repeat found condition span)

  -- `for NAME ":=" Expr (to | downto) Expr do Stmt`
  unfoldable pub for_over : Parser Stmt
  for_over = do
    from ← here
    opens room k.For
    counted ← bounds room
    body ← below
    span ← since from
    pure (form.Count counted.0 counted.1 counted.2 counted.3 body span)

  -- `case Expr of Case {";" Case} [";"] end`
  unfoldable pub case_stmt_over : Parser Stmt
  case_stmt_over = do
    from ← here
    opens room k.Case
    selector ← expr_below room
    expect k.Of
    cases ← separated_if k.Semicolon begins_constant (case_over below)
    semicolon ← eat k.Semicolon
    expect k.End
    span ← since from
    pure (form.Case selector cases semicolon span)

  -- which statement a word begins that opens a level
  abbrev pub nested_by : Kind → Parser Stmt
  nested_by k.Begin = begin_over
  nested_by k.If = if_over
  nested_by k.While = while_over
  nested_by k.Repeat = repeat_over
  nested_by k.For = for_over
  nested_by k.Case = case_stmt_over
  nested_by _ = pure form.Empty

  -- the empty one stands there where no level may open
  abbrev pub nested : Kind → Parser Stmt
  nested kind' = where_room room (nested_by kind') (pure form.Empty)

  -- the first token tells which statement comes, and the second one at a NAME
  abbrev pub stmt_by : Kind → Kind → Parser Stmt
  stmt_by k.Name second = named_by room second
  stmt_by k.Begin _ = nested k.Begin
  stmt_by k.If _ = nested k.If
  stmt_by k.While _ = nested k.While
  stmt_by k.Repeat _ = nested k.Repeat
  stmt_by k.For _ = nested k.For
  stmt_by k.Case _ = nested k.Case
  stmt_by k.Init _ = init room
  stmt_by k.Release _ = release
  stmt_by k.Connect _ = connect
  stmt_by k.Disconnect _ = disconnect
  stmt_by k.Attach _ = attach
  stmt_by k.Detach _ = detach
  stmt_by k.Output _ = output room
  stmt_by _ _ = pure form.Empty

  unfoldable pub stmt_over : Parser Stmt
  stmt_over = do
    first ← peek
    second ← peek_second
    stmt_by first second

-- one level down from where this many levels may open: nothing, where none may
unfoldable pub stmt_below : ℕ → Parser Stmt
stmt_below zero = refuse
stmt_below (suc room) = stmt_over room (stmt_below room)

-- ---- where this many more levels of nesting may open
abbrev pub stmt : ℕ → Parser Stmt
stmt room = stmt_below (suc room)

abbrev pub stmts : ℕ → Parser Stmts
stmts room = stmts_over (stmt room)

-- ---- places where nothing that stands next goes on with the piece before
abbrev pub EndsWhole : Input → Type 0
EndsWhole j = goes_on_whole (kind j) ≡ false

abbrev pub EndsStmts : Input → Type 0
EndsStmts j = goes_on_stmts (kind j) ≡ false
