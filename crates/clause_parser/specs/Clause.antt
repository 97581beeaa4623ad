-- Labels and clauses, read from left to right. The *room* is how many more levels of nesting may open.
use Rattle.std.specs.Prelude.{ℕ, Bool, true, false}
use Rattle.estelle_tree.specs.declared.kind.Kind.{Kind}
use Rattle.estelle_tree.specs.declared.kind.Kind.TheVariants as k
use Rattle.estelle_tree.specs.declared.tree.name.NameList.{NameList}
use Rattle.estelle_tree.specs.declared.tree.clause.Label.{Label}
use Rattle.estelle_tree.specs.declared.tree.clause.AnyDom.{AnyDom}
use Rattle.estelle_tree.specs.declared.tree.clause.NextState.{NextState}
use Rattle.estelle_tree.specs.declared.tree.clause.NextState.TheVariants as a_state
use Rattle.estelle_tree.specs.declared.tree.clause.DelayHigh.{DelayHigh}
use Rattle.estelle_tree.specs.declared.tree.clause.DelayHigh.TheVariants as a_high
use Rattle.estelle_tree.specs.declared.tree.clause.Clause.{Clause}
use Rattle.estelle_tree.specs.declared.tree.clause.Clause.TheVariants as a_clause
use Rattle.token_reader.specs.Reader.{Parser, ◌>>=◌, ◌>>◌, pure, refuse, peek, here, since, take, expect, name}
use Rattle.token_reader.specs.Lists.{optional, behind, ended, separated}
use Rattle.type_parser.specs.Types.{names, constant, ordinal}
use Rattle.expression_parser.specs.Expression.{goes_on_expr, expr}

-- ---- what the next token tells

abbrev pub begins_label : Kind → Bool
begins_label k.NameWord = true
begins_label _ = false

abbrev pub begins_params : Kind → Bool
begins_params k.OpenParenthesis = true
begins_params _ = false

abbrev pub begins_clause : Kind → Bool
begins_clause k.From = true
begins_clause k.To = true
begins_clause k.When = true
begins_clause k.Provided = true
begins_clause k.Priority = true
begins_clause k.Any = true
begins_clause k.Delay = true
begins_clause _ = false

-- with these a clause can go on where it could end
abbrev pub goes_on_clause : Kind → Bool
goes_on_clause k.Comma = true
goes_on_clause kind' = goes_on_expr kind'

-- ---- labels

-- Label = name NAME ":"
unfoldable pub label : Parser Label
label = do
  from ← here
  expect k.NameWord
  n ← name
  expect k.Colon
  span ← since from
  pure (record { name = n; span = span })

-- ---- parts of clauses

-- AnyDom = Names ":" Ord
unfoldable pub any_dom : Parser AnyDom
any_dom = do
  from ← here
  found ← names
  expect k.Colon
  domain ← ordinal
  span ← since from
  pure (record { names = found; domain = domain; span = span })

-- `NAME | same`
abbrev pub next_state_by : Kind → Parser NextState
next_state_by k.Same = take >> pure a_state.Same
next_state_by _ = name >>= λ n. pure (a_state.Name n)

unfoldable pub next_state : Parser NextState
next_state = peek >>= next_state_by

-- `"(" Names ")"`
unfoldable pub params : Parser NameList
params = do
  expect k.OpenParenthesis
  found ← names
  expect k.CloseParenthesis
  pure found

-- `Expr | "*"`
abbrev pub delay_high_by : ℕ → Kind → Parser DelayHigh
delay_high_by room k.Star = take >> pure a_high.Star
delay_high_by room _ = expr room >>= λ e. pure (a_high.Expr e)

unfoldable pub delay_high : ℕ → Parser DelayHigh
delay_high room = peek >>= delay_high_by room

-- ---- clauses

-- `from Names`
unfoldable pub from_clause : Parser Clause
from_clause = do
  from ← here
  expect k.From
  states ← names
  span ← since from
  pure (a_clause.From states span)

-- `to (NAME | same)`
unfoldable pub to_clause : Parser Clause
to_clause = do
  from ← here
  expect k.To
  state ← next_state
  span ← since from
  pure (a_clause.To state span)

-- `when NAME "." NAME ["(" Names ")"]`
unfoldable pub when_clause : Parser Clause
when_clause = do
  from ← here
  expect k.When
  ip ← name
  expect k.Dot
  interaction ← name
  found ← optional begins_params params
  span ← since from
  pure (a_clause.When ip interaction found span)

-- `provided Expr`
unfoldable pub provided_clause : ℕ → Parser Clause
provided_clause room = do
  from ← here
  expect k.Provided
  condition ← expr room
  span ← since from
  pure (a_clause.Provided condition span)

-- `priority Const`
unfoldable pub priority_clause : Parser Clause
priority_clause = do
  from ← here
  expect k.Priority
  value ← constant
  span ← since from
  pure (a_clause.Priority value span)

-- `any AnyDom {";" AnyDom} do`
unfoldable pub any_clause : Parser Clause
any_clause = do
  from ← here
  expect k.Any
  domains ← separated k.Semicolon any_dom
  expect k.Do
  span ← since from
  pure (a_clause.Any domains span)

-- `delay "(" Expr ["," (Expr | "*")] ")"`
unfoldable pub delay_clause : ℕ → Parser Clause
delay_clause room = do
  from ← here
  expect k.Delay
  expect k.OpenParenthesis
  low ← expr room
  high ← ended k.CloseParenthesis (behind k.Comma (delay_high room))
  span ← since from
  pure (a_clause.Delay low high span)

abbrev pub clause_by : ℕ → Kind → Parser Clause
clause_by room k.From = from_clause
clause_by room k.To = to_clause
clause_by room k.When = when_clause
clause_by room k.Provided = provided_clause room
clause_by room k.Priority = priority_clause
clause_by room k.Any = any_clause
clause_by room k.Delay = delay_clause room
clause_by room _ = refuse

unfoldable pub clause : ℕ → Parser Clause
clause room = peek >>= clause_by room
