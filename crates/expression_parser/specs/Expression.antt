-- Expressions, read from left to right. The *room* is how many more levels of nesting may open.
use Rattle.std.specs.Prelude.{◌≡◌, ℕ, zero, suc, ◌==◌, Bool, true, false, if◌then◌else◌, List, [], Option, Some, None, Ok}
use Rattle.estelle_tree.specs.declared.kind.Kind.{Kind}
use Rattle.estelle_tree.specs.declared.kind.Kind.TheVariants as k
use Rattle.estelle_tree.specs.declared.tree.name.Name.{Name}
use Rattle.estelle_tree.specs.declared.tree.expression.Relation.{Relation}
use Rattle.estelle_tree.specs.declared.tree.expression.Relation.TheVariants as relation
use Rattle.estelle_tree.specs.declared.tree.expression.Adding.{Adding}
use Rattle.estelle_tree.specs.declared.tree.expression.Adding.TheVariants as adding
use Rattle.estelle_tree.specs.declared.tree.expression.Multiplying.{Multiplying}
use Rattle.estelle_tree.specs.declared.tree.expression.Multiplying.TheVariants as multiplying
use Rattle.estelle_tree.specs.declared.tree.expression.Expr.{Expr, roll-Expr}
use Rattle.estelle_tree.specs.declared.tree.expression.Simple.{Simple, roll-Simple}
use Rattle.estelle_tree.specs.declared.tree.expression.Term.{Term, roll-Term}
use Rattle.estelle_tree.specs.declared.tree.expression.Factor.{Factor}
use Rattle.estelle_tree.specs.declared.tree.expression.Factor.TheVariants as form
use Rattle.estelle_tree.specs.declared.tree.expression.Elem.{Elem, roll-Elem}
use Rattle.estelle_tree.specs.declared.tree.expression.Args.{Args, roll-Args}
use Rattle.estelle_tree.specs.declared.tree.expression.Variable.{Variable, roll-Variable}
use Rattle.estelle_tree.specs.declared.tree.expression.Selector.{Selector}
use Rattle.estelle_tree.specs.declared.tree.expression.Selector.TheVariants as selector
use Rattle.estelle_tree.specs.Input.{Input, kind}
use Rattle.token_reader.specs.Reader.{Parser, ◌>>=◌, ◌>>◌, pure, refuse, peek, here, since, take, sees, expect, number, char, name}
use Rattle.token_reader.specs.Lists.{behind, mark, marked, repeated, separated}
pub use Rattle.syntax_forms.specs.Types.{sign_of}

-- ---- what the next token tells

abbrev pub relation_of : Kind → Option Relation
relation_of k.Equal = Some relation.Equal
relation_of k.NotEqual = Some relation.NotEqual
relation_of k.Less = Some relation.Less
relation_of k.AtMost = Some relation.AtMost
relation_of k.Greater = Some relation.Greater
relation_of k.AtLeast = Some relation.AtLeast
relation_of k.In = Some relation.Member
relation_of _ = None

abbrev pub adding_of : Kind → Option Adding
adding_of k.Plus = Some adding.Plus
adding_of k.Minus = Some adding.Minus
adding_of k.Or = Some adding.Or
adding_of _ = None

abbrev pub multiplying_of : Kind → Option Multiplying
multiplying_of k.Star = Some multiplying.Star
multiplying_of k.Div = Some multiplying.Div
multiplying_of k.Mod = Some multiplying.Mod
multiplying_of k.And = Some multiplying.And
multiplying_of _ = None

-- with these an expression can begin
abbrev pub begins_expr : Kind → Bool
begins_expr k.Plus = true
begins_expr k.Minus = true
begins_expr k.Number = true
begins_expr k.Char = true
begins_expr k.Name = true
begins_expr k.OpenParenthesis = true
begins_expr k.OpenBracket = true
begins_expr k.Not = true
begins_expr _ = false

-- with these an expression can go on where it could end
abbrev pub goes_on_expr : Kind → Bool
goes_on_expr k.Equal = true
goes_on_expr k.NotEqual = true
goes_on_expr k.Less = true
goes_on_expr k.AtMost = true
goes_on_expr k.Greater = true
goes_on_expr k.AtLeast = true
goes_on_expr k.In = true
goes_on_expr k.Plus = true
goes_on_expr k.Minus = true
goes_on_expr k.Or = true
goes_on_expr k.Star = true
goes_on_expr k.Div = true
goes_on_expr k.Mod = true
goes_on_expr k.And = true
goes_on_expr k.OpenParenthesis = true
goes_on_expr k.OpenBracket = true
goes_on_expr k.Dot = true
goes_on_expr _ = false

-- ---- expressions, over the parser of the factors in them
module _ (factor : Parser Factor) where
  -- Term = Factor {("*" | div | mod | and) Factor}
  unfoldable pub term_over : Parser Term
  term_over = do
    from ← here
    first ← factor
    others ← repeated (marked multiplying_of factor) []
    span ← since from
    pure (roll-Term (record { first = first; others = others; span = span }))

  -- Simple = ["+" | "-"] Term {("+" | "-" | or) Term}
  unfoldable pub simple_over : Parser Simple
  simple_over = do
    from ← here
    sign ← mark sign_of
    first ← term_over
    others ← repeated (marked adding_of term_over) []
    span ← since from
    pure (roll-Simple (record { sign = sign; first = first; others = others; span = span }))

  -- Expr = Simple [("=" | "<>" | "<" | "<=" | ">" | ">=" | in) Simple]
  unfoldable pub expr_over : Parser Expr
  expr_over = do
    from ← here
    first ← simple_over
    second ← marked relation_of simple_over
    span ← since from
    pure (roll-Expr (record { left = first; right = second; span = span }))

  -- Args = Expr {"," Expr}
  unfoldable pub args_over : Parser Args
  args_over = do
    from ← here
    exprs ← separated k.Comma expr_over
    span ← since from
    pure (roll-Args (record { exprs = exprs; span = span }))

  -- Elem = Expr [".." Expr]
  unfoldable pub elem_over : Parser Elem
  elem_over = do
    from ← here
    first ← expr_over
    last ← behind k.Dots expr_over
    span ← since from
    pure (roll-Elem (record { first = first; last = last; span = span }))

  -- `[Elem {"," Elem}]`, before `]`
  unfoldable pub elems_over : Parser (List Elem)
  elems_over = λ i. if sees k.CloseBracket i then Ok ([], i) else separated k.Comma elem_over i

-- `NUMBER`
unfoldable pub number_factor : Parser Factor
number_factor = do
  from ← here
  n ← number
  span ← since from
  pure (form.Number n span)

-- `CHAR`
unfoldable pub char_factor : Parser Factor
char_factor = do
  from ← here
  c ← char
  span ← since from
  pure (form.Char c span)

-- `"." NAME`
unfoldable pub field : Parser Selector
field = do
  take
  n ← name
  pure (selector.Field n)

-- takes a word or a bracket that opens a level, and refuses it where none may open
abbrev pub nest : ℕ → Parser (Unit {0})
nest zero = refuse
nest (suc room) = take

-- a form that opens a level goes on only where one may open: else another stands there
abbrev pub where_room : {A : Type 0} → ℕ → Parser A → Parser A → Parser A
where_room room item other = if room == 0 then other else item

-- ---- variables and factors, over the parser of the factors one level down
module _ (room : ℕ) (below : Parser Factor) where
  -- `"[" Expr {"," Expr} "]"`
  unfoldable pub index_over : Parser Selector
  index_over = do
    nest room
    exprs ← separated k.Comma (expr_over below)
    expect k.CloseBracket
    pure (selector.Index exprs)

  -- a bracket that would open a level too many is none of the variable's
  abbrev pub may_be_index : Parser (Option Selector)
  may_be_index = where_room room (index_over >>= λ s. pure (Some s)) (pure None)

  abbrev pub selector_by : Kind → Parser (Option Selector)
  selector_by k.OpenBracket = may_be_index
  selector_by k.Dot = field >>= λ s. pure (Some s)
  selector_by _ = pure None

  unfoldable pub selector_over : Parser (Option Selector)
  selector_over = λ i. selector_by (kind i) i

  -- a variable after its name, which starts there
  unfoldable pub variable_after : ℕ → Name → Parser Variable
  variable_after from first = do
    selectors ← repeated selector_over []
    span ← since from
    pure (roll-Variable (record { name = first; selectors = selectors; span = span }))

  -- Variable = NAME {"[" Expr {"," Expr} "]" | "." NAME}
  unfoldable pub variable_over : Parser Variable
  variable_over = do
    from ← here
    first ← name
    variable_after from first

  -- `NAME "(" Args ")"` after its name, which starts there
  unfoldable pub call_after : ℕ → Name → Parser Factor
  call_after from called = do
    nest room
    given ← args_over below
    expect k.CloseParenthesis
    span ← since from
    pure (form.Call called given span)

  abbrev pub plain_after : ℕ → Name → Parser Factor
  plain_after from first = variable_after from first >>= λ v. pure (form.Variable v)

  -- a variable or a call after its name: the next kind tells, and whether a level may open
  abbrev pub named_by : ℕ → Name → Kind → Parser Factor
  named_by from first k.OpenParenthesis = where_room room (call_after from first) (plain_after from first)
  named_by from first _ = plain_after from first

  unfoldable pub named : Parser Factor
  named = do
    from ← here
    first ← name
    next ← peek
    named_by from first next

  -- `"(" Expr ")"`
  unfoldable pub paren_over : Parser Factor
  paren_over = do
    from ← here
    nest room
    inner ← expr_over below
    expect k.CloseParenthesis
    span ← since from
    pure (form.Paren inner span)

  -- `not Factor`
  unfoldable pub not_over : Parser Factor
  not_over = do
    from ← here
    nest room
    operand ← below
    span ← since from
    pure (form.Not operand span)

  -- `"[" [Elem {"," Elem}] "]"`
  unfoldable pub set_over : Parser Factor
  set_over = do
    from ← here
    nest room
    elems ← elems_over below
    expect k.CloseBracket
    span ← since from
    pure (form.Set elems span)

  -- the first token tells which factor comes
  abbrev pub factor_by : Kind → Parser Factor
  factor_by k.Number = number_factor
  factor_by k.Char = char_factor
  factor_by k.Name = named
  factor_by k.OpenParenthesis = paren_over
  factor_by k.Not = not_over
  factor_by k.OpenBracket = set_over
  factor_by _ = refuse

  unfoldable pub factor_over : Parser Factor
  factor_over = peek >>= factor_by

-- one level down from where this many levels may open: nothing, where none may
unfoldable pub factor_below : ℕ → Parser Factor
factor_below zero = refuse
factor_below (suc room) = factor_over room (factor_below room)

-- ---- where this many more levels of nesting may open
abbrev pub factor : ℕ → Parser Factor
factor room = factor_over room (factor_below room)

unfoldable pub expr : ℕ → Parser Expr
expr room = expr_over (factor room)

unfoldable pub args : ℕ → Parser Args
args room = args_over (factor room)

unfoldable pub variable : ℕ → Parser Variable
variable room = variable_over room (factor_below room)

-- a place where nothing that comes next goes on with the expression before
abbrev pub EndsExpr : Input → Type 0
EndsExpr j = goes_on_expr (kind j) ≡ false
