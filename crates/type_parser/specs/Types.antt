-- Names, constants and types, read from left to right.
use Rattle.std.specs.Prelude.{◌≡◌, ℕ, zero, suc, ◌==◌, Bool, if◌then◌else◌, true, false, Option, None}
use Rattle.estelle_tree.specs.declared.kind.Kind.{Kind}
use Rattle.estelle_tree.specs.declared.kind.Kind.TheVariants as k
use Rattle.estelle_tree.specs.declared.tree.name.NameList.{NameList}
use Rattle.estelle_tree.specs.declared.tree.type_expr.Sign.{Sign}
use Rattle.estelle_tree.specs.declared.tree.type_expr.Const.{Const}
use Rattle.estelle_tree.specs.declared.tree.type_expr.Const.TheVariants as const
use Rattle.estelle_tree.specs.declared.tree.type_expr.Ordinal.{Ordinal}
use Rattle.estelle_tree.specs.declared.tree.type_expr.Ordinal.TheVariants as an_ordinal
use Rattle.estelle_tree.specs.declared.tree.type_expr.TypeExpr.{TypeExpr}
use Rattle.estelle_tree.specs.declared.tree.type_expr.TypeExpr.TheVariants as a_type
use Rattle.estelle_tree.specs.declared.tree.type_expr.Fields.{Fields, roll-Fields}
use Rattle.estelle_tree.specs.declared.tree.type_expr.TypedNames.{TypedNames, roll-TypedNames}
use Rattle.estelle_tree.specs.Input.{Input, kind}
pub use Rattle.syntax_forms.specs.Types.{sign_of}
use Rattle.token_reader.specs.Reader.{Parser, ◌>>=◌, ◌>>◌, pure, refuse, peek, peek_second, here, since, eat, expect, name, number, char}
use Rattle.token_reader.specs.Lists.{mark, separated, separated_if}

-- ---- by which kinds they begin

abbrev pub begins_name : Kind → Bool
begins_name k.Name = true
begins_name _ = false

abbrev pub begins_constant : Kind → Bool
begins_constant k.Plus = true
begins_constant k.Minus = true
begins_constant k.Number = true
begins_constant k.Name = true
begins_constant k.Char = true
begins_constant _ = false

abbrev pub begins_ordinal : Kind → Bool
begins_ordinal k.OpenParenthesis = true
begins_ordinal k.Plus = true
begins_ordinal k.Minus = true
begins_ordinal k.Number = true
begins_ordinal k.Name = true
begins_ordinal k.Char = true
begins_ordinal _ = false

abbrev pub begins_type : Kind → Bool
begins_type k.Packed = true
begins_type k.Array = true
begins_type k.Record = true
begins_type k.Set = true
begins_type k.OpenParenthesis = true
begins_type k.Plus = true
begins_type k.Minus = true
begins_type k.Number = true
begins_type k.Name = true
begins_type k.Char = true
begins_type _ = false

-- ---- names and constants

-- Names = NAME {"," NAME}
unfoldable pub names : Parser NameList
names = do
  from ← here
  found ← separated k.Comma name
  span ← since from
  pure (record { names = found; span = span })

-- NUMBER, NAME and CHAR behind what was read from there on
unfoldable pub number_from : ℕ → Option Sign → Parser Const
number_from from s = do
  n ← number
  span ← since from
  pure (const.Number s n span)

unfoldable pub name_from : ℕ → Option Sign → Parser Const
name_from from s = do
  n ← name
  span ← since from
  pure (const.Name s n span)

unfoldable pub char_from : ℕ → Parser Const
char_from from = do
  c ← char
  span ← since from
  pure (const.Char c span)

-- what stands behind the sign; a character takes none
abbrev pub constant_by : ℕ → Option Sign → Kind → Parser Const
constant_by from s k.Number = number_from from s
constant_by from s k.Name = name_from from s
constant_by from None k.Char = char_from from
constant_by from s _ = refuse

-- Const = ["+" | "-"] (NUMBER | NAME) | CHAR
unfoldable pub constant : Parser Const
constant = do
  from ← here
  s ← mark sign_of
  kind ← peek
  constant_by from s kind

-- ---- ordinal types

-- `"(" Names ")"`
unfoldable pub enumeration : Parser Ordinal
enumeration = do
  from ← here
  expect k.OpenParenthesis
  found ← names
  expect k.CloseParenthesis
  span ← since from
  pure (an_ordinal.Enumeration found span)

-- `Const ".." Const`
unfoldable pub subrange : Parser Ordinal
subrange = do
  from ← here
  low ← constant
  expect k.Dots
  high ← constant
  span ← since from
  pure (an_ordinal.Subrange low high span)

unfoldable pub ordinal_name : Parser Ordinal
ordinal_name = do
  n ← name
  pure (an_ordinal.Name n)

-- a NAME is the bound of a subrange where `..` comes next
abbrev pub named_by : Kind → Parser Ordinal
named_by k.Dots = subrange
named_by _ = ordinal_name

abbrev pub ordinal_by : Kind → Kind → Parser Ordinal
ordinal_by k.OpenParenthesis _ = enumeration
ordinal_by k.Name second_kind = named_by second_kind
ordinal_by _ _ = subrange

-- Ord = NAME | "(" Names ")" | Const ".." Const
unfoldable pub ordinal : Parser Ordinal
ordinal = do
  first ← peek
  second ← peek_second
  ordinal_by first second

-- ---- types, over the parser of those one level down
module _ (below : Parser TypeExpr) where
  -- `Names ":" Type`
  unfoldable pub typed_over : Parser TypedNames
  typed_over = do
    found ← names
    expect k.Colon
    t ← below
    pure (roll-TypedNames (record { names = found; type_expr = t }))

  -- Fields = Names ":" Type {";" Names ":" Type} [";"]
  unfoldable pub fields_over : Parser Fields
  fields_over = do
    from ← here
    sections ← separated_if k.Semicolon begins_name typed_over
    semicolon ← eat k.Semicolon
    span ← since from
    pure (roll-Fields (record { sections = sections; semicolon = semicolon; span = span }))

  -- behind `packed`, where it stands: `array "[" Ord {"," Ord} "]" of Type`
  unfoldable pub array_over : ℕ → Bool → Parser TypeExpr
  array_over from packed = do
    expect k.Array
    expect k.OpenBracket
    indices ← separated k.Comma ordinal
    expect k.CloseBracket
    expect k.Of
    component ← below
    span ← since from
    pure (a_type.Array packed indices component span)

  -- `record Fields end`
  unfoldable pub record_over : ℕ → Bool → Parser TypeExpr
  record_over from packed = do
    expect k.Record
    fields ← fields_over
    expect k.End
    span ← since from
    pure (a_type.Fields packed fields span)

-- `set of Ord`
unfoldable pub set_type : ℕ → Bool → Parser TypeExpr
set_type from packed = do
  expect k.Set
  expect k.Of
  base ← ordinal
  span ← since from
  pure (a_type.Set packed base span)

unfoldable pub ordinal_type : Parser TypeExpr
ordinal_type = do
  o ← ordinal
  pure (a_type.Ordinal o)

-- a form that opens a level of nesting: refused where none may open
abbrev pub opening : {A : Type 0} → ℕ → Parser A → Parser A
opening room item = if room == 0 then refuse else item

abbrev pub type_by : ℕ → Parser TypeExpr → ℕ → Bool → Kind → Parser TypeExpr
type_by room below from packed k.Array = opening room (array_over below from packed)
type_by room below from packed k.Record = opening room (record_over below from packed)
type_by room below from packed k.Set = opening room (set_type from packed)
type_by room below from true _ = refuse
type_by room below from false _ = ordinal_type

-- Type = Ord | [packed] (array "[" Ord {"," Ord} "]" of Type | record Fields end | set of Ord)
unfoldable pub type_over : ℕ → Parser TypeExpr → Parser TypeExpr
type_over room below = do
  from ← here
  packed ← eat k.Packed
  kind ← peek
  type_by room below from packed kind

-- one level down from where this many levels may open
unfoldable pub type_below : ℕ → Parser TypeExpr
type_below zero = refuse
type_below (suc room) = type_over room (type_below room)

-- where this many more levels of nesting may open
abbrev pub type_expr : ℕ → Parser TypeExpr
type_expr room = type_below (suc room)

abbrev pub typed_names : ℕ → Parser TypedNames
typed_names room = typed_over (type_expr room)

-- a name that is a type goes on with `..`
abbrev pub EndsOrdinal : Input → Type 0
EndsOrdinal j = kind j ≡ k.Dots → ⊥
