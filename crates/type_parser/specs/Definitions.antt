-- Definitions and formal parameters, read from left to right.
use Rattle.std.specs.Prelude.{ℕ, Bool, true, false, List}
use Rattle.estelle_tree.specs.declared.kind.Kind.{Kind}
use Rattle.estelle_tree.specs.declared.kind.Kind.TheVariants as k
use Rattle.estelle_tree.specs.declared.tree.type_expr.TypedNames.{TypedNames}
use Rattle.estelle_tree.specs.declared.tree.declaration.ConstDef.{ConstDef}
use Rattle.estelle_tree.specs.declared.tree.declaration.TypeDef.{TypeDef}
use Rattle.estelle_tree.specs.declared.tree.declaration.BlockDecl.{BlockDecl}
use Rattle.estelle_tree.specs.declared.tree.declaration.BlockDecl.TheVariants as a_decl
use Rattle.estelle_tree.specs.declared.tree.declaration.Formal.{Formal}
use Rattle.estelle_tree.specs.declared.tree.declaration.Formals.{Formals}
use Rattle.token_reader.specs.Reader.{Parser, ◌>>=◌, ◌>>◌, pure, refuse, peek, here, since, eat, expect, name}
use Rattle.token_reader.specs.Lists.{separated, several, ended}
use Rattle.type_parser.specs.Types.{begins_name, names, constant, type_expr, typed_names}

abbrev pub begins_formal : Kind → Bool
begins_formal k.Var = true
begins_formal k.Name = true
begins_formal _ = false

abbrev pub begins_formals : Kind → Bool
begins_formals k.OpenParenthesis = true
begins_formals _ = false

abbrev pub begins_block_decl : Kind → Bool
begins_block_decl k.Const = true
begins_block_decl k.Type = true
begins_block_decl k.Var = true
begins_block_decl _ = false

-- `k {x ";"}+`
unfoldable pub part : {A : Type 0} → Kind → (Kind → Bool) → Parser A → Parser (List A)
part first begins item = expect first >> several begins (ended k.Semicolon item)

-- `NAME "=" Const`
unfoldable pub const_def : Parser ConstDef
const_def = do
  n ← name
  expect k.Equal
  value ← constant
  pure (record { name = n; value = value })

-- `NAME "=" Type`
unfoldable pub type_def : ℕ → Parser TypeDef
type_def room = do
  n ← name
  expect k.Equal
  t ← type_expr room
  pure (record { name = n; type_expr = t })

-- `Names ":" Type`
abbrev pub var : ℕ → Parser TypedNames
var = typed_names

-- Formal = [var] Names ":" NAME
unfoldable pub formal : Parser Formal
formal = do
  from ← here
  is_var ← eat k.Var
  found ← names
  expect k.Colon
  type_name ← name
  span ← since from
  pure (record { is_var = is_var; names = found; type_name = type_name; span = span })

-- Formals = "(" Formal {";" Formal} ")"
unfoldable pub formals : Parser Formals
formals = do
  from ← here
  expect k.OpenParenthesis
  found ← separated k.Semicolon formal
  expect k.CloseParenthesis
  span ← since from
  pure (record { formals = found; span = span })

-- `const {NAME "=" Const ";"}+`
unfoldable pub const_part : Parser BlockDecl
const_part = do
  from ← here
  defs ← part k.Const begins_name const_def
  span ← since from
  pure (a_decl.Const defs span)

-- `type {NAME "=" Type ";"}+`
unfoldable pub type_part : ℕ → Parser BlockDecl
type_part room = do
  from ← here
  defs ← part k.Type begins_name (type_def room)
  span ← since from
  pure (a_decl.Types defs span)

-- `var {Names ":" Type ";"}+`
unfoldable pub var_part : ℕ → Parser BlockDecl
var_part room = do
  from ← here
  vars ← part k.Var begins_name (var room)
  span ← since from
  pure (a_decl.Var vars span)

abbrev pub block_decl_by : ℕ → Kind → Parser BlockDecl
block_decl_by room k.Const = const_part
block_decl_by room k.Type = type_part room
block_decl_by room k.Var = var_part room
block_decl_by room _ = refuse

-- BlockDecl = const {NAME "=" Const ";"}+ | type {NAME "=" Type ";"}+ | var {Names ":" Type ";"}+
unfoldable pub block_decl : ℕ → Parser BlockDecl
block_decl room = do
  kind ← peek
  block_decl_by room kind
