-- Parameters, interactions and channels, read from left to right.
use Rattle.std.specs.Prelude.{Bool, true, false, Option}
use Rattle.estelle_tree.specs.declared.kind.Kind.{Kind}
use Rattle.estelle_tree.specs.declared.kind.Kind.TheVariants as k
use Rattle.estelle_tree.specs.declared.tree.specification.Channel.{Channel}
use Rattle.estelle_tree.specs.declared.tree.specification.InterGroup.{InterGroup}
use Rattle.estelle_tree.specs.declared.tree.specification.Inter.{Inter}
use Rattle.estelle_tree.specs.declared.tree.specification.Params.{Params}
use Rattle.estelle_tree.specs.declared.tree.specification.ParamGroup.{ParamGroup}
use Rattle.token_reader.specs.Reader.{Parser, ◌>>=◌, ◌>>◌, pure, here, since, expect, name}
use Rattle.token_reader.specs.Lists.{optional, separated, several}
use Rattle.type_parser.specs.Types.{begins_name, names}
use Rattle.type_parser.specs.Definitions.{part}
use Rattle.declaration_parser.specs.Forms.{enclosed, joined}

abbrev pub begins_parenthesis : Kind → Bool
begins_parenthesis k.OpenParenthesis = true
begins_parenthesis _ = false

abbrev pub begins_group : Kind → Bool
begins_group k.By = true
begins_group _ = false

-- ---- parameters

-- `Names ":" NAME`
unfoldable pub param_group : Parser ParamGroup
param_group = do
  found ← joined k.Colon names name
  pure (record { names = found.0; type_name = found.1 })

-- Params = Names ":" NAME {";" Names ":" NAME}
unfoldable pub params : Parser Params
params = do
  from ← here
  groups ← separated k.Semicolon param_group
  span ← since from
  pure (record { groups = groups; span = span })

-- `["(" Params ")"]`
abbrev pub may_be_params : Parser (Option Params)
may_be_params = optional begins_parenthesis (enclosed k.OpenParenthesis k.CloseParenthesis params)

-- ---- channels

-- Inter = NAME ["(" Params ")"]
unfoldable pub inter : Parser Inter
inter = do
  from ← here
  n ← name
  ps ← may_be_params
  span ← since from
  pure (record { name = n; params = ps; span = span })

-- `by Names ":" {Inter ";"}+`
unfoldable pub group : Parser InterGroup
group = do
  expect k.By
  roles ← names
  inters ← part k.Colon begins_name inter
  pure (record { roles = roles; inters = inters })

-- Channel = channel NAME "(" NAME "," NAME ")" ";" {by Names ":" {Inter ";"}+}+
unfoldable pub channel : Parser Channel
channel = do
  from ← here
  expect k.Channel
  n ← name
  roles ← enclosed k.OpenParenthesis k.CloseParenthesis (joined k.Comma name name)
  expect k.Semicolon
  groups ← several begins_group group
  span ← since from
  pure (record { name = n; first_role = roles.0; second_role = roles.1; groups = groups; span = span })
