-- Interaction points, module headers, and the declarations that hold no statements, read from left to right.
use Rattle.std.specs.Prelude.{ℕ}
use Rattle.estelle_tree.specs.declared.kind.Kind.{Kind}
use Rattle.estelle_tree.specs.declared.kind.Kind.TheVariants as k
use Rattle.estelle_tree.specs.declared.tree.declaration.BlockDecl.{BlockDecl}
use Rattle.estelle_tree.specs.declared.tree.declaration.BlockDecl.TheVariants as a_block_decl
use Rattle.estelle_tree.specs.declared.tree.specification.Decl.{Decl}
use Rattle.estelle_tree.specs.declared.tree.specification.Decl.TheVariants as a_decl
use Rattle.estelle_tree.specs.declared.tree.specification.Header.{Header}
use Rattle.estelle_tree.specs.declared.tree.specification.IpDecl.{IpDecl}
use Rattle.estelle_tree.specs.declared.tree.specification.ModvarDecl.{ModvarDecl}
use Rattle.estelle_tree.specs.declared.tree.specification.StatesetDef.{StatesetDef}
use Rattle.token_reader.specs.Reader.{Parser, ◌>>=◌, ◌>>◌, pure, peek, here, since, expect, name}
use Rattle.token_reader.specs.Lists.{optional}
use Rattle.type_parser.specs.Types.{begins_name, names, typed_names}
use Rattle.type_parser.specs.Definitions.{part, block_decl}
use Rattle.declaration_parser.specs.Forms.{enclosed, joined, may_be_part}
use Rattle.declaration_parser.specs.Attributes.{begins_attr, begins_disc, attr, queue}
use Rattle.declaration_parser.specs.Channels.{may_be_params, channel}

-- IpDecl = Names ":" NAME "(" NAME ")" [Disc queue]
unfoldable pub ip_decl : Parser IpDecl
ip_decl = do
  from ← here
  found ← joined k.Colon names name
  role ← enclosed k.OpenParenthesis k.CloseParenthesis name
  d ← optional begins_disc queue
  span ← since from
  pure (record { names = found.0; channel = found.1; role = role; disc = d; span = span })

-- `Names ":" NAME`
unfoldable pub modvar_decl : Parser ModvarDecl
modvar_decl = do
  found ← joined k.Colon names name
  pure (record { names = found.0; header = found.1 })

-- `NAME "=" "[" Names "]"`
unfoldable pub stateset_def : Parser StatesetDef
stateset_def = do
  found ← joined k.Equal name (enclosed k.OpenBracket k.CloseBracket names)
  pure (record { name = found.0; states = found.1 })

-- Header = module NAME [Attr] ["(" Params ")"] ";" [ip {IpDecl ";"}+] [export {Names ":" Type ";"}+] end ";"
unfoldable pub header : ℕ → Parser Header
header room = do
  from ← here
  expect k.Module
  n ← name
  a ← optional begins_attr attr
  ps ← may_be_params
  expect k.Semicolon
  ips ← may_be_part k.Ip begins_name ip_decl
  exports ← may_be_part k.Export begins_name (typed_names room)
  expect k.End
  expect k.Semicolon
  span ← since from
  pure (record { name = n; attr = a; params = ps; ips = ips; exports = exports; span = span })

-- ---- declarations

abbrev pub of_block_decl : BlockDecl → Decl
of_block_decl (a_block_decl.Const defs span) = a_decl.Const defs span
of_block_decl (a_block_decl.Types defs span) = a_decl.Types defs span
of_block_decl (a_block_decl.Var vars span) = a_decl.Var vars span

-- `const {NAME "=" Const ";"}+ | type {NAME "=" Type ";"}+ | var {Names ":" Type ";"}+`
unfoldable pub definition_part : ℕ → Parser Decl
definition_part room = do
  d ← block_decl room
  pure (of_block_decl d)

unfoldable pub channel_part : Parser Decl
channel_part = do
  c ← channel
  pure (a_decl.Channel c)

unfoldable pub header_part : ℕ → Parser Decl
header_part room = do
  h ← header room
  pure (a_decl.Header h)

-- `ip {IpDecl ";"}+`
unfoldable pub ip_part : Parser Decl
ip_part = do
  from ← here
  ips ← part k.Ip begins_name ip_decl
  span ← since from
  pure (a_decl.Ip ips span)

-- `modvar {Names ":" NAME ";"}+`
unfoldable pub modvar_part : Parser Decl
modvar_part = do
  from ← here
  modvars ← part k.Modvar begins_name modvar_decl
  span ← since from
  pure (a_decl.Modvar modvars span)

-- `state Names ";"`
unfoldable pub state_part : Parser Decl
state_part = do
  from ← here
  states ← enclosed k.State k.Semicolon names
  span ← since from
  pure (a_decl.State states span)

-- `stateset {NAME "=" "[" Names "]" ";"}+`
unfoldable pub stateset_part : Parser Decl
stateset_part = do
  from ← here
  sets ← part k.Stateset begins_name stateset_def
  span ← since from
  pure (a_decl.Stateset sets span)

abbrev pub plain_decl_by : ℕ → Kind → Parser Decl
plain_decl_by room k.Channel = channel_part
plain_decl_by room k.Module = header_part room
plain_decl_by room k.Ip = ip_part
plain_decl_by room k.Modvar = modvar_part
plain_decl_by room k.State = state_part
plain_decl_by room k.Stateset = stateset_part
plain_decl_by room _ = definition_part room

-- a declaration that is no body and no routine
unfoldable pub plain_decl : ℕ → Parser Decl
plain_decl room = do
  kind ← peek
  plain_decl_by room kind
