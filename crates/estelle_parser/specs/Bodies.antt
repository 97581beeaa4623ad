-- Bodies and their parts, read from left to right. The *room* is how many more levels of nesting may open.
use Rattle.std.specs.Prelude.{ℕ, zero, suc, ◌==◌, Bool, true, false, if◌then◌else◌, []}
use Rattle.estelle_tree.specs.declared.kind.Kind.{Kind}
use Rattle.estelle_tree.specs.declared.kind.Kind.TheVariants as k
use Rattle.estelle_tree.specs.declared.tree.specification.Body.{Body, roll-Body}
use Rattle.estelle_tree.specs.declared.tree.specification.Decl.{Decl}
use Rattle.estelle_tree.specs.declared.tree.specification.Decl.TheVariants as a_decl
use Rattle.estelle_tree.specs.declared.tree.specification.Init.{Init}
use Rattle.estelle_tree.specs.declared.tree.specification.Parts.{Parts, roll-Parts}
use Rattle.estelle_tree.specs.declared.tree.specification.Trans.{Trans}
use Rattle.estelle_tree.specs.Input.{kind}
use Rattle.token_reader.specs.Reader.{Parser, ◌>>=◌, ◌>>◌, pure, refuse, peek, here, remaining, since, since_over, expect, name}
use Rattle.token_reader.specs.Lists.{optional, behind, repeated}
use Rattle.declaration_parser.specs.Forms.{joined}
use Rattle.declaration_parser.specs.Declarations.{plain_decl}
use Rattle.statement_parser.specs.Routine.{routine}
use Rattle.clause_parser.specs.Block.{block}
use Rattle.clause_parser.specs.TransBody.{trans_body}

-- ---- by which kinds they begin

abbrev pub begins_decl : Kind → Bool
begins_decl k.Const = true
begins_decl k.Type = true
begins_decl k.Channel = true
begins_decl k.Module = true
begins_decl k.Body = true
begins_decl k.Ip = true
begins_decl k.Modvar = true
begins_decl k.Var = true
begins_decl k.State = true
begins_decl k.Stateset = true
begins_decl k.Procedure = true
begins_decl k.Function = true
begins_decl _ = false

abbrev pub begins_init : Kind → Bool
begins_init k.Initialize = true
begins_init _ = false

abbrev pub begins_trans : Kind → Bool
begins_trans k.Trans = true
begins_trans _ = false

-- takes the word of a form that opens a level, and refuses it where none may open
unfoldable pub opens : ℕ → Kind → Parser (Unit {0})
opens room word = if room == 0 then refuse else expect word

-- Over the parser of the parts of a body.
module _ (room : ℕ) (parts : Parser Parts) where
  -- Body = body NAME for NAME ";" Parts end ";", which opens a level
  unfoldable pub body_over : Parser Body
  body_over = do
    from ← here
    opens room k.Body
    names ← joined k.For name name
    expect k.Semicolon
    ps ← parts
    expect k.End
    expect k.Semicolon
    span ← since from
    pure (roll-Body (record { name = names.0; header = names.1; parts = ps; span = span }))

  unfoldable pub body_part : Parser Decl
  body_part = do
    b ← body_over
    pure (a_decl.Body b)

-- Init = initialize [to NAME] Block
unfoldable pub init : ℕ → Parser Init
init room = do
  from ← here
  expect k.Initialize
  state ← behind k.To name
  b ← block room
  span ← since from
  pure (record { to = state; block = b; span = span })

-- `trans TransBody`
unfoldable pub trans : ℕ → Parser Trans
trans room = do
  from ← here
  expect k.Trans
  b ← trans_body room
  span ← since from
  pure (record { body = b; span = span })

unfoldable pub routine_part : ℕ → Parser Decl
routine_part room = do
  r ← routine room
  pure (a_decl.Routine r)

-- Over the parser of the parts of a body in it.
module _ (room : ℕ) (parts : Parser Parts) where
  abbrev pub decl_by : Kind → Parser Decl
  decl_by k.Body = body_part room parts
  decl_by k.Procedure = routine_part room
  decl_by k.Function = routine_part room
  decl_by _ = plain_decl room

  -- Decl = const {NAME "=" Const ";"}+ | type {NAME "=" Type ";"}+ | Channel | Header | Body
  --      | ip {IpDecl ";"}+ | modvar {Names ":" NAME ";"}+ | var {Names ":" Type ";"}+
  --      | state Names ";" | stateset {NAME "=" "[" Names "]" ";"}+ | Routine
  unfoldable pub decl_over : Parser Decl
  decl_over = do
    kind ← peek
    decl_by kind

  -- Parts = {Decl} [Init] {trans TransBody}
  unfoldable pub parts_over : Parser Parts
  parts_over = do
    from ← here
    before ← remaining
    decls ← repeated (optional begins_decl decl_over) []
    initial ← optional begins_init (init room)
    transitions ← repeated (optional begins_trans (trans room)) []
    span ← since_over from before
    pure (roll-Parts (record { decls = decls; init = initial; trans = transitions; span = span }))

-- one level down from where this many levels may open
unfoldable pub parts_below : ℕ → Parser Parts
parts_below zero = refuse
parts_below (suc room) = parts_over room (parts_below room)

-- where this many more levels of nesting may open
abbrev pub parts : ℕ → Parser Parts
parts room = parts_below (suc room)
