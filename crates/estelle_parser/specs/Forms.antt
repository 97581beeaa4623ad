-- Initializations, transitions, bodies and specifications, as forms.
use Rattle.std.specs.Prelude.{ℕ, zero, suc, Bool, true, ◌||◌, List, Option}
use Rattle.estelle_tree.specs.declared.kind.Kind.{Kind}
use Rattle.estelle_tree.specs.declared.kind.Kind.TheVariants as k
use Rattle.estelle_tree.specs.declared.tree.name.Name.{Name}
use Rattle.estelle_tree.specs.declared.tree.specification.Body.{Body}
use Rattle.estelle_tree.specs.declared.tree.specification.Decl.{Decl}
use Rattle.estelle_tree.specs.declared.tree.specification.Init.{Init}
use Rattle.estelle_tree.specs.declared.tree.specification.Parts.{Parts}
use Rattle.estelle_tree.specs.declared.tree.specification.Spec.{Spec}
use Rattle.estelle_tree.specs.declared.tree.specification.Trans.{Trans}
use Rattle.estelle_tree.specs.Spelling.{Spelling, Behind}
use Rattle.estelle_tree.specs.Beginning.{Beginning, Nothing}
use Rattle.estelle_tree.specs.Types.{IsName}
use Rattle.estelle_tree.specs.Specification.{IsInit, IsTrans, BodyOf, DeclOf, PartsBelow, IsSpec}
use Rattle.syntax_forms.specs.Form.{Form, word, name, ◌▸◌, ◌⊕◌, level, node, known}
use Rattle.syntax_forms.specs.Repeats.{may, many}
use Rattle.statement_parser.specs.Forms.{Word, routine}
use Rattle.type_parser.specs.Types.{begins_name}
use Rattle.declaration_parser.specs.Channels.{begins_group}
use Rattle.declaration_parser.specs.Productions.{joined, sys_attr, heads, plain_decl}
use Rattle.clause_parser.specs.Clause.{begins_clause}
use Rattle.clause_parser.specs.Forms.{block, trans_body}
use Rattle.estelle_parser.specs.Bodies.{begins_decl, begins_init, begins_trans}

-- `to NAME`
abbrev pub state : Form Name
state = node (Behind k.To IsName) (word k.To ▸ name)

-- with these parts of a body begin, and go on
abbrev pub begins_parts : Kind → Bool
begins_parts x = begins_decl x || (begins_init x || begins_trans x)

abbrev pub goes_on_parts : Kind → Bool
goes_on_parts x = begins_parts x || (begins_clause x || (begins_name x || begins_group x))

-- Where this many more levels of nesting may open.
module _ (room : ℕ) where
  -- Init = initialize [to NAME] Block
  abbrev pub init : Form Init
  init = node (IsInit room) (word k.Initialize ▸ may state ▸ block room)

  -- `trans TransBody`
  abbrev pub trans : Form Trans
  trans = node (IsTrans room) (word k.Trans ▸ trans_body room)

  -- Over what the parts of a body in it spell and what begins them.
  module _ (P : Spelling Parts) (B : Beginning) where
    abbrev pub below : Form Parts
    below = known true P B begins_parts goes_on_parts

    -- Body = body NAME for NAME ";" Parts end ";", which opens a level
    abbrev pub body_parts : Form ((Name × Name) × (Word × (Parts × (Word × Word))))
    body_parts = level room k.Body (joined k.For name name ▸ word k.Semicolon ▸ below ▸ word k.End ▸ word k.Semicolon)

    abbrev pub body : Form Body
    body = node (BodyOf room P) body_parts

    -- Decl = const {NAME "=" Const ";"}+ | type {NAME "=" Type ";"}+ | Channel | Header | Body
    --      | ip {IpDecl ";"}+ | modvar {Names ":" NAME ";"}+ | var {Names ":" Type ";"}+
    --      | state Names ";" | stateset {NAME "=" "[" Names "]" ";"}+ | Routine
    abbrev pub decl : Form Decl
    decl = node (DeclOf room P) (body ⊕ routine room ⊕ plain_decl room)

    -- Parts = {Decl} [Init] {trans TransBody}
    abbrev pub parts_of : Form (List Decl × (Option Init × List Trans))
    parts_of = many decl ▸ may init ▸ many trans

-- what begins the parts of a body, one level down from where this many levels may open
abbrev pub BeginsBelow : ℕ → Beginning
BeginsBelow zero i j = Nothing i j
BeginsBelow (suc room) i j = (parts_of room (PartsBelow room) (BeginsBelow room)).begins i j

-- the parts of a body one level down
abbrev pub parts_below : ℕ → Form Parts
parts_below room = known true (PartsBelow room) (BeginsBelow room) begins_parts goes_on_parts

-- Spec = specification NAME [SysAttr] ";" {Head} Parts end "."
abbrev pub specification : ℕ → Form Spec
specification room = node (IsSpec room) (word k.Specification ▸ name ▸ may sys_attr ▸ word k.Semicolon ▸ heads ▸ parts_below (suc room) ▸ word k.End ▸ word k.Dot)
