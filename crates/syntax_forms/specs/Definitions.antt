-- Definitions and formal parameters, as forms.
use Rattle.std.specs.Prelude.{ℕ}
use Rattle.estelle_tree.specs.declared.kind.Kind.TheVariants as k
use Rattle.estelle_tree.specs.declared.tree.type_expr.TypedNames.{TypedNames}
use Rattle.estelle_tree.specs.declared.tree.declaration.ConstDef.{ConstDef}
use Rattle.estelle_tree.specs.declared.tree.declaration.TypeDef.{TypeDef}
use Rattle.estelle_tree.specs.declared.tree.declaration.BlockDecl.{BlockDecl}
use Rattle.estelle_tree.specs.declared.tree.declaration.Formal.{Formal}
use Rattle.estelle_tree.specs.declared.tree.declaration.Formals.{Formals}
use Rattle.estelle_tree.specs.BeginsTypes.{BeginsType}
use Rattle.estelle_tree.specs.Types.{IsType}
use Rattle.estelle_tree.specs.Declarations.{IsConstDef, IsFormal, AreFormals, IsTypeDef, IsBlockDecl}
use Rattle.syntax_forms.specs.Form.{Form, word, name, ◌▸◌, flag, ◌⊕◌, separated, lines, node}
use Rattle.syntax_forms.specs.Types.{names, constant, below, typed}

-- `NAME "=" Const`
abbrev pub const_def : Form ConstDef
const_def = node IsConstDef (name ▸ word k.Equal ▸ constant)

-- Formal = [var] Names ":" NAME
abbrev pub formal : Form Formal
formal = node IsFormal (flag k.Var ▸ names ▸ word k.Colon ▸ name)

-- Formals = "(" Formal {";" Formal} ")"
abbrev pub formals : Form Formals
formals = node AreFormals (word k.OpenParenthesis ▸ separated k.Semicolon formal ▸ word k.CloseParenthesis)

-- Where this many more levels of nesting may open.
module _ (room : ℕ) where
  -- `NAME "=" Type`
  abbrev pub type_def : Form TypeDef
  type_def = node (IsTypeDef room) (name ▸ word k.Equal ▸ below (IsType room) (BeginsType room))

  -- `Names ":" Type`
  abbrev pub var : Form TypedNames
  var = typed (IsType room) (BeginsType room)

  -- BlockDecl = const {NAME "=" Const ";"}+ | type {NAME "=" Type ";"}+ | var {Names ":" Type ";"}+
  abbrev pub block_decl : Form BlockDecl
  block_decl = node (IsBlockDecl room) (word k.Const ▸ lines const_def ⊕ word k.Type ▸ lines type_def ⊕ word k.Var ▸ lines var)
