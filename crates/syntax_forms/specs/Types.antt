-- Names, constants and types, as forms.
use Rattle.std.specs.Prelude.{ℕ, Bool, ◌||◌, Option, Some, None, List, ◌⊎◌}
use Rattle.estelle_tree.specs.declared.kind.Kind.{Kind}
use Rattle.estelle_tree.specs.declared.kind.Kind.TheVariants as k
use Rattle.estelle_tree.specs.declared.tree.name.NameList.{NameList}
use Rattle.estelle_tree.specs.declared.tree.type_expr.Sign.{Sign}
use Rattle.estelle_tree.specs.declared.tree.type_expr.Sign.TheVariants as sign
use Rattle.estelle_tree.specs.declared.tree.type_expr.Const.{Const}
use Rattle.estelle_tree.specs.declared.tree.type_expr.Ordinal.{Ordinal}
use Rattle.estelle_tree.specs.declared.tree.type_expr.TypeExpr.{TypeExpr, out-TypeExpr}
use Rattle.estelle_tree.specs.declared.tree.type_expr.Fields.{Fields}
use Rattle.estelle_tree.specs.declared.tree.type_expr.TypedNames.{TypedNames}
use Rattle.estelle_tree.specs.Spelling.{Spelling}
use Rattle.estelle_tree.specs.Beginning.{Beginning}
use Rattle.estelle_tree.specs.BeginsTypes.{BeginsTypeLayer}
use Rattle.estelle_tree.specs.Types.{of_sign, IsNames, IsConst, IsOrdinal, AreTyped, AreFields, IsTypeLayer}
use Rattle.syntax_forms.specs.Kinds.{is}
use Rattle.syntax_forms.specs.Form.{Form, word, name, number, char, ◌▸◌, flag, mark, ◌⊕◌, level, separated, sections, unless, node, hole, begun}

-- Names = NAME {"," NAME}
abbrev pub names : Form NameList
names = node IsNames (separated k.Comma name)

abbrev pub sign_of : Kind → Option Sign
sign_of k.Plus = Some sign.Plus
sign_of k.Minus = Some sign.Minus
sign_of _ = None

-- Const = ["+" | "-"] (NUMBER | NAME) | CHAR
abbrev pub constant : Form Const
constant = node IsConst (mark sign_of of_sign ▸ (number ⊕ name) ⊕ char)

-- `"(" Names ")"`
abbrev pub enumeration : Form (Unit {0} × (NameList × Unit {0}))
enumeration = word k.OpenParenthesis ▸ names ▸ word k.CloseParenthesis

-- `Const ".." Const`
abbrev pub subrange : Form (Const × (Unit {0} × Const))
subrange = constant ▸ word k.Dots ▸ constant

-- Ord = NAME | "(" Names ")" | Const ".." Const, where a NAME before ".." is a constant
abbrev pub ordinal : Form Ordinal
ordinal = node IsOrdinal (unless (is k.Dots) name (enumeration ⊕ subrange))

-- with these a type begins
abbrev pub type_first : Kind → Bool
type_first x = (is k.Packed x || (is k.Array x || (is k.Record x || is k.Set x))) || ordinal.first x

-- with this a name that is a type goes on
abbrev pub type_on : Kind → Bool
type_on = is k.Dots

-- Over the types one level down: what they spell and what begins them.
module _ (T : Spelling TypeExpr) (B : Beginning) where
  abbrev pub below : Form TypeExpr
  below = hole T B type_first type_on

  -- `Names ":" Type`
  abbrev pub typed : Form TypedNames
  typed = node (AreTyped T) (names ▸ word k.Colon ▸ below)

  -- Fields = Names ":" Type {";" Names ":" Type} [";"]
  abbrev pub fields : Form Fields
  fields = node (AreFields T) (sections k.Semicolon typed)

-- `set of Ord`
abbrev pub a_set : ℕ → Form (Unit {0} × Ordinal)
a_set room = level room k.Set (word k.Of ▸ ordinal)

-- Where this many more levels of nesting may open.
module _ (room : ℕ) (T : Spelling TypeExpr) (B : Beginning) where
  -- `array "[" Ord {"," Ord} "]" of Type`
  abbrev pub array : Form (Unit {0} × (List Ordinal × (Unit {0} × (Unit {0} × TypeExpr))))
  array = level room k.Array (word k.OpenBracket ▸ separated k.Comma ordinal ▸ word k.CloseBracket ▸ word k.Of ▸ below T B)

  -- `record Fields end`
  abbrev pub a_record : Form (Fields × Unit {0})
  a_record = level room k.Record (fields T B ▸ word k.End)

  -- `[packed]` and one of these
  abbrev pub structured : Form (Bool × ((Unit {0} × (List Ordinal × (Unit {0} × (Unit {0} × TypeExpr)))) ⊎ ((Fields × Unit {0}) ⊎ (Unit {0} × Ordinal))))
  structured = flag k.Packed ▸ (array ⊕ a_record ⊕ a_set room)

  -- Type = Ord | [packed] (array "[" Ord {"," Ord} "]" of Type | record Fields end | set of Ord)
  abbrev pub type_layer : Form TypeExpr
  type_layer = begun (BeginsTypeLayer room T B) (node (λ t. IsTypeLayer room T (out-TypeExpr t)) (structured ⊕ ordinal))
