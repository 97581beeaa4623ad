-- The tokens of names, constants and types.
use Rattle.std.specs.Prelude.{[], ◌∷◌, ◌++◌, Option}
use Rattle.estelle_tree.specs.declared.token.Token.TheVariants as token
use Rattle.estelle_tree.specs.declared.kind.Kind.TheVariants as k
use Rattle.estelle_tree.specs.declared.tree.name.Name.{Name}
use Rattle.estelle_tree.specs.declared.tree.name.NameList.{NameList}
use Rattle.estelle_tree.specs.declared.tree.type_expr.Sign.{Sign}
use Rattle.estelle_tree.specs.declared.tree.type_expr.Const.{Const}
use Rattle.estelle_tree.specs.declared.tree.type_expr.Const.TheVariants as const
use Rattle.estelle_tree.specs.declared.tree.type_expr.Ordinal.{Ordinal}
use Rattle.estelle_tree.specs.declared.tree.type_expr.Ordinal.TheVariants as ordinal
use Rattle.estelle_tree.specs.declared.tree.type_expr.TypeExpr.{TypeExpr}
use Rattle.estelle_tree.specs.declared.tree.type_expr.TypeExpr.TheOpen.{TypeExpr-F, Fields-F, TypedNames-F}
use Rattle.estelle_tree.specs.declared.tree.type_expr.TypeExpr.TheFolds.{fold-TypeExpr, fold-Fields, fold-TypedNames}
use Rattle.estelle_tree.specs.declared.tree.type_expr.Fields.{Fields}
use Rattle.estelle_tree.specs.declared.tree.type_expr.TypedNames.{TypedNames}
use Rattle.estelle_tree.specs.Types.{of_sign}
use Rattle.estelle_printer.specs.Forms.{Tokens, mark, flag, optional, separated, enclosed}

-- NAME
abbrev pub name : Name → Tokens
name n = token.Word n.word ∷ []

-- Names = NAME {"," NAME}
abbrev pub names : NameList → Tokens
names ns = separated k.Comma name ns.names

-- `["+" | "-"]`
abbrev pub sign : Option Sign → Tokens
sign = optional (λ s. mark (of_sign s))

-- Const = ["+" | "-"] (NUMBER | NAME) | CHAR
abbrev pub constant : Const → Tokens
constant (const.Number s value span) = sign s ++ token.Number value ∷ []
constant (const.Name s n span) = sign s ++ name n
constant (const.Char value span) = token.Char value ∷ []

-- Ord = NAME | "(" Names ")" | Const ".." Const
abbrev pub ordinal_type : Ordinal → Tokens
ordinal_type (ordinal.Name n) = name n
ordinal_type (ordinal.Enumeration ns span) = enclosed k.OpenParenthesis k.CloseParenthesis (names ns)
ordinal_type (ordinal.Subrange low high span) = constant low ++ mark k.Dots ++ constant high

-- Type = Ord | [packed] (array "[" Ord {"," Ord} "]" of Type | record Fields end | set of Ord)
abbrev pub type_layer : TypeExpr-F Tokens Tokens Tokens → Tokens
type_layer (TypeExpr-F.Ordinal o) = ordinal_type o
type_layer (TypeExpr-F.Array packed indices component span) = flag k.Packed packed ++ mark k.Array ++ enclosed k.OpenBracket k.CloseBracket (separated k.Comma ordinal_type indices) ++ mark k.Of ++ component
type_layer (TypeExpr-F.Fields packed fields span) = flag k.Packed packed ++ enclosed k.Record k.End fields
type_layer (TypeExpr-F.Set packed base span) = flag k.Packed packed ++ mark k.Set ++ mark k.Of ++ ordinal_type base

-- Fields = Names ":" Type {";" Names ":" Type} [";"]
abbrev pub fields_layer : Fields-F Tokens Tokens Tokens → Tokens
fields_layer fs = separated k.Semicolon (λ x. x) fs.sections ++ flag k.Semicolon fs.semicolon

-- `Names ":" Type`
abbrev pub typed_layer : TypedNames-F Tokens Tokens Tokens → Tokens
typed_layer x = names x.names ++ mark k.Colon ++ x.type_expr

unfoldable pub type_expr : TypeExpr → Tokens
type_expr = fold-TypeExpr Tokens Tokens Tokens type_layer fields_layer typed_layer

unfoldable pub fields : Fields → Tokens
fields = fold-Fields Tokens Tokens Tokens type_layer fields_layer typed_layer

unfoldable pub typed_names : TypedNames → Tokens
typed_names = fold-TypedNames Tokens Tokens Tokens type_layer fields_layer typed_layer
