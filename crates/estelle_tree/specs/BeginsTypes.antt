-- Which pieces begin names, constants and types.
use Rattle.std.specs.Prelude.{ℕ, zero, suc}
use Rattle.estelle_tree.specs.declared.kind.Kind.TheVariants as k
use Rattle.estelle_tree.specs.declared.tree.type_expr.TypeExpr.{TypeExpr}
use Rattle.estelle_tree.specs.Spelling.{Spelling}
use Rattle.estelle_tree.specs.Types.{IsName, IsNames, IsConst, IsOrdinal, of_sign, AreTyped, AreFields, TypeBelow}
use Rattle.estelle_tree.specs.Beginning.{Beginning, Nothing, ◌or◌, Then, After, OneToken, Opens, MayBe, MayBeOne, Separating}

-- NAME
abbrev pub BeginsName : Beginning
BeginsName = OneToken k.Name

-- Names = NAME {"," NAME}
abbrev pub BeginsNames : Beginning
BeginsNames = Separating k.Comma BeginsName IsName Nothing

-- Const = ["+" | "-"] (NUMBER | NAME) | CHAR
abbrev pub BeginsConst : Beginning
BeginsConst = MayBeOne of_sign (OneToken k.Number or OneToken k.Name) or OneToken k.Char

-- Ord = NAME | "(" Names ")" | Const ".." Const
abbrev pub BeginsOrdinal : Beginning
BeginsOrdinal =
    BeginsName
    or After k.OpenParenthesis (Then BeginsNames IsNames (OneToken k.CloseParenthesis))
    or Then BeginsConst IsConst (After k.Dots BeginsConst)

-- Over what the types in it spell and what begins them.
module _ (T : Spelling TypeExpr) (B : Beginning) where
  -- `Names ":" Type`
  abbrev pub BeginTyped : Beginning
  BeginTyped = Then BeginsNames IsNames (After k.Colon B)

  -- Fields = Names ":" Type {";" Names ":" Type} [";"]
  abbrev pub BeginFields : Beginning
  BeginFields = Separating k.Semicolon BeginTyped (AreTyped T) (OneToken k.Semicolon)

-- Type = Ord | [packed] (array "[" Ord {"," Ord} "]" of Type | record Fields end | set of Ord),
-- where this many more levels of nesting may open, and over what the types one level down spell and begin
abbrev pub BeginsTypeLayer : ℕ → Spelling TypeExpr → Beginning → Beginning
BeginsTypeLayer room T B =
    BeginsOrdinal
    or MayBe k.Packed (Opens room k.Array (After k.OpenBracket (Separating k.Comma BeginsOrdinal IsOrdinal (After k.CloseBracket (After k.Of B)))))
    or MayBe k.Packed (Opens room k.Record (Then (BeginFields T B) (AreFields T) (OneToken k.End)))
    or MayBe k.Packed (Opens room k.Set (After k.Of BeginsOrdinal))

-- one level down from where this many levels may open
abbrev pub BeginsTypeBelow : ℕ → Beginning
BeginsTypeBelow zero i j = Nothing i j
BeginsTypeBelow (suc room) i j = BeginsTypeLayer room (TypeBelow room) (BeginsTypeBelow room) i j

-- where this many more levels of nesting may open
abbrev pub BeginsType : ℕ → Beginning
BeginsType room = BeginsTypeBelow (suc room)
