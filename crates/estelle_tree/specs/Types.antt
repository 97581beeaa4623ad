-- Which tokens names, constants and types spell.
use Rattle.std.specs.Prelude.{◌≡◌, ℕ, zero, suc, ◌<◌, ℤ, Bool, List, Option, Some}
use Rattle.estelle_tree.specs.declared.token.Token.TheVariants as token
use Rattle.estelle_tree.specs.declared.kind.Kind.{Kind}
use Rattle.estelle_tree.specs.declared.kind.Kind.TheVariants as k
use Rattle.estelle_tree.specs.declared.tree.name.Name.{Name}
use Rattle.estelle_tree.specs.declared.tree.name.NameList.{NameList}
use Rattle.estelle_tree.specs.declared.tree.type_expr.Sign.{Sign}
use Rattle.estelle_tree.specs.declared.tree.type_expr.Sign.TheVariants as sign
use Rattle.estelle_tree.specs.declared.tree.type_expr.Const.{Const}
use Rattle.estelle_tree.specs.declared.tree.type_expr.Const.TheVariants as const
use Rattle.estelle_tree.specs.declared.tree.type_expr.Ordinal.{Ordinal}
use Rattle.estelle_tree.specs.declared.tree.type_expr.Ordinal.TheVariants as ordinal
use Rattle.estelle_tree.specs.declared.tree.type_expr.TypeExpr.{TypeExpr, out-TypeExpr}
use Rattle.estelle_tree.specs.declared.tree.type_expr.TypeExpr.TheOpen.{TypeExpr-F}
use Rattle.estelle_tree.specs.declared.tree.type_expr.Fields.{Fields, out-Fields}
use Rattle.estelle_tree.specs.declared.tree.type_expr.TypedNames.{TypedNames, out-TypedNames}
use Rattle.estelle_tree.specs.Input.{Input, kind, next, token_at, between}
use Rattle.estelle_tree.specs.Spans.{TypeExprLayer}
use Rattle.estelle_tree.specs.Spelling.{Spelling, Takes, Flag, Mark, Behind, Joined, Separated, Enclosed, Never}

-- NAME: a word that is not reserved
pub record IsName (n : Name) (i j : Input) : Type 0 where
  pub token : token_at i ≡ Some (token.Word n.word)
  pub free : kind i ≡ k.Name
  pub span : n.span ≡ between i j
  pub next : next i ≡ j

-- NUMBER
pub record IsNumber (n : ℤ) (i j : Input) : Type 0 where
  pub token : token_at i ≡ Some (token.Number n)
  pub next : next i ≡ j

-- CHAR
pub record IsChar (c : ℕ) (i j : Input) : Type 0 where
  pub token : token_at i ≡ Some (token.Char c)
  pub next : next i ≡ j

-- Names = NAME {"," NAME}
pub record IsNames (ns : NameList) (i j : Input) : Type 0 where
  pub names : Separated k.Comma IsName ns.names i j
  pub span : ns.span ≡ between i j

abbrev pub of_sign : Sign → Kind
of_sign sign.Plus = k.Plus
of_sign sign.Minus = k.Minus

-- `["+" | "-"] x`
pub record Signed {A : Type 0} (P : Spelling A) (s : Option Sign) (x : A) (i j : Input) : Type 0 where
  pub at : Input
  pub sign : Mark of_sign s i at
  pub item : P x at j

-- Const = ["+" | "-"] (NUMBER | NAME) | CHAR
abbrev pub IsConst : Spelling Const
IsConst (const.Number s value span) i j = Signed IsNumber s value i j × (span ≡ between i j)
IsConst (const.Name s name span) i j = Signed IsName s name i j × (span ≡ between i j)
IsConst (const.Char value span) i j = IsChar value i j × (span ≡ between i j)

-- Ord = NAME | "(" Names ")" | Const ".." Const
abbrev pub IsOrdinal : Spelling Ordinal
IsOrdinal (ordinal.Name name) i j = IsName name i j
IsOrdinal (ordinal.Enumeration names span) i j = Enclosed k.OpenParenthesis k.CloseParenthesis IsNames names i j × (span ≡ between i j)
IsOrdinal (ordinal.Subrange low high span) i j = Joined k.Dots IsConst IsConst low high i j × (span ≡ between i j)

-- Over what the types in it spell.
module _ (T : Spelling TypeExpr) where
  -- `Names ":" Type`
  abbrev pub AreTyped : Spelling TypedNames
  AreTyped x i j = Joined k.Colon IsNames T (out-TypedNames x).names (out-TypedNames x).type_expr i j

  -- Fields = Names ":" Type {";" Names ":" Type} [";"]
  pub record AreFields (fs : Fields) (i j : Input) : Type 0 where
    pub mid : Input
    pub sections : Separated k.Semicolon AreTyped (out-Fields fs).sections i mid
    pub semicolon : Flag k.Semicolon (out-Fields fs).semicolon mid j
    pub span : (out-Fields fs).span ≡ between i j

  -- `[packed] array "[" Ord {"," Ord} "]" of Type`
  pub record IsArray (is_packed : Bool) (os : List Ordinal) (t : TypeExpr) (i j : Input) : Type 0 where
    pub at : Input
    pub after : Input
    pub mid : Input
    pub packed : Flag k.Packed is_packed i at
    pub array : Takes k.Array at after
    pub indices : Enclosed k.OpenBracket k.CloseBracket (Separated k.Comma IsOrdinal) os after mid
    pub component : Behind k.Of T t mid j

  -- `[packed] record Fields end`
  pub record IsRecord (is_packed : Bool) (fs : Fields) (i j : Input) : Type 0 where
    pub at : Input
    pub packed : Flag k.Packed is_packed i at
    pub fields : Enclosed k.Record k.End AreFields fs at j

-- `[packed] set of Ord`
pub record IsSet (is_packed : Bool) (o : Ordinal) (i j : Input) : Type 0 where
  pub at : Input
  pub after : Input
  pub packed : Flag k.Packed is_packed i at
  pub set : Takes k.Set at after
  pub base : Behind k.Of IsOrdinal o after j

-- Type = Ord | [packed] (array "[" Ord {"," Ord} "]" of Type | record Fields end | set of Ord),
-- where this many more levels of nesting may open, and over what the types one level down spell
abbrev pub IsTypeLayer : ℕ → Spelling TypeExpr → Spelling TypeExprLayer
IsTypeLayer room T (TypeExpr-F.Ordinal ordinal) i j = IsOrdinal ordinal i j
IsTypeLayer room T (TypeExpr-F.Array packed indices component span) i j = (0 < room) × IsArray T packed indices component i j × (span ≡ between i j)
IsTypeLayer room T (TypeExpr-F.Fields packed fields span) i j = (0 < room) × IsRecord T packed fields i j × (span ≡ between i j)
IsTypeLayer room T (TypeExpr-F.Set packed base span) i j = (0 < room) × IsSet packed base i j × (span ≡ between i j)

-- one level down from where this many levels may open: nothing, where none may
abbrev pub TypeBelow : ℕ → Spelling TypeExpr
TypeBelow zero t = Never t
TypeBelow (suc room) t = IsTypeLayer room (TypeBelow room) (out-TypeExpr t)

-- where this many more levels of nesting may open
abbrev pub IsType : ℕ → Spelling TypeExpr
IsType room = TypeBelow (suc room)
