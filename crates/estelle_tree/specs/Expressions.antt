-- Which tokens an expression spells.
use Rattle.std.specs.Prelude.{◌≡◌, ℕ, zero, suc, ◌<◌, List, [], ◌∷◌}
use Rattle.estelle_tree.specs.declared.kind.Kind.{Kind}
use Rattle.estelle_tree.specs.declared.kind.Kind.TheVariants as k
use Rattle.estelle_tree.specs.declared.tree.name.Name.{Name}
use Rattle.estelle_tree.specs.declared.tree.expression.Relation.{Relation}
use Rattle.estelle_tree.specs.declared.tree.expression.Relation.TheVariants as relation
use Rattle.estelle_tree.specs.declared.tree.expression.Adding.{Adding}
use Rattle.estelle_tree.specs.declared.tree.expression.Adding.TheVariants as adding
use Rattle.estelle_tree.specs.declared.tree.expression.Multiplying.{Multiplying}
use Rattle.estelle_tree.specs.declared.tree.expression.Multiplying.TheVariants as multiplying
use Rattle.estelle_tree.specs.declared.tree.expression.Expr.{Expr, out-Expr}
use Rattle.estelle_tree.specs.declared.tree.expression.Simple.{Simple, out-Simple}
use Rattle.estelle_tree.specs.declared.tree.expression.Term.{Term, out-Term}
use Rattle.estelle_tree.specs.declared.tree.expression.Factor.{Factor, out-Factor}
use Rattle.estelle_tree.specs.declared.tree.expression.Factor.TheOpen.{Factor-F, Selector-F}
use Rattle.estelle_tree.specs.declared.tree.expression.Elem.{Elem, out-Elem}
use Rattle.estelle_tree.specs.declared.tree.expression.Args.{Args, out-Args}
use Rattle.estelle_tree.specs.declared.tree.expression.Variable.{Variable, out-Variable}
use Rattle.estelle_tree.specs.declared.tree.expression.Selector.{Selector, out-Selector}
use Rattle.estelle_tree.specs.Input.{Input, between}
use Rattle.estelle_tree.specs.Spans.{FactorLayer, SelectorLayer}
use Rattle.estelle_tree.specs.Spelling.{Spelling, Mark, Optional, Chain, Behind, Separated, Enclosed, Never}
use Rattle.estelle_tree.specs.Types.{IsName, IsNumber, IsChar, of_sign}

abbrev pub of_relation : Relation → Kind
of_relation relation.Equal = k.Equal
of_relation relation.NotEqual = k.NotEqual
of_relation relation.Less = k.Less
of_relation relation.AtMost = k.AtMost
of_relation relation.Greater = k.Greater
of_relation relation.AtLeast = k.AtLeast
of_relation relation.Member = k.In

abbrev pub of_adding : Adding → Kind
of_adding adding.Plus = k.Plus
of_adding adding.Minus = k.Minus
of_adding adding.Or = k.Or

abbrev pub of_multiplying : Multiplying → Kind
of_multiplying multiplying.Star = k.Star
of_multiplying multiplying.Div = k.Div
of_multiplying multiplying.Mod = k.Mod
of_multiplying multiplying.And = k.And

-- Over what the factors in it spell.
module _ (F : Spelling Factor) where
  -- Term = Factor {("*" | div | mod | and) Factor}
  pub record TermOf (t : Term) (i j : Input) : Type 0 where
    pub mid : Input
    pub first : F (out-Term t).first i mid
    pub others : Chain (λ x. Behind (of_multiplying x.0) F x.1) (out-Term t).others mid j
    pub span : (out-Term t).span ≡ between i j

  -- Simple = ["+" | "-"] Term {("+" | "-" | or) Term}
  pub record SimpleOf (s : Simple) (i j : Input) : Type 0 where
    pub at : Input
    pub mid : Input
    pub sign : Mark of_sign (out-Simple s).sign i at
    pub first : TermOf (out-Simple s).first at mid
    pub others : Chain (λ x. Behind (of_adding x.0) TermOf x.1) (out-Simple s).others mid j
    pub span : (out-Simple s).span ≡ between i j

  -- Expr = Simple [("=" | "<>" | "<" | "<=" | ">" | ">=" | in) Simple]
  pub record ExprOf (e : Expr) (i j : Input) : Type 0 where
    pub mid : Input
    pub left : SimpleOf (out-Expr e).left i mid
    pub right : Optional (λ x. Behind (of_relation x.0) SimpleOf x.1) (out-Expr e).right mid j
    pub span : (out-Expr e).span ≡ between i j

  -- Args = Expr {"," Expr}
  pub record ArgsOf (a : Args) (i j : Input) : Type 0 where
    pub exprs : Separated k.Comma ExprOf (out-Args a).exprs i j
    pub span : (out-Args a).span ≡ between i j

  -- Elem = Expr [".." Expr]
  pub record ElemOf (x : Elem) (i j : Input) : Type 0 where
    pub mid : Input
    pub first : ExprOf (out-Elem x).first i mid
    pub last : Optional (Behind k.Dots ExprOf) (out-Elem x).last mid j
    pub span : (out-Elem x).span ≡ between i j

  -- `[Elem {"," Elem}]`
  abbrev pub ElemsOf : Spelling (List Elem)
  ElemsOf [] i j = i ≡ j
  ElemsOf (x ∷ xs) i j = Separated k.Comma ElemOf (x ∷ xs) i j

-- Where this many more levels of nesting may open, and over what the factors one level down spell.
module _ (room : ℕ) (F : Spelling Factor) where
  -- `"[" Expr {"," Expr} "]" | "." NAME`
  abbrev pub SelectorLayerOf : Spelling SelectorLayer
  SelectorLayerOf (Selector-F.Index exprs) i j = (0 < room) × Enclosed k.OpenBracket k.CloseBracket (Separated k.Comma (ExprOf F)) exprs i j
  SelectorLayerOf (Selector-F.Field name) i j = Behind k.Dot IsName name i j

  abbrev pub SelectorOf : Spelling Selector
  SelectorOf s = SelectorLayerOf (out-Selector s)

  -- Variable = NAME {"[" Expr {"," Expr} "]" | "." NAME}
  pub record VariableOf (v : Variable) (i j : Input) : Type 0 where
    pub mid : Input
    pub name : IsName (out-Variable v).name i mid
    pub selectors : Chain SelectorOf (out-Variable v).selectors mid j
    pub span : (out-Variable v).span ≡ between i j

  -- `NAME "(" Args ")"`
  pub record CallOf (n : Name) (a : Args) (i j : Input) : Type 0 where
    pub mid : Input
    pub name : IsName n i mid
    pub args : Enclosed k.OpenParenthesis k.CloseParenthesis (ArgsOf F) a mid j

  -- Factor = NUMBER | CHAR | Variable | NAME "(" Args ")" | "(" Expr ")" | not Factor | "[" [Elem {"," Elem}] "]"
  abbrev pub IsFactorLayer : Spelling FactorLayer
  IsFactorLayer (Factor-F.Number value span) i j = IsNumber value i j × (span ≡ between i j)
  IsFactorLayer (Factor-F.Char value span) i j = IsChar value i j × (span ≡ between i j)
  IsFactorLayer (Factor-F.Variable variable) i j = VariableOf variable i j
  IsFactorLayer (Factor-F.Call name args span) i j = (0 < room) × CallOf name args i j × (span ≡ between i j)
  IsFactorLayer (Factor-F.Paren inner span) i j = (0 < room) × Enclosed k.OpenParenthesis k.CloseParenthesis (ExprOf F) inner i j × (span ≡ between i j)
  IsFactorLayer (Factor-F.Not operand span) i j = (0 < room) × Behind k.Not F operand i j × (span ≡ between i j)
  IsFactorLayer (Factor-F.Set elems span) i j = (0 < room) × Enclosed k.OpenBracket k.CloseBracket (ElemsOf F) elems i j × (span ≡ between i j)

-- one level down from where this many levels may open: nothing, where none may
abbrev pub FactorBelow : ℕ → Spelling Factor
FactorBelow zero f = Never f
FactorBelow (suc room) f = IsFactorLayer room (FactorBelow room) (out-Factor f)

abbrev pub ExprBelow : ℕ → Spelling Expr
ExprBelow room = ExprOf (FactorBelow room)

-- where this many more levels of nesting may open
abbrev pub IsFactor : ℕ → Spelling Factor
IsFactor room = FactorBelow (suc room)

abbrev pub IsExpr : ℕ → Spelling Expr
IsExpr room = ExprOf (IsFactor room)

abbrev pub IsArgs : ℕ → Spelling Args
IsArgs room = ArgsOf (IsFactor room)

abbrev pub IsVariable : ℕ → Spelling Variable
IsVariable room = VariableOf room (FactorBelow room)
