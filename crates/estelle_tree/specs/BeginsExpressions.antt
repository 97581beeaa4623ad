-- Which pieces begin an expression.
use Rattle.std.specs.Prelude.{ℕ, zero, suc}
use Rattle.estelle_tree.specs.declared.kind.Kind.{Kind}
use Rattle.estelle_tree.specs.declared.kind.Kind.TheVariants as k
use Rattle.estelle_tree.specs.declared.tree.expression.Factor.{Factor}
use Rattle.estelle_tree.specs.Spelling.{Spelling, Behind}
use Rattle.estelle_tree.specs.Types.{of_sign}
use Rattle.estelle_tree.specs.Expressions.{of_relation, of_adding, of_multiplying, TermOf, SimpleOf, ExprOf, ArgsOf, ElemOf, SelectorOf, FactorBelow}
use Rattle.estelle_tree.specs.Beginning.{Beginning, Nothing, ◌or◌, Then, After, AfterOne, OneToken, Opens, MayBeOne, Many, Separating}

-- `{k x}` for several terminals
abbrev pub ManyMarked : {O A : Type 0} → (O → Kind) → Beginning → Spelling A → Beginning
ManyMarked {O} {A} of B P = Many (AfterOne of B) (λ (x : O × A). Behind (of x.0) P x.1) Nothing

-- Over what the factors in it spell and what begins them.
module _ (F : Spelling Factor) (B : Beginning) where
  -- Term = Factor {("*" | div | mod | and) Factor}
  abbrev pub BeginTerm : Beginning
  BeginTerm = Then B F (ManyMarked of_multiplying B F)

  -- Simple = ["+" | "-"] Term {("+" | "-" | or) Term}
  abbrev pub BeginSimple : Beginning
  BeginSimple = MayBeOne of_sign (Then BeginTerm (TermOf F) (ManyMarked of_adding BeginTerm (TermOf F)))

  -- Expr = Simple [("=" | "<>" | "<" | "<=" | ">" | ">=" | in) Simple]
  abbrev pub BeginExpr : Beginning
  BeginExpr = Then BeginSimple (SimpleOf F) (AfterOne of_relation BeginSimple)

  -- Args = Expr {"," Expr}
  abbrev pub BeginArgs : Beginning
  BeginArgs = Separating k.Comma BeginExpr (ExprOf F) Nothing

  -- Elem = Expr [".." Expr]
  abbrev pub BeginElem : Beginning
  BeginElem = Then BeginExpr (ExprOf F) (After k.Dots BeginExpr)

-- Where this many more levels of nesting may open, and over what the factors one level down spell and begin.
module _ (room : ℕ) (F : Spelling Factor) (B : Beginning) where
  -- `"[" Expr {"," Expr} "]" | "." NAME`
  abbrev pub BeginSelector : Beginning
  BeginSelector =
      Opens room k.OpenBracket (Separating k.Comma (BeginExpr F B) (ExprOf F) (OneToken k.CloseBracket))
      or After k.Dot (OneToken k.Name)

  -- Variable = NAME {"[" Expr {"," Expr} "]" | "." NAME}
  abbrev pub BeginVariable : Beginning
  BeginVariable = After k.Name (Many BeginSelector (SelectorOf room F) Nothing)

  -- Factor = NUMBER | CHAR | Variable | NAME "(" Args ")" | "(" Expr ")" | not Factor | "[" [Elem {"," Elem}] "]"
  abbrev pub BeginsFactorLayer : Beginning
  BeginsFactorLayer =
      OneToken k.Number
      or OneToken k.Char
      or BeginVariable
      or After k.Name (Opens room k.OpenParenthesis (Then (BeginArgs F B) (ArgsOf F) (OneToken k.CloseParenthesis)))
      or Opens room k.OpenParenthesis (Then (BeginExpr F B) (ExprOf F) (OneToken k.CloseParenthesis))
      or Opens room k.Not B
      or Opens room k.OpenBracket (OneToken k.CloseBracket or Separating k.Comma (BeginElem F B) (ElemOf F) (OneToken k.CloseBracket))

-- one level down from where this many levels may open
abbrev pub BeginsFactorBelow : ℕ → Beginning
BeginsFactorBelow zero i j = Nothing i j
BeginsFactorBelow (suc room) i j = BeginsFactorLayer room (FactorBelow room) (BeginsFactorBelow room) i j

abbrev pub BeginsExprBelow : ℕ → Beginning
BeginsExprBelow room = BeginExpr (FactorBelow room) (BeginsFactorBelow room)

-- where this many more levels of nesting may open
abbrev pub BeginsExpr : ℕ → Beginning
BeginsExpr room = BeginsExprBelow (suc room)

abbrev pub BeginsArgs : ℕ → Beginning
BeginsArgs room = BeginArgs (FactorBelow (suc room)) (BeginsFactorBelow (suc room))

abbrev pub BeginsVariable : ℕ → Beginning
BeginsVariable room = BeginVariable room (FactorBelow room) (BeginsFactorBelow room)
