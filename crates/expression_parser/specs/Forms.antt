-- Expressions, as forms.
use Rattle.std.specs.Prelude.{ℕ, ◌==◌, Bool, ◌||◌, ◌&&◌, not, List, ◌⊎◌}
use Rattle.estelle_tree.specs.declared.kind.Kind.{Kind}
use Rattle.estelle_tree.specs.declared.kind.Kind.TheVariants as k
use Rattle.estelle_tree.specs.declared.tree.name.Name.{Name}
use Rattle.estelle_tree.specs.declared.tree.expression.Expr.{Expr}
use Rattle.estelle_tree.specs.declared.tree.expression.Simple.{Simple}
use Rattle.estelle_tree.specs.declared.tree.expression.Term.{Term}
use Rattle.estelle_tree.specs.declared.tree.expression.Factor.{Factor, out-Factor}
use Rattle.estelle_tree.specs.declared.tree.expression.Selector.{Selector}
use Rattle.estelle_tree.specs.declared.tree.expression.Variable.{Variable}
use Rattle.estelle_tree.specs.declared.tree.expression.Elem.{Elem}
use Rattle.estelle_tree.specs.declared.tree.expression.Args.{Args}
use Rattle.estelle_tree.specs.Spelling.{Spelling}
use Rattle.estelle_tree.specs.Beginning.{Beginning}
use Rattle.estelle_tree.specs.Types.{of_sign}
use Rattle.estelle_tree.specs.Expressions.{of_relation, of_adding, of_multiplying, TermOf, SimpleOf, ExprOf, ArgsOf, ElemOf, SelectorOf, VariableOf, IsFactorLayer}
use Rattle.estelle_tree.specs.BeginsExpressions.{BeginsFactorLayer}
use Rattle.expression_parser.specs.Expression.{sign_of, adding_of, multiplying_of, relation_of}
use Rattle.syntax_forms.specs.Kinds.{is}
use Rattle.syntax_forms.specs.Form.{Form, word, name, number, char, ◌▸◌, ◌⊕◌, level, unless, begun, mark, separated, node, hole}
use Rattle.syntax_forms.specs.Repeats.{marked, may, many, behind}

-- with these a factor begins
abbrev pub factor_first : Kind → Bool
factor_first x = is k.Number x || (is k.Char x || (is k.Name x || (is k.OpenParenthesis x || (is k.Not x || is k.OpenBracket x))))

-- with these a variable or a name goes on
abbrev pub factor_on : Kind → Bool
factor_on x = is k.OpenParenthesis x || (is k.OpenBracket x || is k.Dot x)

-- Over what the factors in it spell and what begins them.
module _ (F : Spelling Factor) (B : Beginning) where
  abbrev pub factor : Form Factor
  factor = hole F B factor_first factor_on

  -- Term = Factor {("*" | div | mod | and) Factor}
  abbrev pub term : Form Term
  term = node (TermOf F) (factor ▸ many (marked multiplying_of of_multiplying factor))

  -- Simple = ["+" | "-"] Term {("+" | "-" | or) Term}
  abbrev pub simple : Form Simple
  simple = node (SimpleOf F) (mark sign_of of_sign ▸ term ▸ many (marked adding_of of_adding term))

  -- Expr = Simple [("=" | "<>" | "<" | "<=" | ">" | ">=" | in) Simple]
  abbrev pub expr : Form Expr
  expr = node (ExprOf F) (simple ▸ may (marked relation_of of_relation simple))

  -- Args = Expr {"," Expr}
  abbrev pub args : Form Args
  args = node (ArgsOf F) (separated k.Comma expr)

  -- Elem = Expr [".." Expr]
  abbrev pub elem : Form Elem
  elem = node (ElemOf F) (expr ▸ may (behind k.Dots expr))

-- a name is a call's, where "(" stands behind it and a level may open
abbrev pub calls : ℕ → Kind → Bool
calls room x = is k.OpenParenthesis x && not (room == 0)

-- Where this many more levels of nesting may open.
module _ (room : ℕ) (F : Spelling Factor) (B : Beginning) where
  -- `"[" Expr {"," Expr} "]" | "." NAME`
  abbrev pub selector : Form Selector
  selector = node (SelectorOf room F) (level room k.OpenBracket (separated k.Comma (expr F B) ▸ word k.CloseBracket) ⊕ word k.Dot ▸ name)

  -- Variable = NAME {"[" Expr {"," Expr} "]" | "." NAME}
  abbrev pub variable : Form Variable
  variable = node (VariableOf room F) (name ▸ many selector)

  -- `NAME "(" Args ")"`
  abbrev pub call : Form (Name × (Args × Unit {0}))
  call = name ▸ level room k.OpenParenthesis (args F B ▸ word k.CloseParenthesis)

  -- a variable, or a call
  abbrev pub named : Form (Variable ⊎ (Name × (Args × Unit {0})))
  named = unless (calls room) variable call

  -- `"(" Expr ")"`
  abbrev pub paren : Form (Expr × Unit {0})
  paren = level room k.OpenParenthesis (expr F B ▸ word k.CloseParenthesis)

  -- `not Factor`
  abbrev pub negated : Form Factor
  negated = level room k.Not (factor F B)

  -- `"[" [Elem {"," Elem}] "]"`
  abbrev pub a_set : Form (Unit {0} ⊎ (List Elem × Unit {0}))
  a_set = level room k.OpenBracket (word k.CloseBracket ⊕ separated k.Comma (elem F B) ▸ word k.CloseBracket)

  -- Factor = NUMBER | CHAR | Variable | NAME "(" Args ")" | "(" Expr ")" | not Factor | "[" [Elem {"," Elem}] "]"
  abbrev pub factor_layer : Form Factor
  factor_layer = begun (BeginsFactorLayer room F B) (node (λ f. IsFactorLayer room F (out-Factor f)) (number ⊕ char ⊕ named ⊕ paren ⊕ negated ⊕ a_set))
