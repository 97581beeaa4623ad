-- The tokens of an expression.
use Rattle.std.specs.Prelude.{[], ◌∷◌, ◌++◌}
use Rattle.std.specs.List.{flat_map}
use Rattle.estelle_tree.specs.declared.token.Token.TheVariants as token
use Rattle.estelle_tree.specs.declared.kind.Kind.TheVariants as k
use Rattle.estelle_tree.specs.declared.tree.expression.Expr.{Expr}
use Rattle.estelle_tree.specs.declared.tree.expression.Simple.{Simple}
use Rattle.estelle_tree.specs.declared.tree.expression.Term.{Term}
use Rattle.estelle_tree.specs.declared.tree.expression.Factor.{Factor}
use Rattle.estelle_tree.specs.declared.tree.expression.Factor.TheOpen.{Factor-F, Selector-F, Args-F, Elem-F, Expr-F, Simple-F, Term-F, Variable-F}
use Rattle.estelle_tree.specs.declared.tree.expression.Factor.TheFolds.{fold-Factor, fold-Selector, fold-Args, fold-Elem, fold-Expr, fold-Simple, fold-Term, fold-Variable}
use Rattle.estelle_tree.specs.declared.tree.expression.Elem.{Elem}
use Rattle.estelle_tree.specs.declared.tree.expression.Args.{Args}
use Rattle.estelle_tree.specs.declared.tree.expression.Variable.{Variable}
use Rattle.estelle_tree.specs.declared.tree.expression.Selector.{Selector}
use Rattle.estelle_tree.specs.Expressions.{of_relation, of_adding, of_multiplying}
use Rattle.estelle_printer.specs.Forms.{Tokens, mark, optional, separated, enclosed}
use Rattle.estelle_printer.specs.TypeTokens.{name, sign}

-- Factor = NUMBER | CHAR | Variable | NAME "(" Args ")" | "(" Expr ")" | not Factor | "[" [Elem {"," Elem}] "]"
abbrev pub factor_layer : Factor-F Tokens Tokens Tokens Tokens Tokens Tokens Tokens Tokens → Tokens
factor_layer (Factor-F.Number value span) = token.Number value ∷ []
factor_layer (Factor-F.Char value span) = token.Char value ∷ []
factor_layer (Factor-F.Variable variable) = variable
factor_layer (Factor-F.Call n args span) = name n ++ enclosed k.OpenParenthesis k.CloseParenthesis args
factor_layer (Factor-F.Paren inner span) = enclosed k.OpenParenthesis k.CloseParenthesis inner
factor_layer (Factor-F.Not operand span) = mark k.Not ++ operand
factor_layer (Factor-F.Set elems span) = enclosed k.OpenBracket k.CloseBracket (separated k.Comma (λ x. x) elems)

-- `"[" Expr {"," Expr} "]" | "." NAME`
abbrev pub selector_layer : Selector-F Tokens Tokens Tokens Tokens Tokens Tokens Tokens Tokens → Tokens
selector_layer (Selector-F.Index exprs) = enclosed k.OpenBracket k.CloseBracket (separated k.Comma (λ x. x) exprs)
selector_layer (Selector-F.Field n) = mark k.Dot ++ name n

-- Args = Expr {"," Expr}
abbrev pub args_layer : Args-F Tokens Tokens Tokens Tokens Tokens Tokens Tokens Tokens → Tokens
args_layer a = separated k.Comma (λ x. x) a.exprs

-- Elem = Expr [".." Expr]
abbrev pub elem_layer : Elem-F Tokens Tokens Tokens Tokens Tokens Tokens Tokens Tokens → Tokens
elem_layer x = x.first ++ optional (λ last. mark k.Dots ++ last) x.last

-- Expr = Simple [("=" | "<>" | "<" | "<=" | ">" | ">=" | in) Simple]
abbrev pub expr_layer : Expr-F Tokens Tokens Tokens Tokens Tokens Tokens Tokens Tokens → Tokens
expr_layer e = e.left ++ optional (λ x. mark (of_relation x.0) ++ x.1) e.right

-- Simple = ["+" | "-"] Term {("+" | "-" | or) Term}
abbrev pub simple_layer : Simple-F Tokens Tokens Tokens Tokens Tokens Tokens Tokens Tokens → Tokens
simple_layer s = sign s.sign ++ s.first ++ flat_map (λ x. mark (of_adding x.0) ++ x.1) s.others

-- Term = Factor {("*" | div | mod | and) Factor}
abbrev pub term_layer : Term-F Tokens Tokens Tokens Tokens Tokens Tokens Tokens Tokens → Tokens
term_layer t = t.first ++ flat_map (λ x. mark (of_multiplying x.0) ++ x.1) t.others

-- Variable = NAME {"[" Expr {"," Expr} "]" | "." NAME}
abbrev pub variable_layer : Variable-F Tokens Tokens Tokens Tokens Tokens Tokens Tokens Tokens → Tokens
variable_layer v = name v.name ++ flat_map (λ x. x) v.selectors

unfoldable pub factor : Factor → Tokens
factor = fold-Factor Tokens Tokens Tokens Tokens Tokens Tokens Tokens Tokens factor_layer selector_layer args_layer elem_layer expr_layer simple_layer term_layer variable_layer

unfoldable pub selector : Selector → Tokens
selector = fold-Selector Tokens Tokens Tokens Tokens Tokens Tokens Tokens Tokens factor_layer selector_layer args_layer elem_layer expr_layer simple_layer term_layer variable_layer

unfoldable pub args : Args → Tokens
args = fold-Args Tokens Tokens Tokens Tokens Tokens Tokens Tokens Tokens factor_layer selector_layer args_layer elem_layer expr_layer simple_layer term_layer variable_layer

unfoldable pub elem : Elem → Tokens
elem = fold-Elem Tokens Tokens Tokens Tokens Tokens Tokens Tokens Tokens factor_layer selector_layer args_layer elem_layer expr_layer simple_layer term_layer variable_layer

unfoldable pub expr : Expr → Tokens
expr = fold-Expr Tokens Tokens Tokens Tokens Tokens Tokens Tokens Tokens factor_layer selector_layer args_layer elem_layer expr_layer simple_layer term_layer variable_layer

unfoldable pub simple : Simple → Tokens
simple = fold-Simple Tokens Tokens Tokens Tokens Tokens Tokens Tokens Tokens factor_layer selector_layer args_layer elem_layer expr_layer simple_layer term_layer variable_layer

unfoldable pub term : Term → Tokens
term = fold-Term Tokens Tokens Tokens Tokens Tokens Tokens Tokens Tokens factor_layer selector_layer args_layer elem_layer expr_layer simple_layer term_layer variable_layer

unfoldable pub variable : Variable → Tokens
variable = fold-Variable Tokens Tokens Tokens Tokens Tokens Tokens Tokens Tokens factor_layer selector_layer args_layer elem_layer expr_layer simple_layer term_layer variable_layer
