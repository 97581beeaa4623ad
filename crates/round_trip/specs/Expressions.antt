-- Expressions without their spans.
use Rattle.estelle_tree.specs.declared.tree.expression.Factor.{Factor, roll-Factor, fold-Factor}
use Rattle.estelle_tree.specs.declared.tree.expression.Factor.TheOpen.{Factor-F, Selector-F, Args-F, Elem-F, Expr-F, Simple-F, Term-F, Variable-F}
use Rattle.estelle_tree.specs.declared.tree.expression.Factor.TheFolds.{fold-Selector, fold-Args, fold-Elem, fold-Expr, fold-Simple, fold-Term, fold-Variable}
use Rattle.estelle_tree.specs.declared.tree.expression.Selector.{Selector, roll-Selector}
use Rattle.estelle_tree.specs.declared.tree.expression.Args.{Args, roll-Args}
use Rattle.estelle_tree.specs.declared.tree.expression.Elem.{Elem, roll-Elem}
use Rattle.estelle_tree.specs.declared.tree.expression.Expr.{Expr, roll-Expr}
use Rattle.estelle_tree.specs.declared.tree.expression.Simple.{Simple, roll-Simple}
use Rattle.estelle_tree.specs.declared.tree.expression.Term.{Term, roll-Term}
use Rattle.estelle_tree.specs.declared.tree.expression.Variable.{Variable, roll-Variable}
use Rattle.estelle_tree.specs.Spans.{FactorLayer, SelectorLayer, nowhere}
use Rattle.round_trip.specs.Types.{bare_name}

-- One level: the nodes in it have lost their spans.
abbrev pub factor_layer : FactorLayer → Factor
factor_layer (Factor-F.Number value span) = roll-Factor (Factor-F.Number value nowhere)
factor_layer (Factor-F.Char value span) = roll-Factor (Factor-F.Char value nowhere)
factor_layer (Factor-F.Variable variable) = roll-Factor (Factor-F.Variable variable)
factor_layer (Factor-F.Call name args span) = roll-Factor (Factor-F.Call (bare_name name) args nowhere)
factor_layer (Factor-F.Paren inner span) = roll-Factor (Factor-F.Paren inner nowhere)
factor_layer (Factor-F.Not operand span) = roll-Factor (Factor-F.Not operand nowhere)
factor_layer (Factor-F.Set elems span) = roll-Factor (Factor-F.Set elems nowhere)

abbrev pub selector_layer : SelectorLayer → Selector
selector_layer (Selector-F.Index exprs) = roll-Selector (Selector-F.Index exprs)
selector_layer (Selector-F.Field name) = roll-Selector (Selector-F.Field (bare_name name))

abbrev pub args_layer : Args-F Factor Selector Args Elem Expr Simple Term Variable → Args
args_layer a = roll-Args (record a { span = nowhere })

abbrev pub elem_layer : Elem-F Factor Selector Args Elem Expr Simple Term Variable → Elem
elem_layer x = roll-Elem (record x { span = nowhere })

abbrev pub expr_layer : Expr-F Factor Selector Args Elem Expr Simple Term Variable → Expr
expr_layer e = roll-Expr (record e { span = nowhere })

abbrev pub simple_layer : Simple-F Factor Selector Args Elem Expr Simple Term Variable → Simple
simple_layer s = roll-Simple (record s { span = nowhere })

abbrev pub term_layer : Term-F Factor Selector Args Elem Expr Simple Term Variable → Term
term_layer t = roll-Term (record t { span = nowhere })

abbrev pub variable_layer : Variable-F Factor Selector Args Elem Expr Simple Term Variable → Variable
variable_layer v = roll-Variable (record v { name = bare_name v.name; span = nowhere })

unfoldable pub bare_factor : Factor → Factor
bare_factor = fold-Factor Factor Selector Args Elem Expr Simple Term Variable factor_layer selector_layer args_layer elem_layer expr_layer simple_layer term_layer variable_layer

unfoldable pub bare_selector : Selector → Selector
bare_selector = fold-Selector Factor Selector Args Elem Expr Simple Term Variable factor_layer selector_layer args_layer elem_layer expr_layer simple_layer term_layer variable_layer

unfoldable pub bare_args : Args → Args
bare_args = fold-Args Factor Selector Args Elem Expr Simple Term Variable factor_layer selector_layer args_layer elem_layer expr_layer simple_layer term_layer variable_layer

unfoldable pub bare_elem : Elem → Elem
bare_elem = fold-Elem Factor Selector Args Elem Expr Simple Term Variable factor_layer selector_layer args_layer elem_layer expr_layer simple_layer term_layer variable_layer

unfoldable pub bare_expr : Expr → Expr
bare_expr = fold-Expr Factor Selector Args Elem Expr Simple Term Variable factor_layer selector_layer args_layer elem_layer expr_layer simple_layer term_layer variable_layer

unfoldable pub bare_simple : Simple → Simple
bare_simple = fold-Simple Factor Selector Args Elem Expr Simple Term Variable factor_layer selector_layer args_layer elem_layer expr_layer simple_layer term_layer variable_layer

unfoldable pub bare_term : Term → Term
bare_term = fold-Term Factor Selector Args Elem Expr Simple Term Variable factor_layer selector_layer args_layer elem_layer expr_layer simple_layer term_layer variable_layer

unfoldable pub bare_variable : Variable → Variable
bare_variable = fold-Variable Factor Selector Args Elem Expr Simple Term Variable factor_layer selector_layer args_layer elem_layer expr_layer simple_layer term_layer variable_layer
