-- Trees for the examples. A name is told by its place.
use Rattle.std.specs.Prelude.{ℕ, false, List, [], ◌∷◌, Option, Some, None, ℤ}
use Rattle.estelle_tree.specs.declared.span.Span.{Span}
use Rattle.estelle_tree.specs.declared.tree.name.Name.{Name}
use Rattle.estelle_tree.specs.declared.tree.type_expr.Sign.{Sign}
use Rattle.estelle_tree.specs.declared.tree.type_expr.Const.TheVariants as const
use Rattle.estelle_tree.specs.declared.tree.expression.Relation.{Relation}
use Rattle.estelle_tree.specs.declared.tree.expression.Adding.{Adding}
use Rattle.estelle_tree.specs.declared.tree.expression.Multiplying.{Multiplying}
use Rattle.estelle_tree.specs.declared.tree.expression.Factor.{Factor, roll-Factor}
use Rattle.estelle_tree.specs.declared.tree.expression.Factor.TheOpen.{Factor-F, Selector-F}
use Rattle.estelle_tree.specs.declared.tree.expression.Selector.{Selector, roll-Selector}
use Rattle.estelle_tree.specs.declared.tree.expression.Args.{Args, roll-Args}
use Rattle.estelle_tree.specs.declared.tree.expression.Elem.{Elem, roll-Elem}
use Rattle.estelle_tree.specs.declared.tree.expression.Expr.{Expr, roll-Expr}
use Rattle.estelle_tree.specs.declared.tree.expression.Simple.{Simple, roll-Simple}
use Rattle.estelle_tree.specs.declared.tree.expression.Term.{Term, roll-Term}
use Rattle.estelle_tree.specs.declared.tree.expression.Variable.{Variable, roll-Variable}
use Rattle.estelle_tree.specs.declared.tree.statement.Direction.{Direction}
use Rattle.estelle_tree.specs.declared.tree.statement.Stmt.{Stmt, roll-Stmt}
use Rattle.estelle_tree.specs.declared.tree.statement.Stmts.{Stmts, roll-Stmts}
use Rattle.estelle_tree.specs.declared.tree.statement.Case.{Case, roll-Case}
use Rattle.estelle_tree.specs.declared.tree.statement.Stmt.TheOpen.{Stmt-F}

abbrev pub nowhere : Span
nowhere = record { start = 0; end = 0 }

abbrev pub name : ℕ → Name
name n = record { word = []; span = record { start = n; end = n } }

-- ---- expressions

abbrev pub number : ℤ → Factor
number n = roll-Factor (Factor-F.Number n nowhere)

-- a name with selectors
abbrev pub access : ℕ → List Selector → Variable
access x ss = roll-Variable (record { name = name x; selectors = ss; span = nowhere })

abbrev pub accessing : ℕ → List Selector → Factor
accessing x ss = roll-Factor (Factor-F.Variable (access x ss))

abbrev pub named : ℕ → Factor
named x = accessing x []

abbrev pub parenthesised : Expr → Factor
parenthesised e = roll-Factor (Factor-F.Paren e nowhere)

abbrev pub arguments : List Expr → Args
arguments es = roll-Args (record { exprs = es; span = nowhere })

abbrev pub call_with : ℕ → List Expr → Factor
call_with f es = roll-Factor (Factor-F.Call (name f) (arguments es) nowhere)

abbrev pub set_of : List Elem → Factor
set_of es = roll-Factor (Factor-F.Set es nowhere)

abbrev pub member : Expr → Option Expr → Elem
member first last = roll-Elem (record { first = first; last = last; span = nowhere })

abbrev pub index : List Expr → Selector
index es = roll-Selector (Selector-F.Index es)

abbrev pub term : Factor → List (Multiplying × Factor) → Term
term f more = roll-Term (record { first = f; others = more; span = nowhere })

abbrev pub simple_expr : Option Sign → Term → List (Adding × Term) → Simple
simple_expr sign t more = roll-Simple (record { sign = sign; first = t; others = more; span = nowhere })

abbrev pub of_simple : Simple → Expr
of_simple x = roll-Expr (record { left = x; right = None; span = nowhere })

-- a factor alone
abbrev pub alone : Factor → Expr
alone f = of_simple (simple_expr None (term f []) [])

-- one operator, of two factors
abbrev pub product : Factor → Multiplying → Factor → Expr
product f op g = of_simple (simple_expr None (term f ((op, g) ∷ [])) [])

abbrev pub sum : Factor → Adding → Factor → Expr
sum f op g = of_simple (simple_expr None (term f []) ((op, term g []) ∷ []))

abbrev pub relation : Factor → Relation → Factor → Expr
relation f op g = roll-Expr (record { left = simple_expr None (term f []) []; right = Some (op, simple_expr None (term g []) []); span = nowhere })

-- a sign in front of it
abbrev pub signed_product : Sign → Factor → Multiplying → Factor → Expr
signed_product sign f op g = of_simple (simple_expr (Some sign) (term f ((op, g) ∷ [])) [])

abbrev pub signed_alone : Sign → Factor → Expr
signed_alone sign f = of_simple (simple_expr (Some sign) (term f []) [])

-- ---- statements

abbrev pub empty : Stmt
empty = roll-Stmt Stmt-F.Empty

abbrev pub assignment : Variable → Expr → Stmt
assignment v e = roll-Stmt (Stmt-F.Assign v e nowhere)

abbrev pub sequence : List Stmt → Stmts
sequence ps = roll-Stmts (record { stmts = ps; span = nowhere })

abbrev pub procedure_call : ℕ → List Expr → Stmt
procedure_call p es = roll-Stmt (Stmt-F.Call (name p) (Some (arguments es)) nowhere)

abbrev pub plain_call : ℕ → Stmt
plain_call p = roll-Stmt (Stmt-F.Call (name p) None nowhere)

abbrev pub while : Expr → Stmt → Stmt
while test body = roll-Stmt (Stmt-F.While test body nowhere)

abbrev pub for : ℕ → Expr → Direction → Expr → Stmt → Stmt
for x first dir last body = roll-Stmt (Stmt-F.Count (name x) first dir last body nowhere)

abbrev pub case_of : Expr → List Case → Stmt
case_of e cases = roll-Stmt (Stmt-F.Case e cases false nowhere)

-- a case with one label
abbrev pub labelled : ℤ → Stmt → Case
labelled n p = roll-Case (record { labels = const.Number None n nowhere ∷ []; body = p; span = nowhere })
