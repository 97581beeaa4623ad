-- What expressions say of names.
use Rattle.std.specs.Prelude.{List, [], ◌∷◌, ◌++◌, map, Option, Some, None}
use Rattle.std.specs.List.{flat_map}
use Rattle.estelle_tree.specs.declared.tree.name.Name.{Name}
use Rattle.estelle_tree.specs.declared.tree.expression.Expr.{Expr}
use Rattle.estelle_tree.specs.declared.tree.expression.Simple.{Simple}
use Rattle.estelle_tree.specs.declared.tree.expression.Term.{Term}
use Rattle.estelle_tree.specs.declared.tree.expression.Factor.{Factor}
use Rattle.estelle_tree.specs.declared.tree.expression.Factor.TheOpen.{Factor-F, Selector-F, Args-F, Elem-F, Expr-F, Simple-F, Term-F, Variable-F}
use Rattle.estelle_tree.specs.declared.tree.expression.Factor.TheFolds.{fold-Factor, fold-Selector, fold-Args, fold-Elem, fold-Expr, fold-Simple, fold-Term, fold-Variable}
use Rattle.estelle_tree.specs.declared.tree.expression.Elem.{Elem}
use Rattle.estelle_tree.specs.declared.tree.expression.Args.{Args}
use Rattle.estelle_tree.specs.declared.tree.expression.Variable.{Variable}
use Rattle.estelle_tree.specs.declared.tree.expression.Selector.{Selector}
use Rattle.scope_rules.specs.declared.declaration.Need.{Need}
use Rattle.scope_rules.specs.declared.declaration.Need.TheVariants as need
use Rattle.scope_rules.specs.declared.event.Step.{Step}
use Rattle.scope_rules.specs.declared.event.Step.TheVariants as step
use Rattle.scope_rules.specs.declared.event.Event.TheVariants.{Use}
use Rattle.scope_rules.specs.TypeEvents.{Events, use_alone}

abbrev pub optional : {A : Type 0} → (A → Events) → Option A → Events
optional f None = []
optional f (Some x) = f x

-- the steps of a selector, and what stands in its indices
abbrev pub Selected : Type 0
Selected = List Step × Events

-- a variable as it is written: its name, its steps, and what stands in its indices
abbrev pub Accessed : Type 0
Accessed = Name × List Step × Events

-- what the name of a variable must mean: by what stands behind it, and where nothing does, by the place of the variable
abbrev pub needed : Need → List Step → Need
needed alone [] = alone
needed alone (step.Index ∷ more) = need.Variable
needed alone (step.Member x n ∷ more) = need.Selected
needed alone (step.Role x ∷ more) = need.Selected

abbrev pub access_events : Need → Accessed → Events
access_events alone v = Use v.0 (needed alone v.1) v.1 ∷ v.2

-- Factor = NUMBER | CHAR | Variable | NAME "(" Args ")" | "(" Expr ")" | not Factor | "[" [Elem {"," Elem}] "]"
abbrev pub factor_layer : Factor-F Events Selected Events Events Events Events Events Accessed → Events
factor_layer (Factor-F.Number value span) = []
factor_layer (Factor-F.Char value span) = []
factor_layer (Factor-F.Variable v) = access_events need.Value v
factor_layer (Factor-F.Call x args span) = use_alone need.Function x ++ args
factor_layer (Factor-F.Paren inner span) = inner
factor_layer (Factor-F.Not operand span) = operand
factor_layer (Factor-F.Set elems span) = flat_map (λ x. x) elems

-- an index steps once for each of its expressions (ISO 7185, 6.5.3.2); a name behind a dot is a field or an exported variable
abbrev pub selector_layer : Selector-F Events Selected Events Events Events Events Events Accessed → Selected
selector_layer (Selector-F.Index exprs) = (map (λ x. step.Index) exprs, flat_map (λ x. x) exprs)
selector_layer (Selector-F.Field x) = (step.Member x need.Component ∷ [], [])

abbrev pub args_layer : Args-F Events Selected Events Events Events Events Events Accessed → Events
args_layer a = flat_map (λ x. x) a.exprs

abbrev pub elem_layer : Elem-F Events Selected Events Events Events Events Events Accessed → Events
elem_layer x = x.first ++ optional (λ last. last) x.last

abbrev pub expr_layer : Expr-F Events Selected Events Events Events Events Events Accessed → Events
expr_layer e = e.left ++ optional (λ x. x.1) e.right

abbrev pub simple_layer : Simple-F Events Selected Events Events Events Events Events Accessed → Events
simple_layer s = s.first ++ flat_map (λ x. x.1) s.others

abbrev pub term_layer : Term-F Events Selected Events Events Events Events Events Accessed → Events
term_layer t = t.first ++ flat_map (λ x. x.1) t.others

-- Variable = NAME {"[" Expr {"," Expr} "]" | "." NAME}
abbrev pub variable_layer : Variable-F Events Selected Events Events Events Events Events Accessed → Accessed
variable_layer v = (v.name, flat_map (λ s. s.0) v.selectors, flat_map (λ s. s.1) v.selectors)

unfoldable pub factor : Factor → Events
factor = fold-Factor Events Selected Events Events Events Events Events Accessed factor_layer selector_layer args_layer elem_layer expr_layer simple_layer term_layer variable_layer

unfoldable pub selector : Selector → Selected
selector = fold-Selector Events Selected Events Events Events Events Events Accessed factor_layer selector_layer args_layer elem_layer expr_layer simple_layer term_layer variable_layer

unfoldable pub args : Args → Events
args = fold-Args Events Selected Events Events Events Events Events Accessed factor_layer selector_layer args_layer elem_layer expr_layer simple_layer term_layer variable_layer

unfoldable pub elem : Elem → Events
elem = fold-Elem Events Selected Events Events Events Events Events Accessed factor_layer selector_layer args_layer elem_layer expr_layer simple_layer term_layer variable_layer

unfoldable pub expr : Expr → Events
expr = fold-Expr Events Selected Events Events Events Events Events Accessed factor_layer selector_layer args_layer elem_layer expr_layer simple_layer term_layer variable_layer

unfoldable pub simple : Simple → Events
simple = fold-Simple Events Selected Events Events Events Events Events Accessed factor_layer selector_layer args_layer elem_layer expr_layer simple_layer term_layer variable_layer

unfoldable pub term : Term → Events
term = fold-Term Events Selected Events Events Events Events Events Accessed factor_layer selector_layer args_layer elem_layer expr_layer simple_layer term_layer variable_layer

unfoldable pub variable : Variable → Accessed
variable = fold-Variable Events Selected Events Events Events Events Events Accessed factor_layer selector_layer args_layer elem_layer expr_layer simple_layer term_layer variable_layer

-- the left side of an assignment
abbrev pub assigned : Variable → Events
assigned v = access_events need.Assigned (variable v)
