-- What is computed of operands that are evaluated.
use Rattle.std.specs.Prelude.{ℕ, Bool, false, not, List, [], ◌∷◌, ◌++◌, Option, Some, None, Result, Ok}
use Rattle.pascal_values.specs.declared.value.Value.{Value}
use Rattle.pascal_values.specs.declared.value.Value.TheVariants as pascal
use Rattle.pascal_values.specs.Sets.{union}
use Rattle.estelle_tree.specs.declared.tree.type_expr.Sign.{Sign}
use Rattle.estelle_tree.specs.declared.tree.type_expr.Sign.TheVariants as sign
use Rattle.estelle_tree.specs.declared.tree.expression.Adding.{Adding}
use Rattle.estelle_tree.specs.declared.tree.expression.Adding.TheVariants as adding
use Rattle.estelle_tree.specs.declared.tree.expression.Multiplying.{Multiplying}
use Rattle.estelle_tree.specs.declared.tree.expression.Multiplying.TheVariants as multiplying
use Rattle.estelle_tree.specs.declared.tree.expression.Relation.{Relation}
use Rattle.estelle_tree.specs.declared.tree.expression.Expr.{Expr, out-Expr}
use Rattle.estelle_tree.specs.declared.tree.expression.Simple.{Simple, out-Simple}
use Rattle.estelle_tree.specs.declared.tree.expression.Term.{Term, out-Term}
use Rattle.estelle_tree.specs.declared.tree.expression.Factor.{Factor, out-Factor}
use Rattle.estelle_tree.specs.declared.tree.expression.Factor.TheOpen.{Factor-F}
use Rattle.estelle_tree.specs.declared.tree.expression.Elem.{Elem}
use Rattle.estelle_tree.specs.declared.tree.expression.Args.{Args}
use Rattle.estelle_tree.specs.declared.tree.expression.Selector.{Selector}
use Rattle.estelle_tree.specs.declared.tree.expression.Variable.{Variable}
use Rattle.estelle_model.specs.declared.denoter.Denoter.{Denoter}
use Rattle.estelle_model.specs.declared.place.Place.{Place}
use Rattle.estelle_model.specs.declared.place.ActualParameters.{ActualParameters}
use Rattle.estelle_model.specs.Stops.{Stop, stopping}
use Rattle.estelle_model.specs.Types.{shape_of, assignable}
use Rattle.estelle_model.specs.Operators.{◌>>>◌, bool_of, plus, minus, times, divided, modulo, signed}

-- the left operand decides: that of `or` where it is true
abbrev pub decides_sum : Adding → Value → Result Bool Stop
decides_sum adding.Or v = bool_of v
decides_sum _ v = Ok false

abbrev pub is_false : Value → Result Bool Stop
is_false v = bool_of v >>> λ b. Ok (not b)

-- and that of `and` where it is false
abbrev pub decides_product : Multiplying → Value → Result Bool Stop
decides_product multiplying.And v = is_false v
decides_product _ v = Ok false

abbrev pub truth : Value → Result Value Stop
truth v = bool_of v >>> λ b. Ok (pascal.Bool b)

-- the result where it does not
abbrev pub sum : Adding → Value → Value → Result Value Stop
sum adding.Plus v w = plus v w
sum adding.Minus v w = minus v w
sum adding.Or v w = truth w

abbrev pub product : Multiplying → Value → Value → Result Value Stop
product multiplying.Star v w = times v w
product multiplying.Div v w = divided v w
product multiplying.Mod v w = modulo v w
product multiplying.And v w = truth w

abbrev pub with_sign : Option Sign → Value → Result Value Stop
with_sign None v = Ok v
with_sign (Some sign.Plus) v = Ok v
with_sign (Some sign.Minus) v = signed sign.Minus v

abbrev pub with_members : List ℕ → List ℕ → Result (List ℕ) Stop
with_members made more = Ok (union made more)

abbrev pub fitted : Denoter → Value → Result Value Stop
fitted t v = stopping (assignable (shape_of t) v) >>> λ ok. Ok v

-- ---- arguments

abbrev pub variable_at : Factor-F Factor Selector Args Elem Expr Simple Term Variable → Option Variable
variable_at (Factor-F.Variable v) = Some v
variable_at _ = None

abbrev pub variable_of_factor : Factor → Option Variable
variable_of_factor f = variable_at (out-Factor f)

abbrev pub variable_in_term : Factor → List (Multiplying × Factor) → Option Variable
variable_in_term f [] = variable_of_factor f
variable_in_term f (o ∷ os) = None

abbrev pub variable_of_term : Term → Option Variable
variable_of_term t = variable_in_term (out-Term t).first (out-Term t).others

abbrev pub variable_in_simple : Option Sign → Term → List (Adding × Term) → Option Variable
variable_in_simple None t [] = variable_of_term t
variable_in_simple None t (o ∷ os) = None
variable_in_simple (Some sign) t os = None

abbrev pub variable_of_simple : Simple → Option Variable
variable_of_simple s = variable_in_simple (out-Simple s).sign (out-Simple s).first (out-Simple s).others

abbrev pub variable_in_expr : Simple → Option (Relation × Simple) → Option Variable
variable_in_expr s None = variable_of_simple s
variable_in_expr s (Some r) = None

-- the variable that an expression is alone, without parentheses
abbrev pub variable_in : Expr → Option Variable
variable_in e = variable_in_expr (out-Expr e).left (out-Expr e).right

abbrev pub with_value : ActualParameters → Value → Result ActualParameters Stop
with_value g v = Ok (record g { values = g.values ++ v ∷ [] })

abbrev pub with_reference : ActualParameters → Place → Result ActualParameters Stop
with_reference g p = Ok (record g { references = g.references ++ p ∷ [] })
