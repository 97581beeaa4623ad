-- Expressions and variable accesses: evaluation from left to right (ISO 7185, 6.5 and 6.7).
use Rattle.std.specs.Prelude.{ℕ, Bool, true, false, if◌then◌else◌, List, [], ◌∷◌, ◌++◌, slice_get, Option, Some, None, ℤ, Result, Ok, Err}
use Rattle.pascal_values.specs.declared.value.Value.{Value}
use Rattle.pascal_values.specs.declared.value.Value.TheVariants as pascal
use Rattle.pascal_values.specs.Sets.{union}
use Rattle.estelle_tree.specs.declared.tree.name.Name.{Name}
use Rattle.estelle_tree.specs.declared.tree.type_expr.Sign.{Sign}
use Rattle.estelle_tree.specs.declared.tree.type_expr.Sign.TheVariants as sign
use Rattle.estelle_tree.specs.declared.tree.expression.Relation.{Relation}
use Rattle.estelle_tree.specs.declared.tree.expression.Adding.{Adding}
use Rattle.estelle_tree.specs.declared.tree.expression.Adding.TheVariants as adding
use Rattle.estelle_tree.specs.declared.tree.expression.Multiplying.{Multiplying}
use Rattle.estelle_tree.specs.declared.tree.expression.Multiplying.TheVariants as multiplying
use Rattle.estelle_tree.specs.declared.tree.expression.Expr.{Expr}
use Rattle.estelle_tree.specs.declared.tree.expression.Simple.{Simple}
use Rattle.estelle_tree.specs.declared.tree.expression.Term.{Term}
use Rattle.estelle_tree.specs.declared.tree.expression.Factor.{Factor}
use Rattle.estelle_tree.specs.declared.tree.expression.Factor.TheOpen.{Factor-F, Selector-F, Args-F, Elem-F, Expr-F, Simple-F, Term-F, Variable-F}
use Rattle.estelle_tree.specs.declared.tree.expression.Factor.TheFolds.{fold-Factor, fold-Selector, fold-Args, fold-Elem, fold-Expr, fold-Simple, fold-Term, fold-Variable}
use Rattle.estelle_tree.specs.declared.tree.expression.Elem.{Elem}
use Rattle.estelle_tree.specs.declared.tree.expression.Args.{Args}
use Rattle.estelle_tree.specs.declared.tree.expression.Variable.{Variable}
use Rattle.estelle_tree.specs.declared.tree.expression.Selector.{Selector}
use Rattle.estelle_model.specs.declared.denoter.Host.{Host}
use Rattle.estelle_model.specs.declared.denoter.Host.TheVariants as hosts
use Rattle.estelle_model.specs.declared.denoter.Denoter.{Denoter}
use Rattle.estelle_model.specs.Stops.{Stop, Broken, stopping}
use Rattle.estelle_model.specs.Types.{ordinal_of, value_in, shape_of, host_of, whole, assignable, item_of, field_of, item_place}
use Rattle.estelle_tree.specs.declared.required.Required.{Required}
use Rattle.estelle_model.specs.Operators.{◌>>>◌, bool_of, plus, minus, times, divided, modulo, signed, negation, related, one_member, members_from, required_value, required_host}
use Rattle.estelle_model.specs.States.{Offers}
use Rattle.estelle_model.specs.Steps.{Step, ◌>>=◌, pure, breaks, checked}
use Rattle.estelle_model.specs.declared.meaning.Routine.{Routine}
use Rattle.estelle_model.specs.declared.meaning.Passing.{Passing}
use Rattle.estelle_model.specs.declared.meaning.Passing.TheVariants.{ByValue, ByPlace}
use Rattle.estelle_model.specs.declared.meaning.Meaning.{Meaning}
use Rattle.estelle_model.specs.declared.meaning.Meaning.TheVariants.{Constant, Own, Local, Var, Module, Exported, Field, Called, RequiredFunction}
use Rattle.estelle_model.specs.Meant.{Meanings, result_number}
use Rattle.estelle_model.specs.declared.place.Place.{Place}
use Rattle.estelle_model.specs.declared.place.Place.TheVariants.{Of, In}
use Rattle.estelle_model.specs.Places.{deeper, set_value, load, child_step}
use Rattle.estelle_model.specs.declared.place.Environment.{Environment}
use Rattle.estelle_model.specs.declared.place.ActualParameters.{ActualParameters}

-- what a call of a routine does, and a function's result
abbrev pub Call : Type 0 → Type 0
Call S = Routine → ActualParameters → Step S Value

-- an expression: its value, the host of its type where that is ordinal, and its place where it is a variable
pub record Operand (S : Type 0) : Type 0 where
  pub value : Step S Value
  pub host : Host
  pub place : Option (Step S Place)

-- a variable access: its type, and its place
pub record Access (S : Type 0) : Type 0 where
  pub denoter : Denoter
  pub place : Step S Place

-- a selector: the component that it selects, and the name behind its dot
pub record Selecting (S : Type 0) : Type 0 where
  pub over : Access S → Access S
  pub name : Option Name

-- a variable as it is written
pub record Written (S : Type 0) : Type 0 where
  pub name : Name
  pub selectors : List (Selecting S)

-- ---- operators on steps

abbrev pub bool_step : {S : Type 0} → Step S Value → Step S Bool
bool_step p = p >>= λ v. checked (bool_of v)

abbrev pub ordinal_step : {S : Type 0} → Step S Value → Step S ℤ
ordinal_step p = p >>= λ v. checked (ordinal_of v)

-- the ordinal of a bound of `for`, which is a value of the whole type of the variable's host
abbrev pub bound_of : Host → Value → Result ℤ Stop
bound_of h v = stopping (assignable (shape_of (whole h)) v) >>> λ ok. ordinal_of v

abbrev pub bound_step : {S : Type 0} → Host → Step S Value → Step S ℤ
bound_step h p = p >>= λ v. checked (bound_of h v)

-- the ordinal of the selector of `case`, which is an integer
abbrev pub selector_of : Value → Result ℤ Stop
selector_of v = ordinal_of v >>> λ n. value_in hosts.Integer n >>> λ w. Ok n

abbrev pub selector_step : {S : Type 0} → Step S Value → Step S ℤ
selector_step p = p >>= λ v. checked (selector_of v)

-- the left operand, then the right one
abbrev pub both : {S : Type 0} → (Value → Value → Result Value Stop) → Step S Value → Step S Value → Step S Value
both f p q = do
  v ← p
  w ← q
  checked (f v w)

-- the right operand is evaluated only where the left one is true
unfoldable pub conjunction : {S : Type 0} → Step S Value → Step S Value → Step S Value
conjunction p q = do
  b ← bool_step p
  if b then (bool_step q >>= λ c. pure (pascal.Bool c)) else pure (pascal.Bool false)

-- the right operand is evaluated only where the left one is false
unfoldable pub disjunction : {S : Type 0} → Step S Value → Step S Value → Step S Value
disjunction p q = do
  b ← bool_step p
  if b then pure (pascal.Bool true) else (bool_step q >>= λ c. pure (pascal.Bool c))

abbrev pub multiplied : {S : Type 0} → Multiplying → Step S Value → Step S Value → Step S Value
multiplied multiplying.Star p q = both times p q
multiplied multiplying.Div p q = both divided p q
multiplied multiplying.Mod p q = both modulo p q
multiplied multiplying.And p q = conjunction p q

abbrev pub added : {S : Type 0} → Adding → Step S Value → Step S Value → Step S Value
added adding.Plus p q = both plus p q
added adding.Minus p q = both minus p q
added adding.Or p q = disjunction p q

abbrev pub multiplied_host : Multiplying → Host
multiplied_host multiplying.And = hosts.Boolean
multiplied_host _ = hosts.Integer

abbrev pub added_host : Adding → Host
added_host adding.Or = hosts.Boolean
added_host _ = hosts.Integer

-- a value that is no variable's
abbrev pub computed : {S : Type 0} → Host → Step S Value → Operand S
computed h p = record { value = p; host = h; place = None }

-- ---- arguments

-- a value argument may be assigned to its parameter, which is tested directly after its evaluation; a var parameter names the place that the variable has now
abbrev pub place_of_operand : {S : Type 0} → Option (Step S Place) → Step S Place
place_of_operand None = breaks
place_of_operand (Some p) = p

abbrev pub give : {S : Type 0} → Passing → Operand S → ActualParameters → Step S ActualParameters
give (ByValue t) e g = do
  v ← e.value
  ok ← checked (stopping (assignable (shape_of t) v))
  pure (record g { values = g.values ++ v ∷ [] })
give ByPlace e g = place_of_operand e.place >>= λ p. pure (record g { references = g.references ++ p ∷ [] })

-- the arguments from left to right
abbrev pub give_all : {S : Type 0} → List Passing → List (Operand S) → ActualParameters → Step S ActualParameters
give_all [] [] g = pure g
give_all (p ∷ ps) (e ∷ es) g = give p e g >>= λ h. give_all ps es h
give_all [] (e ∷ es) g = breaks
give_all (p ∷ ps) [] g = breaks

abbrev pub no_arguments : ActualParameters
no_arguments = record { values = []; references = [] }

-- ---- set constructors

-- the ordinals of a member designator
abbrev pub member_step : {S : Type 0} → Operand S → Option (Operand S) → Step S (List ℕ)
member_step e None = ordinal_step e.value >>= λ n. checked (one_member n)
member_step e (Some f) = do
  a ← ordinal_step e.value
  b ← ordinal_step f.value
  checked (members_from a b)

-- the members from left to right, each tested directly after its evaluation
abbrev pub set_step : {S : Type 0} → List ℕ → List (Step S (List ℕ)) → Step S Value
set_step made [] = pure (pascal.Set made)
set_step made (p ∷ ps) = p >>= λ ns. set_step (union made ns) ps

abbrev pub result_host : Option Denoter → Host
result_host None = hosts.Integer
result_host (Some t) = host_of t

abbrev pub reference_at : Option Place → Result Place Stop
reference_at None = Err Broken
reference_at (Some p) = Ok p

-- ---- trees

module _ (S : Type 0) (on : Offers S) (meant : Meanings) (call : Call S) (here : Environment) where
  -- an index of an array, tested directly after its evaluation
  abbrev pub index_step : Access S → Operand S → Step S Place
  index_step a e = do
    p ← a.place
    n ← ordinal_step e.value
    k ← checked (item_place a.denoter n)
    pure (deeper p k)

  -- one index after another
  abbrev pub indexed : List (Operand S) → Access S → Access S
  indexed [] a = a
  indexed (e ∷ es) a = indexed es (record { denoter = item_of a.denoter; place = index_step a e })

  -- a name that is no field's breaks a rule
  abbrev pub fielded : Meaning → Access S → Access S
  fielded (Field k) a = record { denoter = field_of a.denoter k; place = a.place >>= λ p. pure (deeper p k) }
  fielded _ a = record a { place = a.place >>= λ p. breaks }

  abbrev pub selected : List (Selecting S) → Access S → Access S
  selected [] a = a
  selected (s ∷ ss) a = selected ss (s.over a)

  -- an exported variable of the child in a module variable
  abbrev pub exported : ℕ → Meaning → List (Selecting S) → Option (Access S)
  exported m (Exported k t) ss = Some (selected ss (record { denoter = t; place = child_step S on here.path m >>= λ p. pure (Of p k []) }))
  exported m _ ss = None

  abbrev pub behind_dot : ℕ → Option Name → List (Selecting S) → Option (Access S)
  behind_dot m None ss = None
  behind_dot m (Some x) ss = exported m (meant x) ss

  abbrev pub behind_module : ℕ → List (Selecting S) → Option (Access S)
  behind_module m [] = None
  behind_module m (s ∷ ss) = behind_dot m s.name ss

  -- what a name and the selectors behind it access, where that is a variable
  abbrev pub accessed : Meaning → List (Selecting S) → Option (Access S)
  accessed (Own k t) ss = Some (selected ss (record { denoter = t; place = pure (Of here.path k []) }))
  accessed (Local k t) ss = Some (selected ss (record { denoter = t; place = pure (In here.frame k []) }))
  accessed (Var k t) ss = Some (selected ss (record { denoter = t; place = checked (reference_at (slice_get here.references k)) }))
  accessed (Exported k t) ss = Some (selected ss (record { denoter = t; place = pure (Of here.path k []) }))
  accessed (Module m) ss = behind_module m ss
  accessed _ ss = None

  abbrev pub of_access : Option (Access S) → Operand S
  of_access None = computed hosts.Integer breaks
  of_access (Some a) = record { value = a.place >>= λ p. load S on p; host = host_of a.denoter; place = Some a.place }

  -- a function's result, which is read at the end of the call
  unfoldable pub called : Routine → List (Operand S) → Step S Value
  called r es = do
    given ← give_all r.parameters es no_arguments
    v ← call r given
    checked (set_value (Some v))

  -- a name with selectors in an expression: a constant, a function without arguments, or a variable
  abbrev pub valued : Meaning → List (Selecting S) → Operand S
  valued (Constant v h) ss = computed h (pure v)
  valued (Called r) ss = computed (result_host r.result) (called r [])
  valued m ss = of_access (accessed m ss)

  abbrev pub required_of : Required → List (Operand S) → Operand S
  required_of f (e ∷ []) = computed (required_host f e.host) (e.value >>= λ v. checked (required_value f e.host v))
  required_of f _ = computed hosts.Integer breaks

  -- a function designator (ISO 7185, 6.7.3)
  abbrev pub designated : Meaning → List (Operand S) → Operand S
  designated (Called r) es = computed (result_host r.result) (called r es)
  designated (RequiredFunction f) es = required_of f es
  designated _ es = computed hosts.Integer breaks

  abbrev pub factor_layer : Factor-F (Operand S) (Selecting S) (List (Operand S)) (Step S (List ℕ)) (Operand S) (Operand S) (Operand S) (Written S) → Operand S
  factor_layer (Factor-F.Number n span) = computed hosts.Integer (pure (pascal.Int n))
  factor_layer (Factor-F.Char n span) = computed hosts.Char (pure (pascal.Char n))
  factor_layer (Factor-F.Variable v) = valued (meant v.name) v.selectors
  factor_layer (Factor-F.Call x es span) = designated (meant x) es
  factor_layer (Factor-F.Paren e span) = computed e.host e.value
  factor_layer (Factor-F.Not e span) = computed hosts.Boolean (e.value >>= λ v. checked (negation v))
  factor_layer (Factor-F.Set elems span) = computed hosts.Integer (set_step [] elems)

  abbrev pub selector_layer : Selector-F (Operand S) (Selecting S) (List (Operand S)) (Step S (List ℕ)) (Operand S) (Operand S) (Operand S) (Written S) → Selecting S
  selector_layer (Selector-F.Index es) = record { over = indexed es; name = None }
  selector_layer (Selector-F.Field x) = record { over = fielded (meant x); name = Some x }

  abbrev pub args_layer : Args-F (Operand S) (Selecting S) (List (Operand S)) (Step S (List ℕ)) (Operand S) (Operand S) (Operand S) (Written S) → List (Operand S)
  args_layer a = a.exprs

  abbrev pub elem_layer : Elem-F (Operand S) (Selecting S) (List (Operand S)) (Step S (List ℕ)) (Operand S) (Operand S) (Operand S) (Written S) → Step S (List ℕ)
  elem_layer m = member_step m.first m.last

  -- factors from left to right
  abbrev pub term_of : Operand S → List (Multiplying × Operand S) → Operand S
  term_of e [] = e
  term_of e (o ∷ more) = term_of (computed (multiplied_host o.0) (multiplied o.0 e.value o.1.value)) more

  abbrev pub term_layer : Term-F (Operand S) (Selecting S) (List (Operand S)) (Step S (List ℕ)) (Operand S) (Operand S) (Operand S) (Written S) → Operand S
  term_layer t = term_of t.first t.others

  -- a sign applies to the whole first term; a plus changes no value
  abbrev pub with_sign : Option Sign → Operand S → Operand S
  with_sign None e = e
  with_sign (Some sign.Plus) e = computed hosts.Integer e.value
  with_sign (Some sign.Minus) e = computed hosts.Integer (e.value >>= λ v. checked (signed sign.Minus v))

  -- terms from left to right
  abbrev pub simple_of : Operand S → List (Adding × Operand S) → Operand S
  simple_of e [] = e
  simple_of e (o ∷ more) = simple_of (computed (added_host o.0) (added o.0 e.value o.1.value)) more

  abbrev pub simple_layer : Simple-F (Operand S) (Selecting S) (List (Operand S)) (Step S (List ℕ)) (Operand S) (Operand S) (Operand S) (Written S) → Operand S
  simple_layer e = simple_of (with_sign e.sign e.first) e.others

  abbrev pub related_to : Operand S → Option (Relation × Operand S) → Operand S
  related_to e None = e
  related_to e (Some r) = computed hosts.Boolean (both (related r.0) e.value r.1.value)

  abbrev pub expr_layer : Expr-F (Operand S) (Selecting S) (List (Operand S)) (Step S (List ℕ)) (Operand S) (Operand S) (Operand S) (Written S) → Operand S
  expr_layer e = related_to e.left e.right

  abbrev pub variable_layer : Variable-F (Operand S) (Selecting S) (List (Operand S)) (Step S (List ℕ)) (Operand S) (Operand S) (Operand S) (Written S) → Written S
  variable_layer v = record { name = v.name; selectors = v.selectors }

  unfoldable pub expr : Expr → Operand S
  expr = fold-Expr (Operand S) (Selecting S) (List (Operand S)) (Step S (List ℕ)) (Operand S) (Operand S) (Operand S) (Written S) factor_layer selector_layer args_layer elem_layer expr_layer simple_layer term_layer variable_layer

  unfoldable pub args : Args → List (Operand S)
  args = fold-Args (Operand S) (Selecting S) (List (Operand S)) (Step S (List ℕ)) (Operand S) (Operand S) (Operand S) (Written S) factor_layer selector_layer args_layer elem_layer expr_layer simple_layer term_layer variable_layer

  unfoldable pub variable : Variable → Written S
  variable = fold-Variable (Operand S) (Selecting S) (List (Operand S)) (Step S (List ℕ)) (Operand S) (Operand S) (Operand S) (Written S) factor_layer selector_layer args_layer elem_layer expr_layer simple_layer term_layer variable_layer

  unfoldable pub factor : Factor → Operand S
  factor = fold-Factor (Operand S) (Selecting S) (List (Operand S)) (Step S (List ℕ)) (Operand S) (Operand S) (Operand S) (Written S) factor_layer selector_layer args_layer elem_layer expr_layer simple_layer term_layer variable_layer

  unfoldable pub term : Term → Operand S
  term = fold-Term (Operand S) (Selecting S) (List (Operand S)) (Step S (List ℕ)) (Operand S) (Operand S) (Operand S) (Written S) factor_layer selector_layer args_layer elem_layer expr_layer simple_layer term_layer variable_layer

  unfoldable pub simple : Simple → Operand S
  simple = fold-Simple (Operand S) (Selecting S) (List (Operand S)) (Step S (List ℕ)) (Operand S) (Operand S) (Operand S) (Written S) factor_layer selector_layer args_layer elem_layer expr_layer simple_layer term_layer variable_layer

  unfoldable pub elem : Elem → Step S (List ℕ)
  elem = fold-Elem (Operand S) (Selecting S) (List (Operand S)) (Step S (List ℕ)) (Operand S) (Operand S) (Operand S) (Written S) factor_layer selector_layer args_layer elem_layer expr_layer simple_layer term_layer variable_layer

  unfoldable pub selector : Selector → Selecting S
  selector = fold-Selector (Operand S) (Selecting S) (List (Operand S)) (Step S (List ℕ)) (Operand S) (Operand S) (Operand S) (Written S) factor_layer selector_layer args_layer elem_layer expr_layer simple_layer term_layer variable_layer

  -- what stands on the left of an assignment: a variable, or the result of the function that runs
  abbrev pub result_of : Routine → Option Denoter → Option (Access S)
  result_of r None = None
  result_of r (Some t) = Some (record { denoter = t; place = pure (In here.frame (result_number r) []) })

  abbrev pub assigned : Meaning → List (Selecting S) → Option (Access S)
  assigned (Called r) ss = result_of r r.result
  assigned m ss = accessed m ss

  unfoldable pub target : Variable → Option (Access S)
  target v = assigned (meant (variable v).name) (variable v).selectors
