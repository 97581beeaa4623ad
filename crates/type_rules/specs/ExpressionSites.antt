-- The types of expressions, and where rules speak of them (ISO 7185, 6.5 and 6.7).
use Rattle.std.specs.Prelude.{length, Bool, true, false, ◌&&◌, if◌then◌else◌, List, [], ◌∷◌, ◌++◌, fold, Option, Some, None}
use Rattle.std.specs.List.{flat_map}
use Rattle.estelle_tree.specs.declared.span.Span.{Span}
use Rattle.estelle_tree.specs.declared.tree.name.Name.{Name}
use Rattle.estelle_tree.specs.declared.tree.type_expr.Sign.{Sign}
use Rattle.estelle_tree.specs.declared.tree.expression.Relation.{Relation}
use Rattle.estelle_tree.specs.declared.tree.expression.Relation.TheVariants as relation
use Rattle.estelle_tree.specs.declared.tree.expression.Adding.{Adding}
use Rattle.estelle_tree.specs.declared.tree.expression.Adding.TheVariants as adding
use Rattle.estelle_tree.specs.declared.tree.expression.Multiplying.{Multiplying}
use Rattle.estelle_tree.specs.declared.tree.expression.Multiplying.TheVariants as multiplying
use Rattle.estelle_tree.specs.declared.tree.expression.Expr.{Expr}
use Rattle.estelle_tree.specs.declared.tree.expression.Factor.{Factor}
use Rattle.estelle_tree.specs.declared.tree.expression.Factor.TheOpen.{Factor-F, Selector-F, Args-F, Elem-F, Expr-F, Simple-F, Term-F, Variable-F}
use Rattle.estelle_tree.specs.declared.tree.expression.Factor.TheFolds.{fold-Factor, fold-Selector, fold-Args, fold-Elem, fold-Expr, fold-Simple, fold-Term, fold-Variable}
use Rattle.estelle_tree.specs.declared.tree.expression.Args.{Args}
use Rattle.estelle_tree.specs.declared.tree.expression.Elem.{Elem}
use Rattle.estelle_tree.specs.declared.tree.expression.Simple.{Simple}
use Rattle.estelle_tree.specs.declared.tree.expression.Term.{Term}
use Rattle.estelle_tree.specs.declared.tree.expression.Selector.{Selector}
use Rattle.estelle_tree.specs.declared.tree.expression.Variable.{Variable as VariableNode}
use Rattle.type_rules.specs.declared.types.Host.{Host}
use Rattle.type_rules.specs.declared.types.Host.TheVariants as host
use Rattle.type_rules.specs.declared.types.Base.TheVariants as set_base
use Rattle.type_rules.specs.declared.types.PascalType.{PascalType}
use Rattle.type_rules.specs.declared.types.PascalType.TheVariants as t
use Rattle.estelle_tree.specs.declared.required.Required.{Required}
use Rattle.estelle_tree.specs.declared.required.Required.TheVariants.{Abs, Sqr, Odd, Succ, Pred, Ord, Chr}
use Rattle.type_rules.specs.declared.meanings.Parameter.{Parameter}
use Rattle.type_rules.specs.declared.meanings.Meaning.{Meaning}
use Rattle.type_rules.specs.declared.meanings.Meaning.TheVariants.{Constant, Variable, Function, RequiredFunction, ModuleVariable}
use Rattle.type_rules.specs.declared.sites.Operator.{Operator}
use Rattle.type_rules.specs.declared.sites.Operator.TheVariants.{Arithmetic, Division, Logical, Equality, Order, Inclusion, Membership}
use Rattle.type_rules.specs.declared.sites.Wanted.{Wanted}
use Rattle.type_rules.specs.declared.sites.Wanted.TheVariants.{AnInteger, ABoolean, AnOrdinal, AnArray, Fitting}
use Rattle.type_rules.specs.declared.sites.Access.TheVariants.{NoVariable, OwnVariable, OfChild}
use Rattle.type_rules.specs.declared.sites.Typed.{Typed}
use Rattle.type_rules.specs.declared.sites.Members.{Members}
use Rattle.type_rules.specs.declared.sites.Members.TheVariants.{NoMember, SomeMembers}
use Rattle.type_rules.specs.declared.sites.Site.TheVariants.{Operation, Wants, CallOf, RoutineCalled, VariableNamed, ForVariable}
use Rattle.type_rules.specs.Types.{gives, where_, is_ordinal, is_boolean, is_integer, host_in, integer, boolean}
use Rattle.type_rules.specs.Meanings.{Env, known, parameters, declaration_of, Parameters, variable_type, index_type, component_type, array_of}
use Rattle.type_rules.specs.Sites.{is_wanted, Sites}

-- an expression: where it stands with its type, and where rules speak of what stands in it
pub record Judged : Type 0 where
  pub typed : Typed
  pub sites : Sites

-- an expression of a type that is no variable
abbrev pub value_at : Span → Option PascalType → Typed
value_at at u = record { at = at; type_ = u; access = NoVariable }

abbrev pub value : Span → Option PascalType → Sites → Judged
value at u sites = record { typed = value_at at u; sites = sites }

-- the place of an expression wants that it fits a variable of this type, where that has one
abbrev pub wants_fitting : Option PascalType → Typed → Sites
wants_fitting None e = []
wants_fitting (Some u) e = Wants (Fitting u) e ∷ []

-- a type, where an operand has one of which the test holds
abbrev pub given_by : (PascalType → Option PascalType) → Option PascalType → Option PascalType
given_by f None = None
given_by f (Some u) = f u

-- a type, where it is ordinal
unfoldable pub where_ordinal : Option PascalType → Option PascalType
where_ordinal = given_by (λ u. where_ (is_ordinal u) u)

abbrev pub from_one_to_another : Span → Span → Span
from_one_to_another a b = record { start = a.start; end = b.end }

-- ---- operations (6.7.2); an operation that is at fault, or has an operand without a type, has no type

unfoldable pub operated : Operator → Typed → Typed → Typed
operated o a b = value_at (from_one_to_another a.at b.at) (given_by (λ u. given_by (gives o u) b.type_) a.type_)

abbrev pub operation : Operator → Judged → Judged → Judged
operation o a b = record { typed = operated o a.typed b.typed; sites = a.sites ++ (b.sites ++ Operation o a.typed b.typed ∷ []) }

-- a sign acts on the whole first term
unfoldable pub signed_typed : Span → Typed → Typed
signed_typed at e = value_at (from_one_to_another at e.at) (given_by (λ u. where_ (is_integer u) integer) e.type_)

abbrev pub signed : Span → Option Sign → Judged → Judged
signed at None e = e
signed at (Some s) e = record { typed = signed_typed at e.typed; sites = e.sites ++ Wants AnInteger e.typed ∷ [] }

unfoldable pub negated_typed : Span → Typed → Typed
negated_typed at e = value_at at (given_by (λ u. where_ (is_boolean u) boolean) e.type_)

abbrev pub negated : Span → Judged → Judged
negated at e = record { typed = negated_typed at e.typed; sites = e.sites ++ Wants ABoolean e.typed ∷ [] }

unfoldable pub relating : Relation → Operator
relating relation.Equal = Equality
relating relation.NotEqual = Equality
relating relation.Less = Order
relating relation.AtMost = Inclusion
relating relation.Greater = Order
relating relation.AtLeast = Inclusion
relating relation.Member = Membership

unfoldable pub adding_ : Adding → Operator
adding_ adding.Plus = Arithmetic
adding_ adding.Minus = Arithmetic
adding_ adding.Or = Logical

unfoldable pub multiplying_ : Multiplying → Operator
multiplying_ multiplying.Star = Arithmetic
multiplying_ multiplying.Div = Division
multiplying_ multiplying.Mod = Division
multiplying_ multiplying.And = Logical

-- ---- set constructors (6.7.1)

-- the first member gives the base, and the others must fit it
abbrev pub member_wanted : Option Host → Wanted
member_wanted None = AnOrdinal
member_wanted (Some h) = Fitting (t.Whole h)

abbrev pub type_passes : (PascalType → Bool) → Option PascalType → Bool
type_passes p None = false
type_passes p (Some u) = p u

-- what is wanted of the next one
unfoldable pub next_wanted : Members → Wanted
next_wanted NoMember = AnOrdinal
next_wanted (SomeMembers base fit) = member_wanted base

unfoldable pub with_member : Members → Typed → Members
with_member NoMember e = SomeMembers (host_in e.type_) true
with_member (SomeMembers base fit) e = SomeMembers base (fit && type_passes (is_wanted (member_wanted base)) e.type_)

unfoldable pub set_type_of : Span → Members → Option PascalType
set_type_of at NoMember = Some t.EmptySet
set_type_of at (SomeMembers None fit) = None
set_type_of at (SomeMembers (Some h) fit) = where_ fit (t.Set (set_base.Ordinal h) at)

abbrev pub with_all : Members → List Judged → Members
with_all m [] = m
with_all m (e ∷ es) = with_all (with_member m e.typed) es

abbrev pub member_sites : Members → List Judged → Sites
member_sites m [] = []
member_sites m (e ∷ es) = (e.sites ++ Wants (next_wanted m) e.typed ∷ []) ++ member_sites (with_member m e.typed) es

abbrev pub set_constructor : Span → List Judged → Judged
set_constructor at es = value at (set_type_of at (with_all NoMember es)) (member_sites NoMember es)

-- ---- calls (6.6.3, 6.7.3)

-- an argument for a value parameter must fit it; one that has no parameter is judged by its number alone
abbrev pub argument : Option Parameter → Typed → Sites
argument None e = []
argument (Some p) e = if p.is_var then ForVariable p.type_ e ∷ [] else wants_fitting p.type_ e

abbrev pub first_of : Parameters → Option Parameter
first_of [] = None
first_of (p ∷ ps) = Some p

abbrev pub rest_of : Parameters → Parameters
rest_of [] = []
rest_of (p ∷ ps) = ps

abbrev pub arguments : Parameters → List Judged → Sites
arguments ps [] = []
arguments ps (e ∷ es) = (e.sites ++ argument (first_of ps) e.typed) ++ arguments (rest_of ps) es

abbrev pub all_sites : List Judged → Sites
all_sites es = flat_map (λ e. e.sites) es

abbrev pub call_sites : Span → Parameters → List Judged → Sites
call_sites at ps es = arguments ps es ++ CallOf at (length ps) (length es) ∷ []

-- what a required function takes (6.6.6)
unfoldable pub required_argument : Required → Wanted
required_argument Abs = AnInteger
required_argument Sqr = AnInteger
required_argument Odd = AnInteger
required_argument Chr = AnInteger
required_argument Succ = AnOrdinal
required_argument Pred = AnOrdinal
required_argument Ord = AnOrdinal

abbrev pub whole_of : Option Host → Option PascalType
whole_of None = None
whole_of (Some h) = Some (t.Whole h)

abbrev pub first_type : List Judged → Option PascalType
first_type [] = None
first_type (e ∷ es) = e.typed.type_

-- the type of a required function's result, by that of its argument
unfoldable pub required_result : Required → Option PascalType → Option PascalType
required_result Abs u = Some integer
required_result Sqr u = Some integer
required_result Odd u = Some boolean
required_result Chr u = Some (t.Whole host.Char)
required_result Ord u = Some integer
required_result Succ u = whole_of (host_in u)
required_result Pred u = whole_of (host_in u)

-- the first argument is the one that it takes
abbrev pub required_arguments : Required → List Judged → Sites
required_arguments f [] = []
required_arguments f (e ∷ es) = (e.sites ++ Wants (required_argument f) e.typed ∷ []) ++ all_sites es

abbrev pub required_call : Span → Name → Required → List Judged → Judged
required_call at x f es = value at (required_result f (first_type es)) (required_arguments f es ++ CallOf x.span 1 (length es) ∷ [])

-- a function designator; it has the type of the function's result, whatever its arguments
abbrev pub function_called : Env → Span → Name → List Judged → Meaning → Judged
function_called env at x es (Function u body) = value at u (RoutineCalled x.span (declaration_of env x) body ∷ call_sites x.span (parameters env x) es)
function_called env at x es (RequiredFunction f) = required_call at x f es
function_called env at x es m = value at None (all_sites es)

abbrev pub function_call : Env → Span → Name → List Judged → Judged
function_call env at x es = function_called env at x es (known env x)

-- ---- variables (6.5)

-- what selects a component: indices, or a name behind a dot
pub data Selection : Type 0 where
  Indices : List Judged → Selection
  Member : Name → Selection

-- what a name alone is: a variable, a constant, or a function that is called without arguments
abbrev pub named_as : Env → Name → Meaning → Judged
named_as env x (Constant h v) = value x.span (whole_of h) []
named_as env x (Variable u) = record { typed = record { at = x.span; type_ = u; access = OwnVariable }; sites = VariableNamed x.span (declaration_of env x) ∷ [] }
named_as env x ModuleVariable = record { typed = record { at = x.span; type_ = None; access = OfChild }; sites = VariableNamed x.span (declaration_of env x) ∷ [] }
named_as env x m = function_called env x.span x [] m

abbrev pub named : Env → Name → Judged
named env x = named_as env x (known env x)

-- the component of an array
unfoldable pub component_of : Env → Typed → Typed
component_of env v = record { at = v.at; type_ = given_by (λ u. component_type (array_of env u)) v.type_; access = v.access }

-- what must fit the index type of an array
abbrev pub index_sites : Env → Typed → Typed → Sites
index_sites env v e = Wants AnArray v ∷ wants_fitting (given_by (λ u. index_type (array_of env u)) v.type_) e

-- an index on a variable: that must be an array, and the index must fit its index type
abbrev pub indexed : Env → Judged → Judged → Judged
indexed env v e = record { typed = component_of env v.typed; sites = v.sites ++ (e.sites ++ index_sites env v.typed e.typed) }

-- the field of a record, or an exported variable of a child
unfoldable pub field_typed : Env → Typed → Name → Typed
field_typed env v x = record { at = v.at; type_ = variable_type (known env x); access = v.access }

abbrev pub field_of : Env → Judged → Name → Judged
field_of env v x = record { typed = field_typed env v.typed x; sites = v.sites }

abbrev pub selected : Env → Judged → Selection → Judged
selected env v (Indices es) = fold (indexed env) v es
selected env v (Member x) = field_of env v x

-- a selected variable stands where the whole of it does
unfoldable pub placed_at : Span → Typed → Typed
placed_at at v = record { at = at; type_ = v.type_; access = v.access }

abbrev pub begun_at : Span → Judged → Judged
begun_at at v = record { typed = placed_at at v.typed; sites = v.sites }

-- ---- the fold

abbrev pub factor_layer : Env → Factor-F Judged Selection (List Judged) (List Judged) Judged Judged Judged Judged → Judged
factor_layer env (Factor-F.Number n span) = value span (Some integer) []
factor_layer env (Factor-F.Char c span) = value span (Some (t.Whole host.Char)) []
factor_layer env (Factor-F.Variable v) = v
factor_layer env (Factor-F.Call x args span) = function_call env span x args
factor_layer env (Factor-F.Paren inner span) = value span inner.typed.type_ inner.sites
factor_layer env (Factor-F.Not operand span) = negated span operand
factor_layer env (Factor-F.Set elems span) = set_constructor span (flat_map (λ es. es) elems)

-- indices and fields, in the order in which they stand
abbrev pub selector_layer : Selector-F Judged Selection (List Judged) (List Judged) Judged Judged Judged Judged → Selection
selector_layer (Selector-F.Index exprs) = Indices exprs
selector_layer (Selector-F.Field x) = Member x

abbrev pub args_layer : Args-F Judged Selection (List Judged) (List Judged) Judged Judged Judged Judged → List Judged
args_layer a = a.exprs

abbrev pub optional : {A : Type 0} → Option A → List A
optional None = []
optional (Some x) = x ∷ []

abbrev pub elem_layer : Elem-F Judged Selection (List Judged) (List Judged) Judged Judged Judged Judged → List Judged
elem_layer x = x.first ∷ optional x.last

abbrev pub related : Judged → Option (Relation × Judged) → Judged
related e None = e
related e (Some r) = operation (relating r.0) e r.1

abbrev pub expr_layer : Expr-F Judged Selection (List Judged) (List Judged) Judged Judged Judged Judged → Judged
expr_layer e = related e.left e.right

abbrev pub added : Judged → Adding × Judged → Judged
added e r = operation (adding_ r.0) e r.1

abbrev pub simple_layer : Simple-F Judged Selection (List Judged) (List Judged) Judged Judged Judged Judged → Judged
simple_layer s = fold added (signed s.span s.sign s.first) s.others

abbrev pub multiplied : Judged → Multiplying × Judged → Judged
multiplied e r = operation (multiplying_ r.0) e r.1

abbrev pub term_layer : Term-F Judged Selection (List Judged) (List Judged) Judged Judged Judged Judged → Judged
term_layer x = fold multiplied x.first x.others

abbrev pub variable_layer : Env → Variable-F Judged Selection (List Judged) (List Judged) Judged Judged Judged Judged → Judged
variable_layer env v = fold (selected env) (begun_at v.span (named env v.name)) v.selectors

unfoldable pub factor : Env → Factor → Judged
factor env = fold-Factor Judged Selection (List Judged) (List Judged) Judged Judged Judged Judged (factor_layer env) selector_layer args_layer elem_layer expr_layer simple_layer term_layer (variable_layer env)

unfoldable pub selector : Env → Selector → Selection
selector env = fold-Selector Judged Selection (List Judged) (List Judged) Judged Judged Judged Judged (factor_layer env) selector_layer args_layer elem_layer expr_layer simple_layer term_layer (variable_layer env)

unfoldable pub args : Env → Args → List Judged
args env = fold-Args Judged Selection (List Judged) (List Judged) Judged Judged Judged Judged (factor_layer env) selector_layer args_layer elem_layer expr_layer simple_layer term_layer (variable_layer env)

unfoldable pub elem : Env → Elem → List Judged
elem env = fold-Elem Judged Selection (List Judged) (List Judged) Judged Judged Judged Judged (factor_layer env) selector_layer args_layer elem_layer expr_layer simple_layer term_layer (variable_layer env)

unfoldable pub expr : Env → Expr → Judged
expr env = fold-Expr Judged Selection (List Judged) (List Judged) Judged Judged Judged Judged (factor_layer env) selector_layer args_layer elem_layer expr_layer simple_layer term_layer (variable_layer env)

unfoldable pub simple : Env → Simple → Judged
simple env = fold-Simple Judged Selection (List Judged) (List Judged) Judged Judged Judged Judged (factor_layer env) selector_layer args_layer elem_layer expr_layer simple_layer term_layer (variable_layer env)

unfoldable pub term : Env → Term → Judged
term env = fold-Term Judged Selection (List Judged) (List Judged) Judged Judged Judged Judged (factor_layer env) selector_layer args_layer elem_layer expr_layer simple_layer term_layer (variable_layer env)

unfoldable pub variable : Env → VariableNode → Judged
variable env = fold-Variable Judged Selection (List Judged) (List Judged) Judged Judged Judged Judged (factor_layer env) selector_layer args_layer elem_layer expr_layer simple_layer term_layer (variable_layer env)

-- the type of an expression
abbrev pub type_of : Env → Expr → Option PascalType
type_of env e = (expr env e).typed.type_
