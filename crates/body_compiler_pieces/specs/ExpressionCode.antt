-- What expressions are compiled to.
use Rattle.std.specs.Prelude.{ℕ, true, false, List, [], ◌∷◌, length, Option, Some, None}
use Rattle.pascal_values.specs.declared.value.Value.TheVariants as pascal
use Rattle.pascal_values.specs.declared.value.Shape.{Shape}
use Rattle.estelle_tree.specs.declared.tree.name.Name.{Name}
use Rattle.estelle_tree.specs.declared.tree.type_expr.Sign.{Sign}
use Rattle.estelle_tree.specs.declared.tree.expression.Relation.{Relation}
use Rattle.estelle_tree.specs.declared.tree.type_expr.Sign.TheVariants as sign
use Rattle.estelle_tree.specs.declared.tree.expression.Relation.TheVariants as relation
use Rattle.estelle_tree.specs.declared.tree.expression.Adding.{Adding}
use Rattle.estelle_tree.specs.declared.tree.expression.Adding.TheVariants as adding
use Rattle.estelle_tree.specs.declared.tree.expression.Multiplying.{Multiplying}
use Rattle.estelle_tree.specs.declared.tree.expression.Multiplying.TheVariants as multiplying
use Rattle.estelle_tree.specs.declared.tree.expression.Expr.{Expr}
use Rattle.estelle_tree.specs.declared.tree.expression.Args.{Args}
use Rattle.estelle_tree.specs.declared.tree.expression.Variable.{Variable}
use Rattle.estelle_tree.specs.declared.tree.expression.Factor.TheOpen.{Factor-F, Selector-F, Args-F, Elem-F, Expr-F, Simple-F, Term-F, Variable-F}
use Rattle.estelle_tree.specs.declared.tree.expression.Factor.TheFolds.{fold-Expr, fold-Args, fold-Variable}
use Rattle.body_code.specs.declared.instr.Instr.TheVariants as op
use Rattle.estelle_model.specs.declared.denoter.Host.{Host}
use Rattle.estelle_model.specs.declared.denoter.Host.TheVariants as hosts
use Rattle.estelle_model.specs.declared.denoter.Denoter.{Denoter, out-Denoter}
use Rattle.estelle_model.specs.declared.denoter.Denoter.TheOpen.{Denoter-F}
use Rattle.estelle_model.specs.Types.{shape_of, host_of, whole, item_of, field_of}
use Rattle.estelle_model.specs.declared.meaning.Passing.{Passing}
use Rattle.estelle_model.specs.declared.meaning.Passing.TheVariants.{ByValue, ByPlace}
use Rattle.estelle_model.specs.declared.meaning.Routine.{Routine}
use Rattle.estelle_model.specs.declared.meaning.Meaning.{Meaning}
use Rattle.estelle_model.specs.declared.meaning.Meaning.TheVariants.{Constant, Own, Exported, Local, Var, Field, Module, Called, RequiredFunction}
use Rattle.estelle_tree.specs.declared.required.Required.{Required}
use Rattle.estelle_tree.specs.declared.required.Required.TheVariants as required
use Rattle.estelle_model.specs.Operators.{required_host}
use Rattle.estelle_model.specs.Expressions.{result_host}
use Rattle.estelle_model.specs.Meant.{Meanings}
use Rattle.body_compiler_pieces.specs.Pieces.{Piece, none, refused, one, ◌⨾◌, fork}

-- an expression: its value, the host of its type where that is ordinal, and its place where it is a variable
pub record Operand : Type 0 where
  pub value : Piece
  pub host : Host
  pub place : Option Piece

-- a variable by its type and its place
pub record Access : Type 0 where
  pub denoter : Denoter
  pub place : Piece

pub record Selecting : Type 0 where
  pub over : Access → Access
  pub name : Option Name

pub record Written : Type 0 where
  pub name : Name
  pub selectors : List Selecting

abbrev pub computed : Host → Piece → Operand
computed h p = record { value = p; host = h; place = None }

-- the truth value itself
abbrev pub truth : Piece → Piece
truth p = p ⨾ fork (one (op.Push (pascal.Bool true))) (one (op.Push (pascal.Bool false)))

abbrev pub added : Adding → Piece → Piece → Piece
added adding.Plus p q = p ⨾ q ⨾ one op.Add
added adding.Minus p q = p ⨾ q ⨾ one op.Sub
added adding.Or p q = p ⨾ fork (one (op.Push (pascal.Bool true))) (truth q)

abbrev pub added_host : Adding → Host
added_host adding.Or = hosts.Boolean
added_host _ = hosts.Integer

-- what is known where a unit is compiled
pub record Scope : Type 0 where
  pub meant : Meanings
  -- the local that a variable of the frame is, and the one that a var parameter is
  pub local : ℕ → Option ℕ
  pub reference : ℕ → Option ℕ
  -- the export that a variable of the child in a module variable is
  pub export : ℕ → ℕ → Option ℕ
  -- the number of a shape
  pub number : Shape → Option ℕ
  -- the body of a routine, and its number there
  pub routine : Name → Option (ℕ × ℕ)
  -- the number of an interaction among those of the channel of an interaction point
  pub interaction : (ip interaction : Name) → Option ℕ
  -- the types of the parameters of a body
  pub parameters : ℕ → Option (List Denoter)

abbrev pub by_number : Option ℕ → (ℕ → Piece) → Piece
by_number None f = refused
by_number (Some k) f = f k

-- an item of an array by its index; of another type there is none
abbrev pub item_code : Denoter-F Denoter → Piece
item_code (Denoter-F.Array low high item) = one (op.Index low high)
item_code _ = refused

module _ (scope : Scope) where
  -- an index, tested directly after its evaluation
  abbrev pub indexed : List Operand → Access → Access
  indexed [] a = a
  indexed (e ∷ es) a = indexed es (record { denoter = item_of a.denoter; place = a.place ⨾ (e.value ⨾ one op.Ord) ⨾ item_code (out-Denoter a.denoter) })

  abbrev pub fielded : Meaning → Access → Access
  fielded (Field k) a = record { denoter = field_of a.denoter k; place = a.place ⨾ one (op.Field k) }
  fielded _ a = record a { place = refused }

  abbrev pub selected : List Selecting → Access → Access
  selected [] a = a
  selected (s ∷ ss) a = selected ss (s.over a)

  -- an exported variable of the child in a module variable
  abbrev pub exported : ℕ → Meaning → List Selecting → Option Access
  exported m (Exported k t) ss = Some (selected ss (record { denoter = t; place = by_number (scope.export m k) (λ i. one (op.Exp m i)) }))
  exported m _ ss = None

  abbrev pub behind_dot : ℕ → Option Name → List Selecting → Option Access
  behind_dot m None ss = None
  behind_dot m (Some x) ss = exported m (scope.meant x) ss

  abbrev pub behind_module : ℕ → List Selecting → Option Access
  behind_module m [] = None
  behind_module m (s ∷ ss) = behind_dot m s.name ss

  abbrev pub accessed : Meaning → List Selecting → Option Access
  accessed (Own k t) ss = Some (selected ss (record { denoter = t; place = one (op.Var k) }))
  accessed (Exported k t) ss = Some (selected ss (record { denoter = t; place = one (op.Var k) }))
  accessed (Local k t) ss = Some (selected ss (record { denoter = t; place = by_number (scope.local k) (λ i. one (op.Loc i)) }))
  accessed (Var k t) ss = Some (selected ss (record { denoter = t; place = by_number (scope.reference k) (λ i. one (op.Ref i)) }))
  accessed (Module m) ss = behind_module m ss
  accessed _ ss = None

  abbrev pub of_access : Option Access → Operand
  of_access None = computed hosts.Integer refused
  of_access (Some a) = record { value = a.place ⨾ one op.Load; host = host_of a.denoter; place = Some a.place }

  -- ---- calls

  abbrev pub place_of_operand : Option Piece → Piece
  place_of_operand None = refused
  place_of_operand (Some p) = p

  -- a value argument fits its parameter; a var parameter is given a place
  abbrev pub give : Passing → Operand → Piece
  give (ByValue t) e = e.value ⨾ by_number (scope.number (shape_of t)) (λ n. one (op.Fit n))
  give ByPlace e = place_of_operand e.place

  -- arguments from left to right
  abbrev pub give_all : List Passing → List Operand → Piece
  give_all [] [] = none
  give_all (p ∷ ps) (e ∷ es) = give p e ⨾ give_all ps es
  give_all [] (e ∷ es) = refused
  give_all (p ∷ ps) [] = refused

  abbrev pub call : Option (ℕ × ℕ) → Routine → List Operand → Piece
  call None r es = refused
  call (Some u) r es = give_all r.parameters es ⨾ one (op.Call u.0 u.1 (length r.parameters))

  -- a function alone has a value
  abbrev pub where_result : Option Denoter → Piece → Piece
  where_result None p = refused
  where_result (Some t) p = p

  abbrev pub called : Name → Routine → List Operand → Operand
  called x r es = computed (result_host r.result) (where_result r.result (call (scope.routine x) r es))

  abbrev pub valued : Name → Meaning → List Selecting → Operand
  valued x (Constant v h) ss = computed h (one (op.Push v))
  valued x (Called r) ss = called x r []
  valued x m ss = of_access (accessed m ss)

  -- a value of an enumeration is tested against its type
  abbrev pub host_test : Host → Piece
  host_test (hosts.Enumeration last) = by_number (scope.number (shape_of (whole (hosts.Enumeration last)))) (λ n. one (op.Fit n))
  host_test _ = none

  -- what a required function computes of an argument whose type has this host
  abbrev pub required_code : Required → Host → Piece
  required_code required.Abs h = one op.Abs
  required_code required.Sqr h = one op.Sqr
  required_code required.Odd h = one op.Odd
  required_code required.Succ h = one op.Succ ⨾ host_test h
  required_code required.Pred h = one op.Pred ⨾ host_test h
  required_code required.Ord h = one op.Ord
  required_code required.Chr h = one op.Chr

  abbrev pub required_of : Required → List Operand → Operand
  required_of f (e ∷ []) = computed (required_host f e.host) (e.value ⨾ required_code f e.host)
  required_of f _ = computed hosts.Integer refused

  -- a function designator (ISO 7185, 6.7.3)
  abbrev pub designated : Name → Meaning → List Operand → Operand
  designated x (Called r) es = called x r es
  designated x (RequiredFunction f) es = required_of f es
  designated x _ es = computed hosts.Integer refused

  -- members are united with those before them
  abbrev pub united : List Piece → Piece
  united [] = none
  united (p ∷ ps) = p ⨾ one op.Unite ⨾ united ps

  -- the set of a member designator; the first ordinal is tested before the last one is evaluated
  abbrev pub member : Operand → Option Operand → Piece
  member e None = e.value ⨾ one op.One
  member e (Some f) = (e.value ⨾ one op.Ord) ⨾ f.value ⨾ one op.Span

  abbrev pub factor_layer : Factor-F Operand Selecting (List Operand) Piece Operand Operand Operand Written → Operand
  factor_layer (Factor-F.Number n span) = computed hosts.Integer (one (op.Push (pascal.Int n)))
  factor_layer (Factor-F.Char n span) = computed hosts.Char (one (op.Push (pascal.Char n)))
  factor_layer (Factor-F.Variable v) = valued v.name (scope.meant v.name) v.selectors
  factor_layer (Factor-F.Call x es span) = designated x (scope.meant x) es
  factor_layer (Factor-F.Paren e span) = computed e.host e.value
  factor_layer (Factor-F.Not e span) = computed hosts.Boolean (e.value ⨾ one op.Not)
  factor_layer (Factor-F.Set elems span) = computed hosts.Integer (one op.Empty ⨾ united elems)

  abbrev pub selector_layer : Selector-F Operand Selecting (List Operand) Piece Operand Operand Operand Written → Selecting
  selector_layer (Selector-F.Index es) = record { over = indexed es; name = None }
  selector_layer (Selector-F.Field x) = record { over = fielded (scope.meant x); name = Some x }

  abbrev pub args_layer : Args-F Operand Selecting (List Operand) Piece Operand Operand Operand Written → List Operand
  args_layer a = a.exprs

  abbrev pub elem_layer : Elem-F Operand Selecting (List Operand) Piece Operand Operand Operand Written → Piece
  elem_layer m = member m.first m.last

  abbrev pub multiplied : Multiplying → Piece → Piece → Piece
  multiplied multiplying.Star p q = p ⨾ q ⨾ one op.Mul
  multiplied multiplying.Div p q = p ⨾ q ⨾ one op.Div
  multiplied multiplying.Mod p q = p ⨾ q ⨾ one op.Mod
  multiplied multiplying.And p q = p ⨾ fork (truth q) (one (op.Push (pascal.Bool false)))

  abbrev pub multiplied_host : Multiplying → Host
  multiplied_host multiplying.And = hosts.Boolean
  multiplied_host _ = hosts.Integer

  -- factors from left to right
  abbrev pub term_of : Operand → List (Multiplying × Operand) → Operand
  term_of e [] = e
  term_of e (o ∷ more) = term_of (computed (multiplied_host o.0) (multiplied o.0 e.value o.1.value)) more

  abbrev pub term_layer : Term-F Operand Selecting (List Operand) Piece Operand Operand Operand Written → Operand
  term_layer t = term_of t.first t.others

  abbrev pub with_sign : Option Sign → Operand → Operand
  with_sign None e = e
  with_sign (Some sign.Plus) e = computed hosts.Integer e.value
  with_sign (Some sign.Minus) e = computed hosts.Integer (e.value ⨾ one op.Neg)

  -- terms from left to right
  abbrev pub simple_of : Operand → List (Adding × Operand) → Operand
  simple_of e [] = e
  simple_of e (o ∷ more) = simple_of (computed (added_host o.0) (added o.0 e.value o.1.value)) more

  abbrev pub simple_layer : Simple-F Operand Selecting (List Operand) Piece Operand Operand Operand Written → Operand
  simple_layer e = simple_of (with_sign e.sign e.first) e.others

  abbrev pub relation_of : Relation → Piece
  relation_of relation.Equal = one op.Eq
  relation_of relation.NotEqual = one op.Ne
  relation_of relation.Less = one op.Lt
  relation_of relation.AtMost = one op.Le
  relation_of relation.Greater = one op.Gt
  relation_of relation.AtLeast = one op.Ge
  relation_of relation.Member = one op.Has

  abbrev pub related_to : Operand → Option (Relation × Operand) → Operand
  related_to e None = e
  related_to e (Some r) = computed hosts.Boolean (e.value ⨾ r.1.value ⨾ relation_of r.0)

  abbrev pub expr_layer : Expr-F Operand Selecting (List Operand) Piece Operand Operand Operand Written → Operand
  expr_layer e = related_to e.left e.right

  abbrev pub variable_layer : Variable-F Operand Selecting (List Operand) Piece Operand Operand Operand Written → Written
  variable_layer v = record { name = v.name; selectors = v.selectors }

  unfoldable pub expr : Expr → Operand
  expr = fold-Expr Operand Selecting (List Operand) Piece Operand Operand Operand Written factor_layer selector_layer args_layer elem_layer expr_layer simple_layer term_layer variable_layer

  unfoldable pub variable : Variable → Written
  variable = fold-Variable Operand Selecting (List Operand) Piece Operand Operand Operand Written factor_layer selector_layer args_layer elem_layer expr_layer simple_layer term_layer variable_layer

  unfoldable pub args : Args → List Operand
  args = fold-Args Operand Selecting (List Operand) Piece Operand Operand Operand Written factor_layer selector_layer args_layer elem_layer expr_layer simple_layer term_layer variable_layer
