-- Where rules speak of statements (ISO 7185, 6.8; ISO/IEC 9074).
use Rattle.std.specs.Prelude.{Bool, false, if◌then◌else◌, List, [], ◌∷◌, ◌++◌, Option, Some, None}
use Rattle.std.specs.List.{flat_map, list_any}
use Rattle.estelle_tree.specs.declared.span.Span.{Span}
use Rattle.estelle_tree.specs.declared.tree.name.Name.{Name}
use Rattle.estelle_tree.specs.declared.tree.type_expr.Const.{Const}
use Rattle.estelle_tree.specs.declared.tree.expression.Expr.{Expr}
use Rattle.estelle_tree.specs.declared.tree.expression.Args.{Args}
use Rattle.estelle_tree.specs.declared.tree.expression.Variable.{Variable as VariableNode, out-Variable}
use Rattle.estelle_tree.specs.declared.tree.statement.Stmt.{Stmt}
use Rattle.estelle_tree.specs.declared.tree.statement.Stmt.TheOpen.{Stmt-F, Case-F, Stmts-F}
use Rattle.estelle_tree.specs.declared.tree.statement.Stmt.TheFolds.{fold-Stmt, fold-Case, fold-Stmts}
use Rattle.estelle_tree.specs.declared.tree.statement.Stmts.{Stmts}
use Rattle.estelle_tree.specs.declared.tree.statement.Case.{Case}
use Rattle.estelle_tree.specs.Spans.{of_const}
use Rattle.type_rules.specs.declared.types.PascalType.{PascalType}
use Rattle.type_rules.specs.declared.types.Value.{Value}
use Rattle.type_rules.specs.declared.meanings.Meaning.{Meaning}
use Rattle.type_rules.specs.declared.meanings.Meaning.TheVariants.{Function}
use Rattle.type_rules.specs.declared.sites.Wanted.{Wanted}
use Rattle.type_rules.specs.declared.sites.Wanted.TheVariants.{ABoolean}
use Rattle.type_rules.specs.declared.sites.Site.TheVariants.{Wants, RoutineCalled, VariableNamed, Assigns, CallsProcedure, EstelleStatement, LabelAt, CountedBy}
use Rattle.type_rules.specs.Types.{same_value}
use Rattle.type_rules.specs.Meanings.{Env, known, parameters, declaration_of, variable_type, body_of, names_function, const_value}
use Rattle.type_rules.specs.Sites.{Sites}
use Rattle.type_rules.specs.TypeSites.{const_site}
use Rattle.type_rules.specs.ExpressionSites.{Judged, wants_fitting, where_ordinal, call_sites, expr, args, variable}

-- an expression whose place wants this of it, with what stands in it
abbrev pub wanting : Env → Wanted → Expr → Sites
wanting env w e = (expr env e).sites ++ Wants w (expr env e).typed ∷ []

abbrev pub condition : Env → Expr → Sites
condition env = wanting env ABoolean

-- an expression that must fit a variable of this type
abbrev pub fitting : Env → Option PascalType → Expr → Sites
fitting env u e = (expr env e).sites ++ wants_fitting u (expr env e).typed

abbrev pub arguments_of : Env → Option Args → List Judged
arguments_of env None = []
arguments_of env (Some a) = args env a

-- what is assigned: a variable, or alone by its name the result of a function (6.8.2.2)
abbrev pub target_type : Env → VariableNode → Meaning → Option PascalType
target_type env v (Function u body) = u
target_type env v m = (variable env v).typed.type_

abbrev pub target_sites : Env → VariableNode → Meaning → Sites
target_sites env v (Function u body) = []
target_sites env v m = (variable env v).sites

-- the name of this meaning is assigned
abbrev pub assigns : Env → Span → Name → Sites
assigns env span x = Assigns span (declaration_of env x) (names_function (known env x)) ∷ []

abbrev pub assignment : Env → Span → VariableNode → Expr → Sites
assignment env span v e =
    let m : Meaning = known env (out-Variable v).name in
    target_sites env v m ++ (fitting env (target_type env v m) e ++ assigns env span (out-Variable v).name)

-- ---- the labels of a `case` (6.8.3.5)

-- some labels have this value
abbrev pub is_among : List Value → Value → Bool
is_among values v = list_any (same_value v) values

abbrev pub is_repeated : List Value → Option Value → Bool
is_repeated values None = false
is_repeated values (Some v) = is_among values v

-- the values of some labels, with that of one more, each once
abbrev pub with_value : List Value → Option Value → List Value
with_value values None = values
with_value values (Some v) = if is_among values v then values else values ++ v ∷ []

abbrev pub label_sites : Env → Option PascalType → List Value → Const → Sites
label_sites env selector values c = LabelAt (of_const c) selector (const_value env c) (is_repeated values (const_value env c)) ∷ const_site env c

-- labels, behind others with these values
abbrev pub labels : Env → Option PascalType → List Value → List Const → Sites
labels env selector values [] = []
labels env selector values (c ∷ cs) = label_sites env selector values c ++ labels env selector (with_value values (const_value env c)) cs

abbrev pub with_labels : Env → List Value → List Const → List Value
with_labels env values [] = values
with_labels env values (c ∷ cs) = with_labels env (with_value values (const_value env c)) cs

-- one case: its labels, and its statement
abbrev pub Alternative : Type 0
Alternative = List Const × Sites

abbrev pub alternatives : Env → Option PascalType → List Value → List Alternative → Sites
alternatives env selector values [] = []
alternatives env selector values (a ∷ more) = (labels env selector values a.0 ++ a.1) ++ alternatives env selector (with_labels env values a.0) more

-- ---- statements

abbrev pub counting : Env → Span → Name → Expr → Expr → Sites
counting env span x low high =
    let u : Option PascalType = variable_type (known env x) in
    VariableNamed x.span (declaration_of env x) ∷ CountedBy x.span u ∷ (assigns env span x ++ (fitting env (where_ordinal u) low ++ fitting env (where_ordinal u) high))

abbrev pub called : Env → Name → Option Args → Sites
called env x a = call_sites x.span (parameters env x) (arguments_of env a)

abbrev pub procedure_call : Env → Span → Name → Option Args → Sites
procedure_call env span x a = CallsProcedure span ∷ (RoutineCalled x.span (declaration_of env x) (body_of (known env x)) ∷ called env x a)

abbrev pub or_none : Option Sites → Sites
or_none None = []
or_none (Some s) = s

abbrev pub stmt_layer : Env → Stmt-F Sites Alternative Sites → Sites
stmt_layer env Stmt-F.Empty = []
stmt_layer env (Stmt-F.Assign v e span) = assignment env span v e
stmt_layer env (Stmt-F.Call x a span) = procedure_call env span x a
stmt_layer env (Stmt-F.Begin stmts span) = stmts
stmt_layer env (Stmt-F.If e then_part else_part span) = condition env e ++ (then_part ++ or_none else_part)
stmt_layer env (Stmt-F.While e body span) = condition env e ++ body
stmt_layer env (Stmt-F.Repeat stmts e span) = stmts ++ condition env e
stmt_layer env (Stmt-F.Count x low direction high body span) = counting env span x low high ++ body
stmt_layer env (Stmt-F.Case e cases semicolon span) = (expr env e).sites ++ alternatives env (expr env e).typed.type_ [] cases
stmt_layer env (Stmt-F.Init modvar body a span) = EstelleStatement span ∷ called env body a
stmt_layer env (Stmt-F.Release modvar span) = EstelleStatement span ∷ []
stmt_layer env (Stmt-F.Connect first second span) = EstelleStatement span ∷ []
stmt_layer env (Stmt-F.Disconnect ip span) = EstelleStatement span ∷ []
stmt_layer env (Stmt-F.Attach own modvar ip span) = EstelleStatement span ∷ []
stmt_layer env (Stmt-F.Detach own span) = EstelleStatement span ∷ []
stmt_layer env (Stmt-F.Output ip interaction a span) = EstelleStatement span ∷ called env interaction a

abbrev pub case_layer : Case-F Sites Alternative Sites → Alternative
case_layer c = (c.labels, c.body)

abbrev pub stmts_layer : Stmts-F Sites Alternative Sites → Sites
stmts_layer ss = flat_map (λ s. s) ss.stmts

unfoldable pub stmt : Env → Stmt → Sites
stmt env = fold-Stmt Sites Alternative Sites (stmt_layer env) case_layer stmts_layer

unfoldable pub case_ : Env → Case → Alternative
case_ env = fold-Case Sites Alternative Sites (stmt_layer env) case_layer stmts_layer

unfoldable pub stmts : Env → Stmts → Sites
stmts env = fold-Stmts Sites Alternative Sites (stmt_layer env) case_layer stmts_layer
