-- What definitions and routines say of names.
use Rattle.std.specs.Prelude.{[], ◌∷◌, ◌++◌}
use Rattle.std.specs.List.{flat_map}
use Rattle.estelle_tree.specs.declared.tree.name.Name.{Name}
use Rattle.estelle_tree.specs.declared.tree.name.NameList.{NameList}
use Rattle.estelle_tree.specs.declared.tree.declaration.ConstDef.{ConstDef}
use Rattle.estelle_tree.specs.declared.tree.declaration.TypeDef.{TypeDef}
use Rattle.estelle_tree.specs.declared.tree.declaration.BlockDecl.{BlockDecl}
use Rattle.estelle_tree.specs.declared.tree.declaration.BlockDecl.TheVariants as block_decl
use Rattle.estelle_tree.specs.declared.tree.declaration.Formal.{Formal}
use Rattle.estelle_tree.specs.declared.tree.declaration.Formals.{Formals}
use Rattle.estelle_tree.specs.declared.tree.declaration.Routine.{Routine}
use Rattle.estelle_tree.specs.declared.tree.declaration.RoutineForm.{RoutineForm}
use Rattle.estelle_tree.specs.declared.tree.declaration.RoutineForm.TheVariants as form
use Rattle.scope_rules.specs.declared.declaration.Denotes.{Denotes}
use Rattle.scope_rules.specs.declared.declaration.Denotes.TheVariants as d
use Rattle.scope_rules.specs.declared.declaration.Need.TheVariants as need
use Rattle.scope_rules.specs.declared.declaration.Inside.TheVariants.{Nothing}
use Rattle.scope_rules.specs.declared.event.ScopeForm.TheVariants as scope
use Rattle.scope_rules.specs.declared.event.Event.TheVariants.{Open, Close, Declare}
use Rattle.scope_rules.specs.TypeEvents.{Events, use_alone, declare, of_type_name, const_events, type_events, inside, typed_names}
use Rattle.scope_rules.specs.ExpressionEvents.{optional}
use Rattle.scope_rules.specs.StatementEvents.{stmts}

-- `NAME "=" Const`: the name is not visible in its constant
abbrev pub const_def : ConstDef → Events
const_def x = const_events x.value ++ declare x.name d.Constant Nothing

-- `NAME "=" Type`: the name is not visible in its type
abbrev pub type_def : TypeDef → Events
type_def x = type_events x.type_expr ++ declare x.name d.Type (inside x.type_expr)

abbrev pub block_decl_events : BlockDecl → Events
block_decl_events (block_decl.Const defs span) = flat_map const_def defs
block_decl_events (block_decl.Types defs span) = flat_map type_def defs
block_decl_events (block_decl.Var vars span) = flat_map (typed_names d.Variable) vars

-- `Names ":" NAME`: variables of a named type, which are not visible in its name
abbrev pub parameters : NameList → Name → Events
parameters names t = use_alone need.Type t ++ Declare names.names d.Variable (of_type_name t) ∷ []

abbrev pub formal : Formal → Events
formal f = parameters f.names f.type_name

abbrev pub formals : Formals → Events
formals fs = flat_map formal fs.formals

abbrev pub routine_kind : RoutineForm → Denotes
routine_kind form.Procedure = d.Procedure
routine_kind (form.Function result) = d.Function

abbrev pub result_type : RoutineForm → Events
result_type form.Procedure = []
result_type (form.Function result) = use_alone need.Type result

-- a routine by its name
abbrev pub routine_declared : Routine → Events
routine_declared r = declare r.name (routine_kind r.form) Nothing

-- a routine is a scope: its parameters, the name of its result type, its declarations and its statements
abbrev pub routine : Routine → Events
routine r = Open scope.Inner ∷ (optional formals r.formals ++ (result_type r.form ++ (flat_map block_decl_events r.decls ++ (stmts r.body ++ Close ∷ []))))
