-- What statements say of names.
use Rattle.std.specs.Prelude.{[], ◌∷◌, ◌++◌, Option, Some, None}
use Rattle.std.specs.List.{flat_map}
use Rattle.estelle_tree.specs.declared.tree.name.Name.{Name}
use Rattle.estelle_tree.specs.declared.tree.statement.Ip.{Ip}
use Rattle.estelle_tree.specs.declared.tree.statement.Stmt.{Stmt}
use Rattle.estelle_tree.specs.declared.tree.statement.Stmt.TheOpen.{Stmt-F, Case-F, Stmts-F}
use Rattle.estelle_tree.specs.declared.tree.statement.Stmt.TheFolds.{fold-Stmt, fold-Case, fold-Stmts}
use Rattle.estelle_tree.specs.declared.tree.statement.Stmts.{Stmts}
use Rattle.estelle_tree.specs.declared.tree.statement.Case.{Case}
use Rattle.scope_rules.specs.declared.declaration.Need.{Need}
use Rattle.scope_rules.specs.declared.declaration.Need.TheVariants as need
use Rattle.scope_rules.specs.declared.event.Step.TheVariants as step
use Rattle.scope_rules.specs.declared.event.Event.TheVariants.{Use, Init}
use Rattle.scope_rules.specs.TypeEvents.{Events, use_alone, const_events}
use Rattle.scope_rules.specs.ExpressionEvents.{optional, expr, args, assigned}

-- two names with a dot: the second is looked for where the first says
abbrev pub use_member : Need → Name → Need → Name → Events
use_member n x m y = Use x n (step.Member y m ∷ []) ∷ []

-- an ip of the instance itself, or of the child in a module variable; alone it is used as the statement needs
abbrev pub ip_part : Need → Name → Option Name → Events
ip_part alone x None = use_alone alone x
ip_part alone x (Some p) = use_member need.ModuleVariable x need.Ip p

abbrev pub ip_events : Need → Ip → Events
ip_events alone i = ip_part alone i.name i.part

-- an `init` of a module variable with a body
abbrev pub init_events : Name → Name → Events
init_events modvar body = use_alone need.ModuleVariable modvar ++ (use_alone need.Body body ++ Init modvar body ∷ [])

abbrev pub stmt_layer : Stmt-F Events Events Events → Events
stmt_layer Stmt-F.Empty = []
stmt_layer (Stmt-F.Assign v value span) = assigned v ++ expr value
stmt_layer (Stmt-F.Call x a span) = use_alone need.Procedure x ++ optional args a
stmt_layer (Stmt-F.Begin stmts span) = stmts
stmt_layer (Stmt-F.If condition then_part else_part span) = expr condition ++ (then_part ++ optional (λ s. s) else_part)
stmt_layer (Stmt-F.While condition body span) = expr condition ++ body
stmt_layer (Stmt-F.Repeat stmts condition span) = stmts ++ expr condition
stmt_layer (Stmt-F.Count v first direction last body span) = use_alone need.Variable v ++ (expr first ++ (expr last ++ body))
stmt_layer (Stmt-F.Case selector cases semicolon span) = expr selector ++ flat_map (λ c. c) cases
stmt_layer (Stmt-F.Init modvar body a span) = init_events modvar body ++ optional args a
stmt_layer (Stmt-F.Release modvar span) = use_alone need.ModuleVariable modvar
stmt_layer (Stmt-F.Connect first second span) = ip_events need.Ip first ++ ip_events need.Ip second
stmt_layer (Stmt-F.Disconnect p span) = ip_events need.Disconnected p
stmt_layer (Stmt-F.Attach own modvar p span) = use_alone need.Ip own ++ use_member need.ModuleVariable modvar need.Ip p
stmt_layer (Stmt-F.Detach own span) = use_alone need.Ip own
stmt_layer (Stmt-F.Output p interaction a span) = use_member need.Ip p need.Interaction interaction ++ optional args a

abbrev pub case_layer : Case-F Events Events Events → Events
case_layer c = flat_map const_events c.labels ++ c.body

abbrev pub stmts_layer : Stmts-F Events Events Events → Events
stmts_layer ss = flat_map (λ s. s) ss.stmts

unfoldable pub stmt : Stmt → Events
stmt = fold-Stmt Events Events Events stmt_layer case_layer stmts_layer

unfoldable pub case_ : Case → Events
case_ = fold-Case Events Events Events stmt_layer case_layer stmts_layer

unfoldable pub stmts : Stmts → Events
stmts = fold-Stmts Events Events Events stmt_layer case_layer stmts_layer
