-- What blocks, clauses and groups of clauses say of names.
use Rattle.std.specs.Prelude.{Bool, true, false, ◌||◌, List, [], ◌∷◌, ◌++◌, Option, Some, None}
use Rattle.std.specs.List.{flat_map}
use Rattle.estelle_tree.specs.declared.tree.name.Name.{Name}
use Rattle.estelle_tree.specs.declared.tree.name.NameList.{NameList}
use Rattle.estelle_tree.specs.declared.tree.clause.Block.{Block}
use Rattle.estelle_tree.specs.declared.tree.clause.AnyDom.{AnyDom}
use Rattle.estelle_tree.specs.declared.tree.clause.NextState.{NextState}
use Rattle.estelle_tree.specs.declared.tree.clause.NextState.TheVariants as next_state
use Rattle.estelle_tree.specs.declared.tree.clause.DelayHigh.{DelayHigh}
use Rattle.estelle_tree.specs.declared.tree.clause.DelayHigh.TheVariants as delay_high
use Rattle.estelle_tree.specs.declared.tree.clause.Clause.{Clause}
use Rattle.estelle_tree.specs.declared.tree.clause.Clause.TheVariants as clause
use Rattle.estelle_tree.specs.declared.tree.clause.TransBody.{TransBody}
use Rattle.estelle_tree.specs.declared.tree.clause.TransBody.TheOpen.{TransBody-F, Group-F}
use Rattle.estelle_tree.specs.declared.tree.clause.TransBody.TheFolds.{fold-TransBody, fold-Group}
use Rattle.estelle_tree.specs.declared.tree.clause.Group.{Group}
use Rattle.scope_rules.specs.declared.declaration.Denotes.TheVariants as d
use Rattle.scope_rules.specs.declared.declaration.Need.TheVariants as need
use Rattle.scope_rules.specs.declared.declaration.Inside.TheVariants.{Nothing}
use Rattle.scope_rules.specs.declared.event.ScopeForm.TheVariants as scope
use Rattle.scope_rules.specs.declared.event.Event.TheVariants.{Open, Close, Declare, Receive}
use Rattle.scope_rules.specs.TypeEvents.{Events, use_alone, const_events, ordinal_events}
use Rattle.scope_rules.specs.ExpressionEvents.{optional, expr}
use Rattle.scope_rules.specs.StatementEvents.{use_member, stmts}
use Rattle.scope_rules.specs.DeclarationEvents.{block_decl_events}

-- a block is a scope; its label is no name in any
abbrev pub block : Block → Events
block b = Open scope.Inner ∷ (flat_map block_decl_events b.decls ++ (stmts b.body ++ Close ∷ []))

abbrev pub next_state_events : NextState → Events
next_state_events (next_state.Name x) = use_alone need.State x
next_state_events next_state.Same = []

abbrev pub delay_high_events : DelayHigh → Events
delay_high_events (delay_high.Expr e) = expr e
delay_high_events delay_high.Star = []

abbrev pub listed : Option NameList → Option (List Name)
listed None = None
listed (Some names) = Some names.names

-- the names of an `any` are constants, and visible behind the clause only
abbrev pub any_events : List AnyDom → Events
any_events domains = flat_map (λ x. ordinal_events x.domain) domains ++ flat_map (λ x. Declare x.names.names d.Constant Nothing ∷ []) domains

-- behind `when` the parameters of the interaction are visible by the names of its declaration; the list names them again and is judged by no rule on names but the first
abbrev pub when_events : Name → Name → Option NameList → Events
when_events ip interaction params = use_member need.Ip ip need.Interaction interaction ++ Receive ip interaction (listed params) ∷ []

abbrev pub clause_events : Clause → Events
clause_events (clause.From states span) = flat_map (use_alone need.Origin) states.names
clause_events (clause.To state span) = next_state_events state
clause_events (clause.When ip interaction params span) = when_events ip interaction params
clause_events (clause.Provided condition span) = expr condition
clause_events (clause.Priority value span) = const_events value
clause_events (clause.Any domains span) = any_events domains
clause_events (clause.Delay low high span) = expr low ++ optional delay_high_events high

abbrev pub trans_body_layer : TransBody-F Events Events → Events
trans_body_layer (TransBody-F.Block b) = block b
trans_body_layer (TransBody-F.Groups groups span) = flat_map (λ g. g) groups

-- a clause is a further part of the scope of its way, which holds for all that stands behind it
abbrev pub group_layer : Group-F Events Events → Events
group_layer g = Open scope.Further ∷ (clause_events g.clause ++ (g.body ++ Close ∷ []))

unfoldable pub trans_body : TransBody → Events
trans_body = fold-TransBody Events Events trans_body_layer group_layer

unfoldable pub group : Group → Events
group = fold-Group Events Events trans_body_layer group_layer

-- ---- whether a transition has `from`, or `to` with a state

abbrev pub names_state : Clause → Bool
names_state (clause.From states span) = true
names_state (clause.To (next_state.Name x) span) = true
names_state (clause.To next_state.Same span) = false
names_state (clause.When ip interaction params span) = false
names_state (clause.Provided condition span) = false
names_state (clause.Priority value span) = false
names_state (clause.Any domains span) = false
names_state (clause.Delay low high span) = false

abbrev pub any_of : {A : Type 0} → (A → Bool) → List A → Bool
any_of p [] = false
any_of p (x ∷ xs) = p x || any_of p xs

abbrev pub body_states_layer : TransBody-F Bool Bool → Bool
body_states_layer (TransBody-F.Block b) = false
body_states_layer (TransBody-F.Groups groups span) = any_of (λ g. g) groups

abbrev pub group_states_layer : Group-F Bool Bool → Bool
group_states_layer g = names_state g.clause || g.body

unfoldable pub body_states : TransBody → Bool
body_states = fold-TransBody Bool Bool body_states_layer group_states_layer

unfoldable pub group_states : Group → Bool
group_states = fold-Group Bool Bool body_states_layer group_states_layer
