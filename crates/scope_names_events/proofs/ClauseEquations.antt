-- One equation of the events for each type of node in groups of clauses.
use Rattle.std.proofs.Common.{◌≡◌, ◌++◌, ◌∷◌, [], List, map, Bool, ◌||◌, refl, ap}
use Rattle.estelle_tree.specs.declared.tree.clause.TransBody.{TransBody, out-TransBody, map-TransBody, fold_out-TransBody}
use Rattle.estelle_tree.specs.declared.tree.clause.TransBody.TheFolds.{fold_out-Group}
use Rattle.estelle_tree.specs.declared.tree.clause.Group.{Group, out-Group}
use Rattle.scope_rules.specs.declared.event.ScopeForm.TheVariants as scope
use Rattle.scope_rules.specs.declared.event.Event.TheVariants.{Open, Close}
use Rattle.scope_rules.specs.TypeEvents.{Events}
use Rattle.scope_rules.specs.ClauseEvents.{clause_events, trans_body_layer, group_layer, trans_body, group, names_state, any_of, body_states_layer, group_states_layer, body_states, group_states}
use Rattle.scope_names_events.proofs.WritingLemmas.{chain_map}

pub trans_body_is : (x : TransBody) → trans_body x ≡ trans_body_layer (map-TransBody TransBody Group Events Events trans_body group (out-TransBody x))
unfolding trans_body group
trans_body_is x = fold_out-TransBody Events Events trans_body_layer group_layer x

pub group_is : (x : Group) → group x ≡ Open scope.Further ∷ (clause_events (out-Group x).clause ++ (trans_body (out-Group x).body ++ Close ∷ []))
unfolding trans_body group
group_is x = fold_out-Group Events Events trans_body_layer group_layer x

pub body_states_is : (x : TransBody) → body_states x ≡ body_states_layer (map-TransBody TransBody Group Bool Bool body_states group_states (out-TransBody x))
unfolding body_states group_states
body_states_is x = fold_out-TransBody Bool Bool body_states_layer group_states_layer x

pub group_states_is : (x : Group) → group_states x ≡ (names_state (out-Group x).clause || body_states (out-Group x).body)
unfolding body_states group_states
group_states_is x = fold_out-Group Bool Bool body_states_layer group_states_layer x

pub any_map : {A B : Type 0} (p : B → Bool) (f : A → B) (xs : List A) → any_of p (map f xs) ≡ any_of (λ x. p (f x)) xs
any_map p f [] = refl
any_map p f (x ∷ xs) = ap (λ b. p (f x) || b) (any_map p f xs)

pub ruleset clauses = (trans_body_is, group_is, chain_map, body_states_is, group_states_is, any_map)
