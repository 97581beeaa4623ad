-- What holds of all that the ways of a transition say of names tells something of each clause on them.
use Rattle.std.proofs.Common.{◌≡◌, List, [], ◌∷◌, ◌++◌, map, sym, subst}
use Rattle.std.specs.List.{flat_map}
use Rattle.estelle_tree.specs.declared.tree.clause.Clause.{Clause}
use Rattle.estelle_tree.specs.declared.tree.clause.TransBody.{TransBody, roll-TransBody, map-TransBody, fold-roll-TransBody}
use Rattle.estelle_tree.specs.declared.tree.clause.TransBody.TheOpen.{TransBody-F, Group-F}
use Rattle.estelle_tree.specs.declared.tree.clause.TransBody.TheFolds.{map-Group, fold-roll-Group, ind-TransBody}
use Rattle.estelle_tree.specs.declared.tree.clause.Group.{Group, roll-Group}
use Rattle.estelle_tree.specs.declared.tree.specification.Trans.{Trans}
use Rattle.estelle_model.specs.Bodies.{clauses, clauses_layer, clause_group_layer}
use Rattle.body_table.specs.Ways.{group_clauses}
use Rattle.scope_rules.specs.declared.event.Event.{Event}
use Rattle.scope_rules.specs.declared.event.Event.TheVariants.{Open, Close}
use Rattle.scope_rules.specs.declared.event.ScopeForm.TheVariants as scope
use Rattle.scope_rules.specs.TypeEvents.{Events}
use Rattle.scope_rules.specs.ClauseEvents.{clause_events, trans_body_layer, group_layer, trans_body, group}
use Rattle.scope_rules.specs.SpecificationEvents.{trans}
use Rattle.accepted_states.proofs.Lists.{Each, each_append, each_front, each_back}

module _ (U : Event → Type 0) (C : Clause → Type 0) (clause_told : (c : Clause) → Each U (clause_events c) → C c) where
  abbrev BodyHolds : TransBody → Type 0
  BodyHolds x = Each U (trans_body x) → Each C (clauses x)

  abbrev GroupHolds : Group → Type 0
  GroupHolds x = Each U (group x) → Each C (group_clauses x)

  abbrev ShownBody : Type 0
  ShownBody = (x : TransBody) × BodyHolds x

  abbrev ShownGroup : Type 0
  ShownGroup = (x : Group) × GroupHolds x

  abbrev opened_body : TransBody-F ShownBody ShownGroup → TransBody-F TransBody Group
  opened_body y = map-TransBody ShownBody ShownGroup TransBody Group (λ e. e.0) (λ e. e.0) y

  abbrev opened_group : Group-F ShownBody ShownGroup → Group-F TransBody Group
  opened_group y = map-Group ShownBody ShownGroup TransBody Group (λ e. e.0) (λ e. e.0) y

  abbrev events_at : TransBody-F TransBody Group → Events
  events_at l = trans_body_layer (map-TransBody TransBody Group Events Events trans_body group l)

  abbrev clauses_at : TransBody-F TransBody Group → List Clause
  clauses_at l = clauses_layer (map-TransBody TransBody Group (List Clause) (List Clause) clauses group_clauses l)

  abbrev group_at : Group-F TransBody Group → Events
  group_at l = Open scope.Further ∷ (clause_events l.clause ++ (trans_body l.body ++ Close ∷ []))

  events_made : (l : TransBody-F TransBody Group) → trans_body (roll-TransBody l) ≡ events_at l
  unfolding trans_body group
  events_made l = fold-roll-TransBody Events Events trans_body_layer group_layer l

  group_made : (l : Group-F TransBody Group) → group (roll-Group l) ≡ group_at l
  unfolding trans_body group
  group_made l = fold-roll-Group Events Events trans_body_layer group_layer l

  clauses_made : (l : TransBody-F TransBody Group) → clauses (roll-TransBody l) ≡ clauses_at l
  unfolding clauses group_clauses
  clauses_made l = fold-roll-TransBody (List Clause) (List Clause) clauses_layer clause_group_layer l

  group_clauses_made : (l : Group-F TransBody Group) → group_clauses (roll-Group l) ≡ l.clause ∷ clauses l.body
  unfolding clauses group_clauses
  group_clauses_made l = fold-roll-Group (List Clause) (List Clause) clauses_layer clause_group_layer l

  groups_shown : (xs : List ShownGroup) → Each U (flat_map (λ g. g) (map group (map (λ e. e.0) xs))) → Each C (flat_map (λ cs. cs) (map group_clauses (map (λ e. e.0) xs)))
  groups_shown [] h = tt
  groups_shown (x ∷ xs) h =
      let more = flat_map (λ g. g) (map group (map (λ e. e.0) xs)) in
      each_append C (group_clauses x.0) (flat_map (λ cs. cs) (map group_clauses (map (λ e. e.0) xs))) (x.1 (each_front U (group x.0) more h)) (groups_shown xs (each_back U (group x.0) more h))

  body_go : (y : TransBody-F ShownBody ShownGroup) → Each U (events_at (opened_body y)) → Each C (clauses_at (opened_body y))
  body_go (TransBody-F.Block b) h = tt
  body_go (TransBody-F.Groups groups span) h = groups_shown groups h

  body_shown : (x : TransBody-F TransBody Group) (y : TransBody-F ShownBody ShownGroup) → opened_body y ≡ x → BodyHolds (roll-TransBody x)
  body_shown x y is = subst (λ (z : TransBody-F TransBody Group). BodyHolds (roll-TransBody z)) is
      (λ h. subst (Each C) (sym (clauses_made (opened_body y))) (body_go y (subst (Each U) (events_made (opened_body y)) h)))

  group_shown : (x : Group-F TransBody Group) (y : Group-F ShownBody ShownGroup) → opened_group y ≡ x → GroupHolds (roll-Group x)
  group_shown x y is = subst (λ (z : Group-F TransBody Group). GroupHolds (roll-Group z)) is
      (λ h.
      let said = (subst (Each U) (group_made (opened_group y)) h).1 in
      let more = trans_body y.body.0 ++ Close ∷ [] in
      subst (Each C) (sym (group_clauses_made (opened_group y)))
      (clause_told y.clause (each_front U (clause_events y.clause) more said), y.body.1 (each_front U (trans_body y.body.0) (Close ∷ []) (each_back U (clause_events y.clause) more said))))

  body_holds : (x : TransBody) → BodyHolds x
  body_holds = ind-TransBody BodyHolds GroupHolds body_shown group_shown

  -- of all clauses of a body
  pub all_clauses : (ts : List Trans) → Each U (flat_map trans ts) → Each C (flat_map (λ t. clauses t.body) ts)
  all_clauses [] h = tt
  all_clauses (t ∷ ts) h =
      let more = flat_map trans ts in
      let here = (each_front U (trans t) more h).1 in
      each_append C (clauses t.body) (flat_map (λ t. clauses t.body) ts) (body_holds t.body (each_front U (trans_body t.body) (Close ∷ []) here)) (all_clauses ts (each_back U (trans t) more h))
