-- What holds of all clauses of a body holds of those on the way to each transition.
use Rattle.std.proofs.Common.{◌≡◌, List, [], ◌∷◌, map, Option, Some, None, sym, subst}
use Rattle.std.specs.List.{flat_map}
use Rattle.estelle_tree.specs.declared.tree.clause.Clause.{Clause}
use Rattle.estelle_tree.specs.declared.tree.clause.TransBody.{TransBody, roll-TransBody, map-TransBody, fold-roll-TransBody}
use Rattle.estelle_tree.specs.declared.tree.clause.TransBody.TheOpen.{TransBody-F, Group-F}
use Rattle.estelle_tree.specs.declared.tree.clause.TransBody.TheFolds.{map-Group, fold-roll-Group, ind-TransBody}
use Rattle.estelle_tree.specs.declared.tree.clause.Group.{Group, roll-Group}
use Rattle.estelle_tree.specs.declared.tree.specification.Trans.{Trans}
use Rattle.estelle_model.specs.Meant.{Meanings}
use Rattle.estelle_model.specs.Bodies.{Way, behind, ways, clauses, trans_body_layer, group_layer, clauses_layer, clause_group_layer, BodyAlone, clauses_in, ways_of}
use Rattle.estelle_model.specs.Transitions.{Choice, Transition, or_first, said, choices_on, flat_one, flat_way, flat}
use Rattle.body_table.specs.Ways.{group_ways, group_clauses}
use Rattle.accepted_states.proofs.Lists.{Each, each_append, each_front, each_back, each_flat}

each_map : {A B : Type 0} (Q : A → Type 0) (P : B → Type 0) (f : A → B) → ((x : A) → Q x → P (f x)) → (xs : List A) → Each Q xs → Each P (map f xs)
each_map Q P f h [] k = tt
each_map Q P f h (x ∷ xs) k = (h x k.0, each_map Q P f h xs k.1)

all_map : {A B : Type 0} (P : B → Type 0) (f : A → B) → ((x : A) → P (f x)) → (xs : List A) → Each P (map f xs)
all_map P f h [] = tt
all_map P f h (x ∷ xs) = (h x, all_map P f h xs)

-- ---- what holds of all clauses holds of those on each way

module _ (P : Clause → Type 0) where
  abbrev pub WayHolds : Way → Type 0
  WayHolds w = Each P w.clauses

  abbrev BodyHolds : TransBody → Type 0
  BodyHolds x = Each P (clauses x) → Each WayHolds (ways x)

  abbrev GroupHolds : Group → Type 0
  GroupHolds x = Each P (group_clauses x) → Each WayHolds (group_ways x)

  abbrev ShownBody : Type 0
  ShownBody = (x : TransBody) × BodyHolds x

  abbrev ShownGroup : Type 0
  ShownGroup = (x : Group) × GroupHolds x

  abbrev opened_body : TransBody-F ShownBody ShownGroup → TransBody-F TransBody Group
  opened_body y = map-TransBody ShownBody ShownGroup TransBody Group (λ e. e.0) (λ e. e.0) y

  abbrev opened_group : Group-F ShownBody ShownGroup → Group-F TransBody Group
  opened_group y = map-Group ShownBody ShownGroup TransBody Group (λ e. e.0) (λ e. e.0) y

  abbrev ways_at : TransBody-F TransBody Group → List Way
  ways_at l = trans_body_layer (map-TransBody TransBody Group (List Way) (List Way) ways group_ways l)

  abbrev clauses_at : TransBody-F TransBody Group → List Clause
  clauses_at l = clauses_layer (map-TransBody TransBody Group (List Clause) (List Clause) clauses group_clauses l)

  ways_made : (l : TransBody-F TransBody Group) → ways (roll-TransBody l) ≡ ways_at l
  unfolding ways group_ways
  ways_made l = fold-roll-TransBody (List Way) (List Way) trans_body_layer group_layer l

  group_ways_made : (l : Group-F TransBody Group) → group_ways (roll-Group l) ≡ map (behind l.clause) (ways l.body)
  unfolding ways group_ways
  group_ways_made l = fold-roll-Group (List Way) (List Way) trans_body_layer group_layer l

  clauses_made : (l : TransBody-F TransBody Group) → clauses (roll-TransBody l) ≡ clauses_at l
  unfolding clauses group_clauses
  clauses_made l = fold-roll-TransBody (List Clause) (List Clause) clauses_layer clause_group_layer l

  group_clauses_made : (l : Group-F TransBody Group) → group_clauses (roll-Group l) ≡ l.clause ∷ clauses l.body
  unfolding clauses group_clauses
  group_clauses_made l = fold-roll-Group (List Clause) (List Clause) clauses_layer clause_group_layer l

  groups_shown : (xs : List ShownGroup) → Each P (flat_map (λ cs. cs) (map group_clauses (map (λ e. e.0) xs))) → Each WayHolds (flat_map (λ ws. ws) (map group_ways (map (λ e. e.0) xs)))
  groups_shown [] h = tt
  groups_shown (x ∷ xs) h =
      let more = flat_map (λ cs. cs) (map group_clauses (map (λ e. e.0) xs)) in
      each_append WayHolds (group_ways x.0) (flat_map (λ ws. ws) (map group_ways (map (λ e. e.0) xs))) (x.1 (each_front P (group_clauses x.0) more h)) (groups_shown xs (each_back P (group_clauses x.0) more h))

  body_go : (y : TransBody-F ShownBody ShownGroup) → Each P (clauses_at (opened_body y)) → Each WayHolds (ways_at (opened_body y))
  body_go (TransBody-F.Block b) h = (tt, tt)
  body_go (TransBody-F.Groups groups span) h = groups_shown groups h

  body_shown : (x : TransBody-F TransBody Group) (y : TransBody-F ShownBody ShownGroup) → opened_body y ≡ x → BodyHolds (roll-TransBody x)
  body_shown x y is = subst (λ (z : TransBody-F TransBody Group). BodyHolds (roll-TransBody z)) is
      (λ h. subst (Each WayHolds) (sym (ways_made (opened_body y))) (body_go y (subst (Each P) (clauses_made (opened_body y)) h)))

  group_shown : (x : Group-F TransBody Group) (y : Group-F ShownBody ShownGroup) → opened_group y ≡ x → GroupHolds (roll-Group x)
  group_shown x y is = subst (λ (z : Group-F TransBody Group). GroupHolds (roll-Group z)) is
      (λ h.
      let said = subst (Each P) (group_clauses_made (opened_group y)) h in
      subst (Each WayHolds) (sym (group_ways_made (opened_group y))) (each_map WayHolds WayHolds (behind y.clause) (λ w k. (said.0, k)) (ways y.body.0) (y.body.1 said.1)))

  body_holds : (x : TransBody) → BodyHolds x
  body_holds = ind-TransBody BodyHolds GroupHolds body_shown group_shown

  ways_hold : (ts : List Trans) → Each P (flat_map (λ t. clauses t.body) ts) → Each WayHolds (flat_map (λ t. ways t.body) ts)
  ways_hold [] h = tt
  ways_hold (t ∷ ts) h =
      let more = flat_map (λ t. clauses t.body) ts in
      each_append WayHolds (ways t.body) (flat_map (λ t. ways t.body) ts) (body_holds t.body (each_front P (clauses t.body) more h)) (ways_hold ts (each_back P (clauses t.body) more h))

  -- what holds of a transition by the clauses on its way
  pub flat_each : (means : List Choice → Meanings) (T : Transition → Type 0) → ((w : Way) (chosen : List Choice) → WayHolds w → T (flat_one means w chosen)) → (b : BodyAlone) → Each P (clauses_in b) → Each T (flat means b)
  flat_each means T one b h = each_flat WayHolds T (flat_way means) (λ w k. all_map T (flat_one means w) (λ chosen. one w chosen k) (choices_on means w)) (ways_of b) (ways_hold b.trans h)

  -- what is said on a way, a clause on it says
  first_said : {A : Type 0} (Q : Option A → Type 0) (o more : Option A) → Q o → Q more → Q (or_first o more)
  first_said Q None more q r = r
  first_said Q (Some a) more q r = q

  pub to_each : {A : Type 0} (Q : Option A → Type 0) (by : Clause → Option A) → Q None → ((c : Clause) → P c → Q (by c)) → (cs : List Clause) → Each P cs → Q (said by cs)
  to_each Q by none one [] h = none
  to_each Q by none one (c ∷ cs) h = first_said Q (by c) (said by cs) (one c h.0) (to_each Q by none one cs h.1)
