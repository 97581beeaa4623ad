-- Names of states in the clauses and the initialization of a body mean states of that body.
use Rattle.std.proofs.Common.{◌≡◌, ◌∙◌, ℕ, zero, suc, false, List, [], ◌∷◌, ◌++◌, length, Option, Some, None, refl, ap, sym, subst}
use Rattle.std.specs.List.{flat_map}
use Rattle.std.specs.Option.{is_some}
use Rattle.estelle_tree.specs.declared.kind.Kind.{Kind}
use Rattle.estelle_tree.specs.declared.span.Span.{Span}
use Rattle.estelle_tree.specs.declared.names.Use.{Use as Used}
use Rattle.estelle_tree.specs.declared.tree.name.Name.{Name}
use Rattle.estelle_tree.specs.declared.tree.clause.Clause.{Clause}
use Rattle.estelle_tree.specs.declared.tree.clause.Clause.TheVariants as clause
use Rattle.estelle_tree.specs.declared.tree.clause.NextState.{NextState}
use Rattle.estelle_tree.specs.declared.tree.clause.NextState.TheVariants as next_state
use Rattle.estelle_tree.specs.declared.tree.clause.TransBody.{TransBody, out-TransBody, map-TransBody, fold_out-TransBody}
use Rattle.estelle_tree.specs.declared.tree.clause.TransBody.TheOpen.{TransBody-F}
use Rattle.estelle_tree.specs.declared.tree.clause.TransBody.TheFolds.{fold_out-Group}
use Rattle.estelle_tree.specs.declared.tree.clause.Group.{Group, out-Group}
use Rattle.estelle_tree.specs.declared.tree.specification.Init.{Init}
use Rattle.estelle_tree.specs.declared.tree.specification.Trans.{Trans}
use Rattle.estelle_tree.specs.Input.{Input}
use Rattle.estelle_tree.specs.Spans.{TransBodyLayer}
use Rattle.estelle_tree.specs.Spelling.{Chain}
use Rattle.estelle_tree.specs.Clauses.{way_of, clause_kinds, MoreGroups, AreGroups, TransBodyLayerOf, TransBodyOf, GroupOf, GroupWithin}
use Rattle.estelle_tree.specs.Specification.{IsTrans}
use Rattle.estelle_model.specs.Names.{declaration_of}
use Rattle.estelle_model.specs.Bodies.{clauses, clauses_layer, clause_group_layer}
use Rattle.body_table.specs.Ways.{group_clauses}
use Rattle.scope_rules.specs.declared.declaration.Need.TheVariants as need
use Rattle.scope_rules.specs.declared.event.ScopeForm.{ScopeForm}
use Rattle.scope_rules.specs.declared.event.ScopeForm.TheVariants as scope
use Rattle.scope_rules.specs.declared.event.Event.TheVariants.{Open, Close}
use Rattle.scope_rules.specs.TypeEvents.{Events}
use Rattle.scope_rules.specs.ExpressionEvents.{optional}
use Rattle.scope_rules.specs.ClauseEvents.{clause_events, trans_body_layer, trans_body, group, block}
use Rattle.scope_rules.specs.SpecificationEvents.{init, trans, has_to, first_state}
use Rattle.scope_rules.specs.Visible.{Scopes, Level, is_body}
use Rattle.scope_rules.specs.Scopes.{after, after_one}
use Rattle.scope_rules.specs.NameRules.{IsOne}
use Rattle.scope_names_events.proofs.ClauseEquations.{trans_body_is, group_is}
use Rattle.scope_names_events.proofs.WritingLemmas.{chain_map}
use Rattle.accepted_states.proofs.Lists.{Each, each_append}
use Rattle.accepted_states.proofs.Uses.{Found, Say, say_front, say_back}
use Rattle.accepted_states.proofs.Scopes.{are_of_more, AreKept, Stands, opened, Within, means_own, needs_state}
use Rattle.accepted_states.proofs.FineDeclarations.{clause_fine}
use Rattle.accepted_states.proofs.FineSpecification.{group_fine, trans_fine}

-- ---- clauses

pub clauses_out : (x : TransBody) → clauses x ≡ clauses_layer (map-TransBody TransBody Group (List Clause) (List Clause) clauses group_clauses (out-TransBody x))
unfolding clauses group_clauses
clauses_out x = fold_out-TransBody (List Clause) (List Clause) clauses_layer clause_group_layer x

pub group_clauses_out : (g : Group) → group_clauses g ≡ (out-Group g).clause ∷ clauses (out-Group g).body
unfolding clauses group_clauses
group_clauses_out g = fold_out-Group (List Clause) (List Clause) clauses_layer clause_group_layer g

-- ---- scopes that stand so

pub within_body : (ys : List Name) (outer : List Level) (s : Scopes) → Stands ys scope.Body outer s → Within ys s.levels
within_body ys outer s h = subst (Within ys) (sym h.levels) (h.own, λ e. absurd (let f : is_body scope.Body ≡ false = ap is_body (sym h.form) ∙ e in cc))

pub within_more : (ys : List Name) (f : ScopeForm) (outer : List Level) (s : Scopes) → Stands [] f outer s → Within ys outer → Within ys s.levels
within_more ys f outer s h w = subst (Within ys) (sym h.levels) (are_of_more ys h.top.names h.own, λ e. w)

-- ys : the states of the body; names : what is known of the names in use
module _ (ys : List Name) (names : List Used) where
  -- it is known as one of the states
  pub record IsKnown (x : Name) : Type 0 where
    pub state : Name
    pub one : IsOne state ys
    pub known : declaration_of names x ≡ Some state.span

  abbrev pub IsNextKnown : NextState → Type 0
  IsNextKnown (next_state.Name x) = IsKnown x
  IsNextKnown next_state.Same = Unit {0}

  abbrev pub ClauseKnown : Clause → Type 0
  ClauseKnown (clause.To state span) = IsNextKnown state
  ClauseKnown c = Unit {0}

  found_known : (s : Scopes) (x : Name) → AreKept s.kept → Within ys s.levels → Found names s x need.State → IsKnown x
  found_known s x k w f =
      let e = f.found in
      let own = means_own ys s.kept x.word s.levels e k w f.means (needs_state e.denotes f.fits) in
      record { state = own.0; one = own.1; known = f.known ∙ ap (λ z. Some z) own.2 }

  next_known : (s : Scopes) (n : NextState) (span : Span) → AreKept s.kept → Within ys s.levels → Say names s (clause_events (clause.To n span)) → IsNextKnown n
  next_known s (next_state.Name x) span k w h = found_known s x k w h.0
  next_known s next_state.Same span k w h = tt

  clause_known : (s : Scopes) (c : Clause) → AreKept s.kept → Within ys s.levels → Say names s (clause_events c) → ClauseKnown c
  clause_known s (clause.To n span) k w h = next_known s n span k w h
  clause_known s (clause.From states span) k w h = tt
  clause_known s (clause.When ip x params span) k w h = tt
  clause_known s (clause.Provided e span) k w h = tt
  clause_known s (clause.Priority c span) k w h = tt
  clause_known s (clause.Any domains span) k w h = tt
  clause_known s (clause.Delay low high span) k w h = tt

  -- ---- groups of clauses

  module _ (room : ℕ) where
    -- where these events stand in the scopes of a way, the clauses are known
    abbrev Known : Events → List Clause → Type 0
    Known es cs = (f : ScopeForm) (outer : List Level) (s : Scopes) → Stands [] f outer s → Within ys outer → Say names s es → Each ClauseKnown cs

    module _ (n : ℕ) (more : (way : List Kind) (g : Group) (i j : Input) → GroupWithin room n way g i j → Known (group g) (group_clauses g)) where
      more_known : (way : List Kind) (before : Group) (gs : List Group) (i j : Input) → MoreGroups room (GroupWithin room n) way before gs i j → Known (flat_map group gs) (flat_map group_clauses gs)
      more_known way before [] i j h f outer s st w say = tt
      more_known way before (g ∷ gs) i j h f outer s st w say =
          let t = after s (group g) in
          each_append ClauseKnown (group_clauses g) (flat_map group_clauses gs)
          (more way g i h.1.0 h.1.1 f outer s st w (say_front names s (group g) (flat_map group gs) say))
          (more_known way g gs h.1.0 j h.1.2 f outer t ((group_fine room n way g i h.1.0 h.1.1).plain [] f outer s st) w (say_back names s (group g) (flat_map group gs) say))

      groups_known : (way : List Kind) (gs : List Group) (i j : Input) → AreGroups room (GroupWithin room n) way gs i j → Known (flat_map group gs) (flat_map group_clauses gs)
      groups_known way [] i j h f outer s st w say = absurd h
      groups_known way (g ∷ gs) i j h f outer s st w say =
          let t = after s (group g) in
          each_append ClauseKnown (group_clauses g) (flat_map group_clauses gs)
          (more way g i h.0 h.1 f outer s st w (say_front names s (group g) (flat_map group gs) say))
          (more_known way g gs h.0 j h.2 f outer t ((group_fine room n way g i h.0 h.1).plain [] f outer s st) w (say_back names s (group g) (flat_map group gs) say))

      layer_known : (way : List Kind) (l : TransBodyLayer) (i j : Input) → TransBodyLayerOf room (GroupWithin room n) way l i j
          → Known (trans_body_layer (map-TransBody TransBody Group Events Events trans_body group l)) (clauses_layer (map-TransBody TransBody Group (List Clause) (List Clause) clauses group_clauses l))
      layer_known way (TransBody-F.Block b) i j h f outer s st w say = tt
      layer_known way (TransBody-F.Groups gs span) i j h f outer s st w say =
          subst (Each ClauseKnown) (sym (chain_map (λ (cs : List Clause). cs) group_clauses gs))
          (groups_known way gs i j h.0 f outer s st w (subst (Say names s) (chain_map (λ (es : Events). es) group gs) say))

      body_known : (way : List Kind) (x : TransBody) (i j : Input) → TransBodyOf room (GroupWithin room n) way x i j → Known (trans_body x) (clauses x)
      body_known way x i j h f outer s st w say =
          subst (Each ClauseKnown) (sym (clauses_out x)) (layer_known way (out-TransBody x) i j h f outer s st w (subst (Say names s) (trans_body_is x) say))

      group_of_known : (way : List Kind) (g : Group) (i j : Input) → GroupOf room (GroupWithin room n) way g i j → Known (group g) (group_clauses g)
      group_of_known way g i j h f outer s st w say =
          let c = (out-Group g).clause in
          let b = (out-Group g).body in
          let s1 = after_one s (Open scope.Further) in
          let st1 = opened [] [] f scope.Further outer s st in
          let w1 = within_more ys f outer s st w in
          let said = (subst (Say names s) (group_is g) say).1 in
          let s2 = after s1 (clause_events c) in
          let st2 = (clause_fine room c i h.mid h.clause).plain [] scope.Further s.levels s1 st1 in
          subst (Each ClauseKnown) (sym (group_clauses_out g)) (
            clause_known s1 c st1.kept (within_more ys scope.Further s.levels s1 st1 w1) (say_front names s1 (clause_events c) (trans_body b ++ Close ∷ []) said),
            body_known (way_of way g) b h.mid j h.body scope.Further s.levels s2 st2 w1 (say_front names s2 (trans_body b) (Close ∷ []) (say_back names s1 (clause_events c) (trans_body b ++ Close ∷ []) said)),
          )

    group_known : (n : ℕ) (way : List Kind) (g : Group) (i j : Input) → GroupWithin room n way g i j → Known (group g) (group_clauses g)
    group_known zero way g i j h = absurd h
    group_known (suc n) way g i j h = group_of_known n (group_known n) way g i j h

    -- ---- transitions and initializations

    pub all_trans_known : (ts : List Trans) (i j : Input) → Chain (IsTrans room) ts i j → (outer : List Level) (s : Scopes) → Stands ys scope.Body outer s → Say names s (flat_map trans ts) → Each ClauseKnown (flat_map (λ t. clauses t.body) ts)
    all_trans_known [] i j h outer s st say = tt
    all_trans_known (t ∷ ts) i j h outer s st say =
        let n = length clause_kinds in
        let b = trans_body t.body in
        let first = say_front names s (trans t) (flat_map trans ts) say in
        let s1 = after_one s (Open scope.Inner) in
        each_append ClauseKnown (clauses t.body) (flat_map (λ t. clauses t.body) ts)
        (body_known n (group_known n) [] t.body h.1.body.at h.0 h.1.body.item scope.Inner s.levels s1 (opened ys [] scope.Body scope.Inner outer s st) (within_body ys outer s st) (say_front names s1 b (Close ∷ []) first.1))
        (all_trans_known ts h.0 j h.2 outer (after s (trans t)) ((trans_fine room t i h.0 h.1).plain ys scope.Body outer s st) (say_back names s (trans t) (flat_map trans ts) say))

  -- the state behind `to` of an initialization
  abbrev pub IsFirstKnown : Option Name → Type 0
  IsFirstKnown None = ys ≡ []
  IsFirstKnown (Some x) = IsKnown x

  abbrev pub IsInitKnown : Option Init → Type 0
  IsInitKnown None = ys ≡ []
  IsInitKnown (Some x) = IsFirstKnown x.to

  first_known : (to : Option Name) (more : Events) (s : Scopes) → AreKept s.kept → Within ys s.levels → Say names s (first_state to ++ more) → (is_some to ≡ false → ys ≡ []) → IsFirstKnown to
  first_known None more s k w say none = none refl
  first_known (Some x) more s k w say none = found_known s x k w say.0

  pub init_known : (o : Option Init) (outer : List Level) (s : Scopes) → Stands ys scope.Body outer s → Say names s (optional init o) → (has_to o ≡ false → ys ≡ []) → IsInitKnown o
  init_known None outer s st say none = none refl
  init_known (Some x) outer s st say none = first_known x.to (block x.block) s st.kept (within_body ys outer s st) say none
