-- The bodies of a specification, one in another: what the declarations of a run need is known before them.
use Rattle.std.proofs.Common.{◌≡◌, ◌∙◌, ℕ, zero, suc, ◌+◌, ◌≤◌, Bool, nat_eq, List, [], ◌∷◌, ◌++◌, map, length, Option, Some, None, refl, ap, sym, subst, arith, append-nil}
use Rattle.std.specs.Prelude.{◌^◌, flat_map, option_to_list}
use Rattle.std.specs.List.{AllByRecursion}
use Rattle.std.proofs.lemmas.List.Folds.{flat_map-map}
use Rattle.std.proofs.lemmas.Bool.Decides.{Decides-eqb}
use Rattle.estelle_tree.specs.declared.token.Placed.{Placed}
use Rattle.estelle_tree.specs.declared.names.Use.{Use as Used}
use Rattle.estelle_tree.specs.declared.required.RequiredIdentifier.{RequiredIdentifier}
use Rattle.estelle_tree.specs.declared.required.RequiredIdentifier.TheVariants as identifier
use Rattle.estelle_tree.specs.declared.tree.name.Name.{Name}
use Rattle.estelle_tree.specs.declared.tree.declaration.ConstDef.{ConstDef}
use Rattle.estelle_tree.specs.declared.tree.declaration.Routine.{Routine}
use Rattle.estelle_tree.specs.declared.tree.declaration.RoutineForm.{RoutineForm}
use Rattle.estelle_tree.specs.declared.tree.declaration.RoutineForm.TheVariants as form
use Rattle.estelle_tree.specs.declared.tree.specification.StatesetDef.{StatesetDef}
use Rattle.estelle_tree.specs.declared.tree.specification.Init.{Init}
use Rattle.estelle_tree.specs.declared.tree.specification.Body.{Body, out-Body}
use Rattle.estelle_tree.specs.declared.tree.specification.Parts.{Parts, out-Parts}
use Rattle.estelle_tree.specs.declared.tree.specification.Decl.{Decl, out-Decl, map-Decl}
use Rattle.estelle_tree.specs.declared.tree.specification.Decl.TheOpen.{Decl-F}
use Rattle.estelle_tree.specs.declared.tree.specification.Spec.{Spec}
use Rattle.estelle_tree.specs.Input.{Input, input}
use Rattle.estelle_tree.specs.Required.{identifiers}
use Rattle.estelle_tree.specs.Spans.{DeclLayer}
use Rattle.estelle_tree.specs.Spelling.{Chain}
use Rattle.estelle_tree.specs.Declarations.{IsConstDef, IsTypeDef}
use Rattle.estelle_tree.specs.Specification.{BodyOf, DeclLayerOf, DeclOf, PartsOf, PartsBelow}
use Rattle.estelle_tree.specs.Lexed.{FollowOneAnother}
use Rattle.estelle_tree.specs.Spells.{Spells, max_nesting}
use Rattle.scope_rules.specs.declared.declaration.Denotes.TheVariants as d
use Rattle.scope_rules.specs.declared.declaration.Need.TheVariants as need
use Rattle.scope_rules.specs.declared.declaration.Inside.TheVariants.{Nothing, At}
use Rattle.scope_rules.specs.declared.declaration.Members.TheVariants as members
use Rattle.scope_rules.specs.declared.event.ScopeForm.TheVariants as scope
use Rattle.scope_rules.specs.declared.event.Event.{Event}
use Rattle.scope_rules.specs.declared.event.Event.TheVariants.{Open, Close, Import, Declare, Use}
use Rattle.scope_rules.specs.declared.refusal.Breach.{Breach}
use Rattle.scope_rules.specs.TypeEvents.{Events, typed_names}
use Rattle.scope_rules.specs.ExpressionEvents.{optional}
use Rattle.scope_rules.specs.DeclarationEvents as defining
use Rattle.scope_rules.specs.DeclarationEvents.{routine_kind}
use Rattle.scope_rules.specs.SpecificationEvents.{Declaring, Saying, ip_decl, modvar_decl, stateset_def, init, trans, states_of, decl_layer, decl, body, parts, events, denotes_required, required_event, required_events}
use Rattle.scope_rules.specs.Visible.{Scopes, Level}
use Rattle.scope_rules.specs.Scopes.{start, after, after_one}
use Rattle.scope_rules.specs.NameRules.{IsOne, NameRuleBroken, names_of}
use Rattle.scope_names_events.proofs.SpecificationEquations.{decl_is, body_is, parts_is}
use Rattle.type_rules.specs.Meanings.{Env}
use Rattle.type_rules.specs.SpecificationSites as sites
use Rattle.type_rules.specs.SpecificationSites.{PlacedPart}
use Rattle.type_rules.proofs.SpecificationEquations as ruled
use Rattle.estelle_model.specs.declared.meaning.Meaning.TheVariants as mean
use Rattle.estelle_model.specs.Names.{required_meaning}
use Rattle.estelle_model.specs.Denoted.{Declarations, numbered, sections_declare}
use Rattle.estelle_model.specs.Definitions.{const_def, type_def, clause_declares, block_declares}
use Rattle.estelle_model.specs.Bodies.{Contribution, BodyAlone, Way, bodies, bodies_declare, body_declares, name_declares, default_of, states_in, variables_in, own_from, module_variables_in, heading, ip_names, ips_in, clauses_in, ways_of, stateset_declares}
use Rattle.body_table.specs.Contributions as brought
use Rattle.body_table.specs.Contributions.{names_at, bodies_at, bodies_of, brought_of}
use Rattle.body_table.specs.Standings as stand
use Rattle.body_table.specs.Standings.{standing, inner, inner_of}
use Rattle.body_table.proofs.BodyEquations as equations
use Rattle.body_table.proofs.BodyEquations.{bodies-append}
use Rattle.accepted_states.proofs.Lists.{Each, each_front, each_back}
use Rattle.accepted_states.proofs.Uses.{Say, say_front, say_back, after-append, all_say}
use Rattle.accepted_states.proofs.Scopes.{Stands, steady_next, plain_use, plain_declare, plain_import, opened}
use Rattle.accepted_states.proofs.Fine.{Less, less_same, less_more, less_takes, name_less}
use Rattle.accepted_states.proofs.Fit.{starts}
use Rattle.accepted_states.proofs.Bodies.{nowhere, all_one, stands_more, decl_known, routines_fine, below_known}
use Rattle.accepted_states.proofs.Leads.{once, none_nowhere, parts_less, required_stand, outermost, events_are, uses_apart}
use Rattle.trace_forms.proofs.Lists.{all_append, all_front, all_back, all_flat}
use Rattle.trace_forms.proofs.InSight.{KeepsAway}
use Rattle.trace_forms.proofs.Keeps.{AllKeep}
use Rattle.trace_forms.proofs.TypePlaces.{IsSettled, decl_keeps}
use Rattle.trace_forms.proofs.Passes as formed
use Rattle.trace_forms.proofs.Passes.{FormsAt}
use Rattle.trace_forms.proofs.Holds.{hold_behind, hold_lines}
use Rattle.trace_forms.proofs.Kept.{Kept, PlacedKept, PlacedPartKept, placed_front, placed_back, not_placed, parts_kept, each_part_kept}
use Rattle.trace_forms.proofs.Declared.{ConstFirm}
use Rattle.trace_forms.proofs.SpelledTypes.{const_def_holds}
use Rattle.trace_forms.proofs.Filled.{IsConstant, type_def_fills}
use Rattle.trace_forms.proofs.Held.{Known, AllHeld, held_append}
use Rattle.trace_forms.proofs.Idle.{IsIdle, AllIdle, idle_held, numbered_idle, sections_idle, block_idle, clause_idle}
use Rattle.trace_forms.proofs.Sight.{Past, Text, Within, Brings, AllBring, Sight, closed, sight_known, sight_later, sight_behind, sight_one, read, sight_import, levels_closed}
use Rattle.trace_forms.proofs.Adds.{others_known, add_plain, add_less, vars_add}
use Rattle.trace_forms.proofs.Walks.{ips_bring, modvars_bring, states_bring, statesets_bring, Walked, walk_nil, walk_less, walk_adds, lines_walk, ConstReady, const_there, const_walks, TypeReady, type_walks, channel_walks, routine_walks, header_walks}
use Rattle.trace_forms.proofs.Spelled.{decl_told, below_told, parts_formed}

statesets_idle : (xs : List StatesetDef) → AllIdle (map stateset_declares xs)
statesets_idle [] = tt
statesets_idle (x ∷ xs) = (λ meant. (tt, tt), statesets_idle xs)

name_idle : (n : ℕ) (o : Option Name) → AllIdle (name_declares n o)
name_idle n None = tt
name_idle n (Some x) = (λ meant. (tt, tt), tt)

-- what a declaration says of names
abbrev events_at : DeclLayer → Declaring
events_at l = decl_layer (map-Decl Decl Body Parts Declaring Events Saying decl body parts l)

-- what holds where a routine is declared holds of the names of routines, which are declared before all else
module _ (Q : Event → Type 0) (all : (r : Routine) → Q (Declare (r.name ∷ []) (routine_kind r.form) Nothing)) where
  routine_at : (l : DeclLayer) → AllByRecursion Q (events_at l).routine
  routine_at (Decl-F.Routine r) = (all r, tt)
  routine_at (Decl-F.Const defs span) = tt
  routine_at (Decl-F.Types defs span) = tt
  routine_at (Decl-F.Channel c) = tt
  routine_at (Decl-F.Header x) = tt
  routine_at (Decl-F.Body b) = tt
  routine_at (Decl-F.Ip ips span) = tt
  routine_at (Decl-F.Modvar ms span) = tt
  routine_at (Decl-F.Var vars span) = tt
  routine_at (Decl-F.State states span) = tt
  routine_at (Decl-F.Stateset sets span) = tt

  of_routines : (xs : List Decl) → AllByRecursion Q (flat_map (λ x. (decl x).routine) xs)
  of_routines = all_flat Q (λ (x : Decl). (decl x).routine) (λ x. subst (λ (v : Declaring). AllByRecursion Q v.routine) (sym (decl_is x)) (routine_at (out-Decl x)))

routine_brings : (K : Known) (r : Routine) → Brings K (Declare (r.name ∷ []) (routine_kind r.form) Nothing)
routine_brings K r = by r.form
  where
    by : (f : RoutineForm) → Brings K (Declare (r.name ∷ []) (routine_kind f) Nothing)
    by form.Procedure = (λ e. cc, others_known K d.Procedure (λ e. cc) (λ e. cc) (r.name ∷ []))
    by (form.Function x) = (λ e. cc, others_known K d.Function (λ e. cc) (λ e. cc) (r.name ∷ []))

-- names : what is known of the names in use; env : what the rules know
module _ (names : List Used) (env : Env) (by_default : Bool) where
  -- what is known behind bodies one after another
  record Inside (n : ℕ) (K : Known) (bs : List BodyAlone) : Type 0 where
    known : Known
    held : AllHeld names env K (bodies_declare n bs) known
    more : Within K known

  inside_append : (n : ℕ) (K : Known) (bs cs : List BodyAlone) → Inside n K bs → ((L : Known) → Within K L → Inside (n + length bs) L cs) → Inside n K (bs ++ cs)
  inside_append n K bs cs h f =
      let g = f h.known h.more in
      record {
        known = g.known;
        held = subst (λ ds. AllHeld names env K ds g.known) (sym (bodies-append n bs cs)) (held_append names env K h.known g.known (bodies_declare n bs) (bodies_declare (n + length bs) cs) h.held g.held);
        more = λ e o. g.more e (h.more e o);
      }

  -- what is known behind a declaration, and behind the bodies in it once all else is declared
  record DeclWalked (K : Known) (j : Input) (s : Scopes) (ds : Declarations) (bs : List BodyAlone) : Type 0 where
    walked : Walked names env K j s ds
    inside : (n : ℕ) (M : Known) → Within walked.known M → Inside n M bs

  -- a declaration with no body in it
  alone : {K : Known} {j : Input} {s : Scopes} {ds : Declarations} → Walked names env K j s ds → DeclWalked K j s ds []
  alone w = record { walked = w; inside = λ n M m. record { known = M; held = refl; more = λ e o. o } }

  abbrev PartsWalk : Parts → Input → Input → Type 0
  PartsWalk p i j = (K : Known) (s : Scopes) (outer : List Level) → FormsAt i → Sight i closed K s → Stands [] scope.Body outer s → Say names s (parts p).events → (at : ℕ) → PlacedPartKept env at (sites.parts p) → (title header : Option Name) (n : ℕ)
      → Inside n K (standing by_default title header p ∷ inner_of by_default p)

  module _ (room : ℕ) (all : (p : Parts) (i j : Input) → PartsBelow room p i j → PartsWalk p i j) where
    -- a declaration, for the rules
    abbrev part_at : DeclLayer → PlacedPart
    part_at l = sites.decl_layer (map-Decl Decl Body Parts PlacedPart PlacedPart PlacedPart sites.decl sites.body sites.parts l)

    -- ---- a body in another

    module _ (b : Body) (i j : Input) (h : BodyOf room (PartsBelow room) b i j) (keeps : AllKeep i (body b)) (whole : Less i j) (ys : List Name) (outer : List Level) (K : Known) (s : Scopes) (forms : FormsAt i) (sight : Sight i closed K s) (st : Stands ys scope.Body outer s)
        (say : Say names s (body b)) (at : ℕ) (kept : PlacedPartKept env at (sites.body b)) where
      -- its parts, what they say of names, and the states that they declare
      abbrev own_parts : Parts
      own_parts = (out-Body b).parts

      abbrev inside_events : Events
      inside_events = (parts own_parts).events

      abbrev inside_states : List Name
      inside_states = flat_map brought.states_of (out-Parts own_parts).decls

      abbrev named_so : Event
      named_so = Declare ((out-Body b).name ∷ []) d.Body (At (out-Body b).header.span)

      abbrev header_used : Event
      header_used = Use (out-Body b).header need.Header []

      -- the scopes behind its name and its header, and at its parts
      abbrev s1 : Scopes
      s1 = after_one s named_so

      abbrev s2 : Scopes
      s2 = after_one s1 header_used

      abbrev s3 : Scopes
      s3 = after_one s2 (Open scope.Body)

      abbrev s4 : Scopes
      s4 = after_one s3 (Import (out-Body b).header)

      stands_named : Stands ys scope.Body outer s2
      stands_named = plain_use (out-Body b).header need.Header [] ys scope.Body outer s1 (plain_declare ((out-Body b).name ∷ []) d.Body (At (out-Body b).header.span) (λ e. cc) ys scope.Body outer s st)

      sight_named : Sight i closed K s2
      sight_named = sight_one i closed K s1 header_used tt tt (sight_one i closed K s named_so (λ e. cc, others_known K d.Body (λ e. cc) (λ e. cc) ((out-Body b).name ∷ [])) tt sight)

      levels : (after s (body b)).levels ≡ s2.levels
      levels =
          ap (λ es. (after s es).levels) (body_is b)
          ∙ levels_closed ys inside_states scope.Body scope.Body outer s2 (Import (out-Body b).header ∷ inside_events) (steady_next inside_states (Import (out-Body b).header) inside_events (plain_import (out-Body b).header inside_states) (below_known by_default room own_parts h.after_head h.after_parts h.parts).going.steady) stands_named

      to_parts : Less i h.after_head
      to_parts = less_more (less_takes h.word) (less_more (name_less h.names.first) (less_more (less_takes h.names.mark) (less_more (name_less h.names.second) (less_takes h.semicolon))))

      forms_there : FormsAt h.after_head
      forms_there = (formed.less_more (formed.less_takes h.word) (formed.less_more (formed.name_less h.names.first) (formed.less_more (formed.less_takes h.names.mark) (formed.less_more (formed.name_less h.names.second) (formed.less_takes h.semicolon))))).pass forms

      sight_there : (M : Known) → Within K M → Sight h.after_head closed M s4
      sight_there M more = sight_later to_parts (sight_import i M s3 (sight_one i closed M s2 (Open scope.Body) tt tt (sight_known closed M more sight_named)) (out-Body b).header)

      kept_there : PlacedPartKept env (out-Body b).span.start (sites.parts own_parts)
      kept_there = (subst PlacedKept (ruled.body_sites b env at) kept.0, (subst (AllByRecursion (IsSettled env)) (ruled.body_declares b at) kept.1).1)

      body_walks : DeclWalked K j (after s (body b)) [] (flat_map (stand.body by_default) (b ∷ []))
      body_walks = record {
        walked = record { known = K; held = refl; more = λ e o. o; sight = sight_behind i closed K (body b) s2.levels keeps whole levels sight_named.levels sight };
        inside = λ n M more.
            let said = subst (Say names s) (body_is b) say in
            subst (Inside n M) (sym (append-nil (stand.body by_default b) ∙ equations.body_is by_default b))
            (all own_parts h.after_head h.after_parts h.parts M s4 s2.levels forms_there (sight_there M more) (plain_import (out-Body b).header [] scope.Body s2.levels s3 (opened ys [] scope.Body scope.Body outer s2 stands_named))
            (say_front names s4 inside_events (Close ∷ []) said.1.1.1.1.1) (out-Body b).span.start kept_there (Some (out-Body b).name) (Some (out-Body b).header) n);
      }

    -- ---- declarations

    consts_ready : (xs : List ConstDef) → AllByRecursion (λ (x : ConstDef). ConstFirm x.value) xs → AllByRecursion (λ (x : ConstDef). Kept ((sites.const_def x).sites env) → ConstReady names env x) xs
    consts_ready [] h = tt
    consts_ready (x ∷ xs) h = (λ kept. (h.0, const_there names env x kept), consts_ready xs h.1)

    module _ (i j : Input) (ys : List Name) (outer : List Level) (K : Known) (s : Scopes) (forms : FormsAt i) (sight : Sight i closed K s) (st : Stands ys scope.Body outer s) (at : ℕ) (whole : Less i j) where
      layer_walks : (l : DeclLayer) → DeclLayerOf room (PartsBelow room) l i j → AllKeep i (events_at l).events → Say names s (events_at l).events → PlacedPartKept env at (part_at l)
          → DeclWalked K j (after s (events_at l).events) (names_at by_default l) (flat_map (stand.body by_default) (bodies_at l))
      layer_walks (Decl-F.Const defs span) h keeps say kept =
          let firm = (hold_behind (hold_lines const_def_holds) defs i j h.0).told forms in
          let ready = parts_kept env (ConstReady names env) sites.const_def defs (consts_ready defs firm) (not_placed (sites.in_body at) _ kept.0) in
          alone (walk_less names env (flat_map defining.const_def defs) (flat_map const_def defs) (less_takes h.0.mark) (lines_walk names env defining.const_def const_def IsConstDef (ConstReady names env) (const_walks names env) defs h.0.at j h.0.item ready) K s sight say)
      layer_walks (Decl-F.Types defs span) h keeps say kept =
          let fills = (hold_behind (hold_lines (type_def_fills env room)) defs i j h.0).told forms in
          let ready = each_part_kept env (TypeReady names env) sites.type_def defs fills (not_placed (sites.in_body at) _ kept.0, kept.1) in
          alone (walk_less names env (flat_map defining.type_def defs) (flat_map type_def defs) (less_takes h.0.mark) (lines_walk names env defining.type_def type_def (IsTypeDef room) (TypeReady names env) (type_walks names env room) defs h.0.at j h.0.item ready) K s sight say)
      layer_walks (Decl-F.Channel c) h keeps say kept = alone (channel_walks names env c i j h keeps K s sight say)
      layer_walks (Decl-F.Header x) h keeps say kept = alone (header_walks names env room by_default x i j h keeps ys outer K s sight st say)
      layer_walks (Decl-F.Body b) h keeps say kept = body_walks b i j h keeps whole ys outer K s forms sight st say at kept
      layer_walks (Decl-F.Ip ips span) h keeps say kept = alone (walk_adds names env (flat_map ip_decl ips) [] (add_plain names env (flat_map ip_decl ips) [] whole (λ L. ips_bring L ips) tt) keeps K s sight say)
      layer_walks (Decl-F.Modvar ms span) h keeps say kept = alone (walk_adds names env (flat_map modvar_decl ms) [] (add_plain names env (flat_map modvar_decl ms) [] whole (λ L. modvars_bring L ms) tt) keeps K s sight say)
      layer_walks (Decl-F.Var vars span) h keeps say kept =
          alone (walk_adds names env (flat_map (typed_names d.Variable) vars) _ (add_less names env (less_takes h.0.mark) (vars_add names env room d.Variable (λ e. cc) (λ e. cc) (λ e. cc) vars h.0.at j h.0.item)) keeps K s sight say)
      layer_walks (Decl-F.State states span) h keeps say kept =
          alone (walk_adds names env (Declare states.names d.State Nothing ∷ []) [] (add_plain names env (Declare states.names d.State Nothing ∷ []) [] whole (λ L. states_bring L states.names) tt) keeps K s sight say)
      layer_walks (Decl-F.Stateset sets span) h keeps say kept =
          alone (walk_adds names env (flat_map stateset_def sets) (map stateset_declares sets) (add_plain names env (flat_map stateset_def sets) (map stateset_declares sets) whole (λ L. statesets_bring L sets) (statesets_idle sets)) keeps K s sight say)
      layer_walks (Decl-F.Routine r) h keeps say kept = alone (routine_walks names env room r i j h keeps ys outer K s sight st)

      decl_walks : (x : Decl) → DeclOf room (PartsBelow room) x i j → Say names s (decl x).events → PlacedPartKept env at (sites.decl x) → DeclWalked K j (after s (decl x).events) (brought.names_of by_default x) (flat_map (stand.body by_default) (bodies_of x))
      decl_walks x h say kept =
          let is = decl_is x in
          subst (λ (v : Declaring). DeclWalked K j (after s v.events) (brought.names_of by_default x) (flat_map (stand.body by_default) (bodies_of x))) (sym is)
          (layer_walks (out-Decl x) h (subst (λ (v : Declaring). AllKeep i v.events) is (decl_keeps room x i j h)) (subst (λ (v : Declaring). Say names s v.events) is say) (subst (PlacedPartKept env at) (ruled.decl_is x) kept))

    abbrev events_of : Decl → Events
    events_of x = (decl x).events

    decls_walk : (ys : List Name) (xs : List Decl) (i j : Input) → Each (λ x. IsOne x ys) (flat_map brought.states_of xs) → Chain (DeclOf room (PartsBelow room)) xs i j → (outer : List Level) (K : Known) (s : Scopes) (at : ℕ) → FormsAt i → Sight i closed K s → Stands ys scope.Body outer s
        → Say names s (flat_map events_of xs) → PlacedKept (flat_map (λ x. (sites.decl x).sites env at) xs) → AllByRecursion (IsSettled env) (flat_map (λ x. (sites.decl x).declares at) xs)
        → DeclWalked K j (after s (flat_map events_of xs)) (flat_map (brought.names_of by_default) xs) (inner by_default xs)
    decls_walk ys [] i j own h outer K s at forms sight st say kept settled = alone (walk_nil names env (less_same h) K s sight say)
    decls_walk ys (x ∷ xs) i j own h outer K s at forms sight st say kept settled =
        let known = decl_known by_default room (PartsBelow room) (below_known by_default room) ys x i h.0 (each_front (λ x. IsOne x ys) (brought.states_of x) (flat_map brought.states_of xs) own) h.1 in
        let es = (decl x).events in
        let more = flat_map events_of xs in
        let bs = flat_map (stand.body by_default) (bodies_of x) in
        let A = (sites.decl x).sites env at in
        let B = flat_map (λ x. (sites.decl x).sites env at) xs in
        let D = (sites.decl x).declares at in
        let G = flat_map (λ x. (sites.decl x).declares at) xs in
        let whole : Less i h.0 = record { most = λ t. let a = known.going.few t in omega (arith, a) } in
        let a = decl_walks i h.0 ys outer K s forms sight st at whole x h.1 (say_front names s es more say) (placed_front A B kept, all_front (IsSettled env) D G settled) in
        let b = decls_walk ys xs h.0 j (each_back (λ x. IsOne x ys) (brought.states_of x) (flat_map brought.states_of xs) own) h.2 outer a.walked.known (after s es) at
        ((decl_told env by_default room (PartsBelow room) (below_told env by_default room) x i h.0 h.1).less.pass forms) a.walked.sight (known.going.steady scope.Body outer s st) (say_back names s es more say) (placed_back A B kept) (all_back (IsSettled env) D G settled) in
        record {
          walked = record {
            known = b.walked.known;
            held = held_append names env K a.walked.known b.walked.known (brought.names_of by_default x) (flat_map (brought.names_of by_default) xs) a.walked.held b.walked.held;
            more = λ e o. b.walked.more e (a.walked.more e o);
            sight = subst (Sight j closed b.walked.known) (sym (after-append s es more)) b.walked.sight;
          };
          inside = λ n M m. inside_append n M bs (inner by_default xs) (a.inside n M (λ e o. m e (b.walked.more e o))) (λ L w. b.inside (n + length bs) L (λ e o. w e (m e o)));
        }

    -- ---- parts

    -- declarations that say nothing that is to be known
    idle_behind : (K L : Known) (ds es : Declarations) → AllHeld names env K ds L → AllIdle es → AllHeld names env K (ds ++ es) L
    idle_behind K L ds es h i = held_append names env K L L ds es h (idle_held names env L es i)

    alone_held : (K L : Known) (n : ℕ) (b : BodyAlone) → AllHeld names env K (flat_map (λ (c : Contribution). c.names) b.brought) L → AllHeld names env K (body_declares n b) L
    alone_held K L n b h =
        let A = numbered (λ n known. mean.State n) 0 (states_in b) in
        let B = flat_map (λ (c : Contribution). c.names) b.brought in
        let C = sections_declare (λ known n t. mean.Own (own_from known b + n) t) 0 (variables_in b) in
        let D = numbered (λ n known. mean.Module n) 0 (module_variables_in b) in
        let E = numbered (λ n known. mean.Ip (length (heading known b.header).ips + n)) 0 (ip_names (ips_in b)) in
        let F = flat_map (λ (i : Init). block_declares [] i.block) (option_to_list b.init) in
        let G = flat_map clause_declares (clauses_in b) in
        let H = flat_map (λ (w : Way). block_declares w.clauses w.block) (ways_of b) in
        idle_behind K L (A ++ B ++ C ++ D ++ E ++ F ++ G ++ H) (name_declares n b.name)
        (idle_behind K L (A ++ B ++ C ++ D ++ E ++ F ++ G) H
        (idle_behind K L (A ++ B ++ C ++ D ++ E ++ F) G
        (idle_behind K L (A ++ B ++ C ++ D ++ E) F
        (idle_behind K L (A ++ B ++ C ++ D) E
        (idle_behind K L (A ++ B ++ C) D
        (idle_behind K L (A ++ B) C
        (held_append names env K K L A B (idle_held names env K A (numbered_idle (λ n known. mean.State n) (λ n meant. tt) 0 (states_in b))) h)
        (sections_idle (λ known n t. mean.Own (own_from known b + n) t) (λ meant n t. tt) 0 (variables_in b)))
        (numbered_idle (λ n known. mean.Module n) (λ n meant. tt) 0 (module_variables_in b)))
        (numbered_idle (λ n known. mean.Ip (length (heading known b.header).ips + n)) (λ n meant. tt) 0 (ip_names (ips_in b))))
        (all_flat IsIdle (λ (i : Init). block_declares [] i.block) (λ i. block_idle [] i.block) (option_to_list b.init)))
        (all_flat IsIdle clause_declares clause_idle (clauses_in b)))
        (all_flat IsIdle (λ (w : Way). block_declares w.clauses w.block) (λ w. block_idle w.clauses w.block) (ways_of b)))
        (name_idle n b.name)

    parts_walk : (p : Parts) (i j : Input) → PartsOf room (PartsBelow room) p i j → PartsWalk p i j
    parts_walk p i j h K s outer forms sight st0 say0 at kept title header n =
        let o = out-Parts p in
        let ys = flat_map brought.states_of o.decls in
        let own : Each (λ x. IsOne x ys) ys = subst (λ zs. Each (λ x. IsOne x zs) ys) (append-nil ys) (all_one ys []) in
        let R = flat_map (λ x. (decl x).routine) o.decls in
        let D = flat_map events_of o.decls in
        let T = optional init o.init ++ flat_map trans o.trans in
        let say = subst (Say names s) (parts_is p) say0 in
        let r = read i closed K names s R (of_routines (Brings K) (routine_brings K) o.decls) (of_routines (KeepsAway (Past i)) (λ r. tt) o.decls) sight (say_front names s R (D ++ T) say) in
        let s1 = after s R in
        let st1 = (routines_fine by_default room (PartsBelow room) (below_known by_default room) ys o.decls i i h.after_decls own h.decls).plain ys scope.Body outer s (stands_more ys outer s st0) in
        let sites_kept = placed_front (flat_map (λ x. (sites.decl x).sites env at) o.decls) _ (subst PlacedKept (ruled.parts_sites p env at) kept.0) in
        let settled = all_front (IsSettled env) (flat_map (λ x. (sites.decl x).declares at) o.decls) _ (subst (AllByRecursion (IsSettled env)) (ruled.parts_declare p at) kept.1) in
        let ds = decls_walk ys o.decls i h.after_decls own h.decls outer K s1 at forms r.1 st1 (say_front names s1 D T (say_back names s R (D ++ T) say)) sites_kept settled in
        let L = ds.walked.known in
        let b = standing by_default title header p in
        let more = ds.inside (suc n) L (λ e o. o) in
        let first = alone_held K L n b (subst (λ es. AllHeld names env K es L) (sym (flat_map-map (λ (c : Contribution). c.names) (brought_of by_default) o.decls)) ds.walked.held) in
        record {
          known = more.known;
          held = held_append names env K L more.known (body_declares n b) (bodies_declare (suc n) (inner_of by_default p)) first more.held;
          more = λ e o. more.more e (ds.walked.more e o);
        }

  below_walk : (room : ℕ) (p : Parts) (i j : Input) → PartsBelow room p i j → PartsWalk p i j
  below_walk zero p i j h = absurd h
  below_walk (suc room) p i j h = parts_walk room (below_walk room) p i j h

-- ---- whole specifications

no_header : (r : RequiredIdentifier) → denotes_required r ≡ d.Header → ⊥
no_header identifier.Integer e = cc
no_header identifier.Boolean e = cc
no_header identifier.Char e = cc
no_header identifier.False e = cc
no_header identifier.True e = cc
no_header identifier.Maxint e = cc
no_header (identifier.Function f) e = cc

-- a required identifier of a constant means one
abbrev IsRequired : List ℕ × RequiredIdentifier → Type 0
IsRequired r = denotes_required r.1 ≡ d.Constant → IsConstant (required_meaning r.0)

all_required : (rs : List (List ℕ × RequiredIdentifier)) → AllByRecursion IsRequired rs → AllBring [] (map (λ r. required_event r.0 r.1) rs)
all_required [] h = tt
all_required (r ∷ rs) h = ((no_header r.1, ((λ is. (λ g. absurd (cc), λ g. h.0 is), λ is g. absurd (cc)), tt)), all_required rs h.1)

required_away : (past : ℕ → Type 0) (rs : List (List ℕ × RequiredIdentifier)) → AllByRecursion (KeepsAway past) (map (λ r. required_event r.0 r.1) rs)
required_away past [] = tt
required_away past (r ∷ rs) = (tt, required_away past rs)

required_bring : AllBring [] required_events
required_bring = all_required identifiers (λ e. absurd (cc), (λ e. absurd (cc), (λ e. absurd (cc), (λ e. tt, (λ e. tt, (λ e. tt, (λ e. absurd (cc), (λ e. absurd (cc), (λ e. absurd (cc), (λ e. absurd (cc), (λ e. absurd (cc), (λ e. absurd (cc), (λ e. absurd (cc), tt)))))))))))))

module _ (spec : Spec) (tokens : List Placed) (rest : ℕ) (spells : Spells spec tokens) (follow : FollowOneAnother 0 tokens rest) (few : length tokens ≤ 2 ^ 32) (kept : (b : Breach) → NameRuleBroken spec b → ⊥) where
  abbrev first : Input
  first = spells.whole.after_heads

  to_first : Less (input tokens 0) first
  to_first = parts_less spec (input tokens 0) (input [] spells.end) spells.whole

  text_first : Text first
  text_first = record {
    ends = let a = none_nowhere tokens rest follow in let b = to_first.most nowhere in omega (arith, a, b);
    once = λ p.
        let a = once (nat_eq p) (λ n m e g. sym ((Decides-eqb p n).0 e) ∙ (Decides-eqb p m).0 g) 0 tokens rest follow in
        let b = to_first.most (starts (nat_eq p)) in
        omega (arith, a, b);
  }

  -- what is known behind all declarations of a specification that breaks no rule
  pub spec_held : (env : Env) → PlacedPartKept env spec.span.start (sites.parts spec.parts) → (L : Known) × AllHeld (names_of spec) env [] (bodies_declare 0 (bodies spec)) L
  spec_held env sites_kept =
      let names = names_of spec in
      let E = (parts spec.parts).events in
      let O = outermost spec in
      let last : Events = states_of spec.span (parts spec.parts) ++ Open scope.Body ∷ [] in
      let say = subst (Say names start) (events_are spec) (all_say (events spec) kept (uses_apart spec tokens rest spells follow)) in
      let r = read first closed [] names start O (tt, all_append (Brings []) required_events last required_bring (tt, (tt, tt))) (tt, all_append (KeepsAway (Past first)) required_events last (required_away (Past first) identifiers) (tt, (tt, tt)))
      (record { text = text_first; levels = tt }) (say_front names start O (E ++ Close ∷ Close ∷ []) say) in
      let s1 = after_one start (Open scope.Inner) in
      let st1 : Stands [] scope.Inner [] s1 = record { top = record { form = scope.Inner; names = []; within = members.Nothing }; levels = refl; form = refl; own = tt; kept = tt } in
      let s2 = after s1 required_events in
      let s3 = after_one s2 (Open scope.Body) in
      let st3 = opened [] [] scope.Inner scope.Body [] s2 (required_stand scope.Inner [] s1 st1) in
      let w = below_walk names env (default_of spec.heads) (suc max_nesting) spec.parts first spells.whole.after_parts spells.whole.parts [] s3 s2.levels (parts_formed spec tokens spells few) r.1 st3
      (say_front names s3 E (Close ∷ Close ∷ []) (say_back names start O (E ++ Close ∷ Close ∷ []) say)) spec.span.start sites_kept None None 0 in
      (w.known, subst (λ bs. AllHeld names env [] (bodies_declare 0 bs) w.known) (sym (equations.parts_is (default_of spec.heads) spec.parts)) w.held)
