-- All bodies of a specification: what is told of its routines and clauses, by what they say of names and by where rules speak of them.
use Rattle.std.proofs.Common.{◌∙◌, ℕ, zero, suc, Bool, false, List, [], ◌∷◌, ◌++◌, map, Option, Some, refl, sym, subst, arith, append-nil}
use Rattle.std.specs.List.{flat_map}
use Rattle.estelle_tree.specs.declared.tree.name.Name.{Name}
use Rattle.estelle_tree.specs.declared.tree.declaration.Routine.{Routine}
use Rattle.estelle_tree.specs.declared.tree.clause.Clause.{Clause}
use Rattle.estelle_tree.specs.declared.tree.specification.Body.{Body, out-Body}
use Rattle.estelle_tree.specs.declared.tree.specification.Decl.{Decl, out-Decl, map-Decl}
use Rattle.estelle_tree.specs.declared.tree.specification.Decl.TheOpen.{Decl-F}
use Rattle.estelle_tree.specs.declared.tree.specification.Parts.{Parts, out-Parts}
use Rattle.estelle_tree.specs.Input.{Input}
use Rattle.estelle_tree.specs.Spans.{DeclLayer}
use Rattle.estelle_tree.specs.Spelling.{Spelling, Chain}
use Rattle.estelle_tree.specs.Specification.{BodyOf, DeclLayerOf, DeclOf, PartsOf, PartsBelow}
use Rattle.estelle_model.specs.Bodies.{Contribution, BodyAlone, clauses_in}
use Rattle.body_table.specs.Contributions.{brought_of, bodies_at, bodies_of}
use Rattle.body_table.specs.Standings as stand
use Rattle.body_table.proofs.BodyEquations as bodies
use Rattle.type_rules.specs.declared.sites.PlacedSite.{PlacedSite}
use Rattle.type_rules.specs.Meanings.{Env}
use Rattle.type_rules.specs.SpecificationSites as sites
use Rattle.type_rules.specs.SpecificationSites.{PlacedPart, placed, in_body, in_routine, init_part}
use Rattle.type_rules.proofs.SpecificationEquations as site_equations
use Rattle.scope_rules.specs.declared.declaration.Denotes.TheVariants as d
use Rattle.scope_rules.specs.declared.declaration.Inside.TheVariants.{Nothing}
use Rattle.scope_rules.specs.declared.event.Event.{Event}
use Rattle.scope_rules.specs.declared.event.Event.TheVariants.{Close}
use Rattle.scope_rules.specs.TypeEvents.{Events, typed_names}
use Rattle.scope_rules.specs.ExpressionEvents.{optional}
use Rattle.scope_rules.specs.DeclarationEvents.{const_def, type_def, routine_kind, routine}
use Rattle.scope_rules.specs.ClauseEvents.{clause_events}
use Rattle.scope_rules.specs.SpecificationEvents.{Declaring, Saying, ip_decl, modvar_decl, stateset_def, init, trans, decl_layer, decl, body, parts}
use Rattle.scope_names_events.proofs.SpecificationEquations.{decl_is, body_is, parts_is}
use Rattle.accepted_states.proofs.Lists.{Each, each_append, each_front, each_back, flat-append}
use Rattle.accepted_states.proofs.Fine.{less_same, less_more, less_takes, less_name, name_less}
use Rattle.accepted_states.proofs.Fit as fit
use Rattle.accepted_states.proofs.Fit.{starts, One}
use Rattle.accepted_functions.proofs.Found.{Entry, declares_at, declares_in}
use Rattle.accepted_functions.proofs.Counted.{weigh-append, Counts, counts_nil, counts_less, counts_end, counts_name, counts_names, chain, behind, lines, maybe, Two, two_frame, two_one, const_def_counts, type_def_counts, vars_counts, routine_counts, channel_counts, ip_counts, modvar_counts, stateset_counts, header_counts, init_counts, trans_counts}
use Rattle.accepted_functions.proofs.Clauses.{all_clauses}
use Rattle.accepted_functions.proofs.Told.{BroughtTold, RoutineTold, AllSay, contribution_says}

-- ---- how many names are declared

abbrev routine_of : Decl → Events
routine_of x = (decl x).routine

abbrev events_of : Decl → Events
events_of x = (decl x).events

-- the name of a routine, and then all else that the declaration says
record DeclCounts (i j : Input) (e : Declaring) : Type 0 where
  pub mid : Input
  pub first : Counts i mid e.routine
  pub rest : Counts mid j e.events

only_rest : (i j : Input) (es : Events) → Counts i j es → DeclCounts i j (record { routine = []; states = false; events = es })
only_rest i j es h = record { mid = i; first = counts_nil {i = i} {j = i} (less_same refl); rest = h }

module _ (room : ℕ) (P : Spelling Parts) (all : (p : Parts) (i j : Input) → P p i j → Counts i j (parts p).events) where
  body_counts : (b : Body) (i j : Input) → BodyOf room P b i j → Counts i j (body b)
  body_counts b i j h =
      let o = out-Body b in
      let E = (parts o.parts).events in
      let e = all o.parts h.after_head h.after_parts h.parts in
      subst (Counts i j) (sym (body_is b)) (record {
        few = λ t.
            let a = weigh-append t E (Close ∷ []) in
            let c = e.few t in
            let f = less_name h.names.first (starts t) in
            let g = (less_takes h.word).most (starts t) in
            let l = (less_more (less_takes h.names.mark) (less_more (name_less h.names.second) (less_takes h.semicolon))).most (starts t) in
            let m = (less_more (less_takes h.ends) (less_takes h.last)).most (starts t) in
            omega (arith, a, c, f, g, l, m);
      })

  layer_counts : (l : DeclLayer) (i j : Input) → DeclLayerOf room P l i j → DeclCounts i j (decl_layer (map-Decl Decl Body Parts Declaring Events Saying decl body parts l))
  layer_counts (Decl-F.Const defs span) i j h = only_rest i j (flat_map const_def defs) (behind (lines const_def_counts) defs i j h.0)
  layer_counts (Decl-F.Types defs span) i j h = only_rest i j (flat_map type_def defs) (behind (lines (type_def_counts room)) defs i j h.0)
  layer_counts (Decl-F.Channel c) i j h = only_rest i j _ (channel_counts c i j h)
  layer_counts (Decl-F.Header x) i j h = only_rest i j _ (header_counts room x i j h)
  layer_counts (Decl-F.Body b) i j h = only_rest i j (body b) (body_counts b i j h)
  layer_counts (Decl-F.Ip ips span) i j h = only_rest i j (flat_map ip_decl ips) (behind (lines ip_counts) ips i j h.0)
  layer_counts (Decl-F.Modvar ms span) i j h = only_rest i j (flat_map modvar_decl ms) (behind (lines modvar_counts) ms i j h.0)
  layer_counts (Decl-F.Var vars span) i j h = only_rest i j (flat_map (typed_names d.Variable) vars) (behind (lines (vars_counts room d.Variable)) vars i j h.0)
  layer_counts (Decl-F.State states span) i j h = record {
    mid = i;
    first = counts_nil {i = i} {j = i} (less_same refl);
    rest = counts_less (less_takes h.0.opens) (counts_end (counts_names d.State Nothing h.0.inside) (less_takes h.0.closes));
  }
  layer_counts (Decl-F.Stateset sets span) i j h = only_rest i j (flat_map stateset_def sets) (behind (lines stateset_counts) sets i j h.0)
  layer_counts (Decl-F.Routine r) i j h = record {
    mid = h.after_name;
    first = counts_less (less_takes h.name.mark) (counts_name (routine_kind r.form) Nothing h.name.item);
    rest = routine_counts room r i j h;
  }

  decl_two : One (Two routine_of events_of) (DeclOf room P)
  decl_two x i j h =
      let c = subst (DeclCounts i j) (sym (decl_is x)) (layer_counts (out-Decl x) i j h) in
      two_one routine_of events_of x c.first c.rest

  parts_of_counts : (p : Parts) (i j : Input) → PartsOf room P p i j → Counts i j (parts p).events
  parts_of_counts p i j h =
      let o = out-Parts p in
      let two = fit.chain (Two routine_of events_of) (two_frame routine_of events_of) (DeclOf room P) decl_two o.decls i h.after_decls h.decls in
      let n = maybe (init_counts room) o.init h.after_decls h.after_init h.init in
      let t = chain (trans_counts room) o.trans h.after_init j h.trans in
      let R = flat_map routine_of o.decls in
      let D = flat_map events_of o.decls in
      let I = optional init o.init in
      let T = flat_map trans o.trans in
      subst (Counts i j) (sym (parts_is p)) (record {
        few = λ q.
            let a = weigh-append q R (D ++ (I ++ T)) in
            let b = weigh-append q D (I ++ T) in
            let c = weigh-append q I T in
            let e = two q in
            let f = n.few q in
            let g = t.few q in
            omega (arith, a, b, c, e, f, g);
      })

below_counts : (room : ℕ) (p : Parts) (i j : Input) → PartsBelow room p i j → Counts i j (parts p).events
below_counts zero p i j h = absurd h
below_counts (suc room) p i j h = parts_of_counts room (PartsBelow room) (below_counts room) p i j h

-- the parts of a specification declare no more names than they have tokens
pub parts_counts : (room : ℕ) (p : Parts) (i j : Input) → PartsBelow room p i j → Counts i j (parts p).events
parts_counts = below_counts

-- ---- what is told of routines and clauses

-- U : what holds of each event. V : what holds of each place that rules speak of. W : what holds of what is declared. T, C : what is told of routines and clauses.
module _ (by_default : Bool) (env : Env) (U : Event → Type 0) (V : PlacedSite → Type 0) (W : Entry → Type 0) (T : Routine → Type 0) (C : Clause → Type 0)
    (routine_told : (r : Routine) (at : ℕ) → Each U (routine r) → Each V (placed (in_routine at r) ((sites.routine at r).sites env)) → W (routine_kind r.form, r.name) → T r)
    (clause_told : (c : Clause) → Each U (clause_events c) → C c) where
  pub record BodyTold (b : BodyAlone) : Type 0 where
    pub brought : BroughtTold T b
    pub clauses : Each C (clauses_in b)

  abbrev pub Walked : Parts → Type 0
  Walked p = (at : ℕ) → Each U (parts p).events → Each V ((sites.parts p).sites env at) → Each W (declares_in (parts p).events) → (name header : Option Name) → Each BodyTold (stand.standing by_default name header p ∷ stand.inner_of by_default p)

  -- what is declared in some events and in others
  W_front : (es fs : Events) → Each W (declares_in (es ++ fs)) → Each W (declares_in es)
  W_front es fs h = each_front W (declares_in es) (declares_in fs) (subst (Each W) (flat-append declares_at es fs) h)

  W_back : (es fs : Events) → Each W (declares_in (es ++ fs)) → Each W (declares_in fs)
  W_back es fs h = each_back W (declares_in es) (declares_in fs) (subst (Each W) (flat-append declares_at es fs) h)

  record DeclTold (x : Decl) : Type 0 where
    pub says : AllSay T (brought_of by_default x).names
    pub inner : Each BodyTold (flat_map (stand.body by_default) (bodies_of x))

  module _ (room : ℕ) (P : Spelling Parts) (all : (p : Parts) (i j : Input) → P p i j → Walked p) where
    body_told : (b : Body) (i j : Input) → BodyOf room P b i j → (at : ℕ) → Each U (body b) → Each V ((sites.body b).sites env at) → Each W (declares_in (body b)) → Each BodyTold (flat_map (stand.body by_default) (b ∷ []))
    body_told b i j h at u v w =
        let o = out-Body b in
        let E = (parts o.parts).events in
        let used = subst (Each U) (body_is b) u in
        let declared = subst (λ es. Each W (declares_in es)) (body_is b) w in
        subst (Each BodyTold) (sym (append-nil (stand.body by_default b) ∙ bodies.body_is by_default b))
        (all o.parts h.after_head h.after_parts h.parts o.span.start (each_front U E (Close ∷ []) used.1.1.1.1.1) (subst (Each V) (site_equations.body_sites b env at) v) (W_front E (Close ∷ []) declared.1) (Some o.name) (Some o.header))

    layer_told : (l : DeclLayer) (i j : Input) → DeclLayerOf room P l i j → (at : ℕ) → Each U (decl_layer (map-Decl Decl Body Parts Declaring Events Saying decl body parts l)).events
        → Each V ((sites.decl_layer (map-Decl Decl Body Parts PlacedPart PlacedPart PlacedPart sites.decl sites.body sites.parts l)).sites env at)
        → Each W (declares_in (decl_layer (map-Decl Decl Body Parts Declaring Events Saying decl body parts l)).routine)
        → Each W (declares_in (decl_layer (map-Decl Decl Body Parts Declaring Events Saying decl body parts l)).events)
        → RoutineTold T l × Each BodyTold (flat_map (stand.body by_default) (bodies_at l))
    layer_told (Decl-F.Const defs span) i j h at u v w x = (tt, tt)
    layer_told (Decl-F.Types defs span) i j h at u v w x = (tt, tt)
    layer_told (Decl-F.Channel c) i j h at u v w x = (tt, tt)
    layer_told (Decl-F.Header c) i j h at u v w x = (tt, tt)
    layer_told (Decl-F.Body b) i j h at u v w x = (tt, body_told b i j h at u v x)
    layer_told (Decl-F.Ip ips span) i j h at u v w x = (tt, tt)
    layer_told (Decl-F.Modvar ms span) i j h at u v w x = (tt, tt)
    layer_told (Decl-F.Var vars span) i j h at u v w x = (tt, tt)
    layer_told (Decl-F.State states span) i j h at u v w x = (tt, tt)
    layer_told (Decl-F.Stateset ss span) i j h at u v w x = (tt, tt)
    layer_told (Decl-F.Routine r) i j h at u v w x = (routine_told r at u v w.0, tt)

    decl_told : (x : Decl) (i j : Input) → DeclOf room P x i j → (at : ℕ) → Each U (decl x).events → Each V ((sites.decl x).sites env at) → Each W (declares_in (decl x).routine) → Each W (declares_in (decl x).events) → DeclTold x
    decl_told x i j h at u v w y =
        let t = layer_told (out-Decl x) i j h at
        (subst (λ (e : Declaring). Each U e.events) (decl_is x) u)
        (subst (λ (q : PlacedPart). Each V (q.sites env at)) (site_equations.decl_is x) v)
        (subst (λ (e : Declaring). Each W (declares_in e.routine)) (decl_is x) w)
        (subst (λ (e : Declaring). Each W (declares_in e.events)) (decl_is x) y) in
        record { says = contribution_says T by_default (out-Decl x) t.0; inner = t.1 }

    decls_told : (xs : List Decl) (i j : Input) → Chain (DeclOf room P) xs i j → (at : ℕ) → Each U (flat_map events_of xs) → Each V (flat_map (λ x. (sites.decl x).sites env at) xs) → Each W (declares_in (flat_map routine_of xs)) → Each W (declares_in (flat_map events_of xs))
        → Each (λ (c : Contribution). AllSay T c.names) (map (brought_of by_default) xs) × Each BodyTold (stand.inner by_default xs)
    decls_told [] i j h at u v w y = (tt, tt)
    decls_told (x ∷ xs) i j h at u v w y =
        let more_sites = flat_map (λ x. (sites.decl x).sites env at) xs in
        let one = decl_told x i h.0 h.1 at (each_front U (events_of x) (flat_map events_of xs) u) (each_front V ((sites.decl x).sites env at) more_sites v) (W_front (routine_of x) (flat_map routine_of xs) w) (W_front (events_of x) (flat_map events_of xs) y) in
        let more = decls_told xs h.0 j h.2 at (each_back U (events_of x) (flat_map events_of xs) u) (each_back V ((sites.decl x).sites env at) more_sites v) (W_back (routine_of x) (flat_map routine_of xs) w) (W_back (events_of x) (flat_map events_of xs) y) in
        ((one.says, more.0), each_append BodyTold (flat_map (stand.body by_default) (bodies_of x)) (stand.inner by_default xs) one.inner more.1)

    parts_of_told : (p : Parts) (i j : Input) → PartsOf room P p i j → Walked p
    parts_of_told p i j h at u v w name header =
        let o = out-Parts p in
        let R = flat_map routine_of o.decls in
        let D = flat_map events_of o.decls in
        let I = optional init o.init in
        let E = flat_map trans o.trans in
        let used = each_back U R (D ++ (I ++ E)) (subst (Each U) (parts_is p) u) in
        let declared = subst (λ es. Each W (declares_in es)) (parts_is p) w in
        let behind_routines = W_back R (D ++ (I ++ E)) declared in
        let rest_sites = placed (in_body at) ((init_part o.init).sites env) ++ flat_map (λ t. placed (in_body at) ((sites.trans_body t.body).sites env)) o.trans in
        let sited = each_front V (flat_map (λ x. (sites.decl x).sites env at) o.decls) rest_sites (subst (Each V) (site_equations.parts_sites p env at) v) in
        let told = decls_told o.decls i h.after_decls h.decls at (each_front U D (I ++ E) used) sited (W_front R (D ++ (I ++ E)) declared) (W_front D (I ++ E) behind_routines) in
        (record { brought = told.0; clauses = all_clauses U C clause_told o.trans (each_back U I E (each_back U D (I ++ E) used)) }, told.1)

  below_told : (room : ℕ) (p : Parts) (i j : Input) → PartsBelow room p i j → Walked p
  below_told zero p i j h = absurd h
  below_told (suc room) p i j h = parts_of_told room (PartsBelow room) (below_told room) p i j h

  -- of all bodies in the parts of a specification
  pub parts_told : (room : ℕ) (p : Parts) (i j : Input) → PartsBelow room p i j → Walked p
  parts_told = below_told
