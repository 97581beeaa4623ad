-- All bodies of a specification, one in another.
use Rattle.std.proofs.Common.{◌≡◌, ◌∙◌, ℕ, zero, suc, ◌+◌, ◌≤◌, Bool, true, false, nat_eq, inl, inr, List, [], ◌∷◌, ◌++◌, Option, Some, refl, ap, sym, subst, arith, append-nil}
use Rattle.std.specs.Prelude.{◌||◌}
use Rattle.std.specs.List.{flat_map}
use Rattle.std.proofs.lemmas.List.Folds.{flat_map-map}
use Rattle.estelle_tree.specs.declared.kind.Kind.TheVariants as k
use Rattle.estelle_tree.specs.declared.span.Span.{Span}
use Rattle.estelle_tree.specs.declared.names.Use.{Use as Used}
use Rattle.estelle_tree.specs.declared.tree.name.Name.{Name}
use Rattle.estelle_tree.specs.declared.tree.specification.Body.{Body, out-Body}
use Rattle.estelle_tree.specs.declared.tree.specification.Parts.{Parts, out-Parts}
use Rattle.estelle_tree.specs.declared.tree.specification.Decl.{Decl, out-Decl, map-Decl}
use Rattle.estelle_tree.specs.declared.tree.specification.Decl.TheOpen.{Decl-F}
use Rattle.estelle_tree.specs.declared.tree.declaration.RoutineForm.{RoutineForm}
use Rattle.estelle_tree.specs.declared.tree.declaration.RoutineForm.TheVariants as routine_form
use Rattle.estelle_tree.specs.Input.{Input}
use Rattle.estelle_tree.specs.Spans.{DeclLayer}
use Rattle.estelle_tree.specs.declared.tree.name.NameList.{NameList}
use Rattle.estelle_tree.specs.Spelling.{Spelling, Chain, Behind, Separated}
use Rattle.estelle_tree.specs.Types.{IsName, IsNames}
use Rattle.estelle_tree.specs.Specification.{BodyOf, DeclLayerOf, DeclOf, PartsOf, PartsBelow, IsParts}
use Rattle.estelle_model.specs.Bodies.{Contribution, BodyAlone, states_in, clauses_in, clauses as clauses_of}
use Rattle.body_table.specs.Contributions.{states_at, states_of, bodies_at, bodies_of, brought_of}
use Rattle.body_table.specs.Standings as stand
use Rattle.body_table.proofs.BodyEquations as bodies
use Rattle.scope_rules.specs.declared.declaration.Denotes.TheVariants as d
use Rattle.scope_rules.specs.declared.declaration.Need.TheVariants as need
use Rattle.scope_rules.specs.declared.declaration.Inside.TheVariants.{Nothing, At}
use Rattle.scope_rules.specs.declared.event.ScopeForm.TheVariants as scope
use Rattle.scope_rules.specs.declared.event.Event.TheVariants.{Open, Close, Import, Declare, Use, States}
use Rattle.scope_rules.specs.TypeEvents.{Events, typed_names}
use Rattle.scope_rules.specs.ExpressionEvents.{optional}
use Rattle.scope_rules.specs.DeclarationEvents.{const_def, type_def, routine_kind}
use Rattle.scope_rules.specs.ClauseEvents.{any_of}
use Rattle.scope_rules.specs.SpecificationEvents.{Declaring, Saying, has_to, init, trans, decl_layer, decl, body, parts}
use Rattle.scope_rules.specs.Visible.{Scopes, Level}
use Rattle.scope_rules.specs.Scopes.{after, after_one}
use Rattle.scope_rules.specs.NameRules.{IsOne}
use Rattle.scope_names_events.proofs.SpecificationEquations.{decl_is, body_is, declared_is, initial_is, parts_is}
use Rattle.accepted_states.proofs.Lists.{Each, each_append, each_front, each_back, each_other, count, one_if, count-append, flat-append}
use Rattle.accepted_states.proofs.Uses.{uses, uses_in, Say, say_front, say_back}
use Rattle.accepted_states.proofs.Scopes.{are_of_more, Stands, Steady, steady_append, steady_next, steady_states, steady_scope, plain_use, plain_states, plain_import, plain_declare, opened}
use Rattle.accepted_states.proofs.Fine.{among, named, Less, less_same, less_more, less_takes, less_names, less_name, name_less, Fine, fine_nil, fine_append, fine_declared, chain, behind, lines, maybe}
use Rattle.accepted_states.proofs.FineDeclarations.{const_def_fine, type_def_fine, vars_fine, routine_fine}
use Rattle.accepted_states.proofs.FineSpecification.{channel_fine, ip_fine, modvar_fine, stateset_fine, header_fine, init_fine, trans_fine}
use Rattle.accepted_states.proofs.Walk.{ClauseKnown, IsInitKnown, init_known, all_trans_known}

-- events in a scope with these states: they declare no others, and use no name that is not among the tokens
pub record Going (ys : List Name) (i j : Input) (es : Events) : Type 0 where
  pub steady : Steady ys es
  pub few : (t : Span → Bool) → count (named t) (uses_in es) + among t j ≤ among t i

going_fine : (ys : List Name) {i j : Input} {es : Events} → Fine i j es → Going ys i j es
going_fine ys h = record { steady = h.plain ys; few = h.few }

going_append : {ys : List Name} {i m j : Input} {es fs : Events} → Going ys i m es → Going ys m j fs → Going ys i j (es ++ fs)
going_append {ys} {i} {m} {j} {es} {fs} h k = record {
  steady = steady_append ys es fs h.steady k.steady;
  few = λ t.
      let a = h.few t in
      let b = k.few t in
      let c = ap (count (named t)) (flat-append uses es fs) ∙ count-append (named t) (uses_in es) (uses_in fs) in
      omega (arith, a, b, c);
}

going_less : {ys : List Name} {i m j : Input} {es : Events} → Less i m → Going ys m j es → Going ys i j es
going_less h k = record { steady = k.steady; few = λ t. let a = h.most t in let b = k.few t in omega (arith, a, b) }

-- ---- what is known of a body

pub record BodyKnown (names : List Used) (b : BodyAlone) : Type 0 where
  pub initial : IsInitKnown (states_in b) names b.init
  pub clauses : Each (ClauseKnown (states_in b) names) (clauses_in b)

-- a name that ends somewhere behind the beginning of a text
abbrev pub Ends : Name → Type 0
Ends y = nat_eq y.span.end 0 ≡ false

abbrev pub BodyEnds : BodyAlone → Type 0
BodyEnds b = Each Ends (states_in b)

abbrev pub nowhere : Span → Bool
nowhere s = nat_eq s.end 0

pub names_end : (ns : NameList) (i j : Input) → IsNames ns i j → among nowhere i ≡ 0 → Each Ends ns.names
names_end ns i j h e = all ns.names i h.names e
  where
    one : (x : Name) (i j : Input) → IsName x i j → among nowhere i ≡ 0 → Ends x
    one x i j h e = by (nowhere x.span) (less_name h nowhere)
      where
        by : (b : Bool) → one_if b + among nowhere j ≤ among nowhere i → b ≡ false
        by true l = absurd (omega (arith, l, e))
        by false l = refl

    more : (xs : List Name) (i : Input) → Chain (Behind k.Comma IsName) xs i j → among nowhere i ≡ 0 → Each Ends xs
    more [] i h e = tt
    more (x ∷ xs) i h e =
        let a = (less_takes h.1.mark).most nowhere in
        let b = (name_less h.1.item).most nowhere in
        (one x h.1.at h.0 h.1.item (omega (arith, a, e)), more xs h.0 h.2 (omega (arith, a, b, e)))

    all : (xs : List Name) (i : Input) → Separated k.Comma IsName xs i j → among nowhere i ≡ 0 → Each Ends xs
    all [] i h e = absurd h
    all (x ∷ xs) i h e = let b = (name_less h.1).most nowhere in (one x i h.0 h.1 e, more xs h.0 h.2 (omega (arith, b, e)))

-- of the parts of a specification or body
pub record PartsKnown (by_default : Bool) (p : Parts) (i j : Input) : Type 0 where
  pub going : Going (flat_map states_of (out-Parts p).decls) i j (parts p).events
  pub known : (names : List Used) (header name : Option Name) (outer : List Level) (s : Scopes) → Stands [] scope.Body outer s → ((parts p).initial ≡ false → (parts p).declared ≡ false) → Say names s (parts p).events
      → Each (BodyKnown names) (stand.standing by_default name header p ∷ stand.inner_of by_default p)
  pub ended : (name header : Option Name) → among nowhere i ≡ 0 → Each BodyEnds (stand.standing by_default name header p ∷ stand.inner_of by_default p)

-- of a declaration, in a body with these states
pub record DeclKnown (by_default : Bool) (ys : List Name) (i j : Input) (e : Declaring) (own : List Name) (bs : List Body) : Type 0 where
  pub first : (m : Input) → Fine m m e.routine
  pub going : Going ys i j e.events
  pub known : (names : List Used) (outer : List Level) (s : Scopes) → Stands ys scope.Body outer s → Say names s e.events → Each (BodyKnown names) (flat_map (stand.body by_default) bs)
  pub own_ended : among nowhere i ≡ 0 → Each Ends own
  pub ended : among nowhere i ≡ 0 → Each BodyEnds (flat_map (stand.body by_default) bs)

pub stands_more : (ys : List Name) (outer : List Level) (s : Scopes) → Stands [] scope.Body outer s → Stands ys scope.Body outer s
stands_more ys outer s h = record { top = h.top; levels = h.levels; form = h.form; own = are_of_more ys h.top.names h.own; kept = h.kept }

plain_decl : (by_default : Bool) (ys : List Name) (i j : Input) (es : Events) → Fine i j es → DeclKnown by_default ys i j (record { routine = []; states = false; events = es }) [] []
plain_decl by_default ys i j es h = record { first = λ m. fine_nil (less_same refl); going = going_fine ys h; known = λ names outer s st say. tt; own_ended = λ e. tt; ended = λ e. tt }

not_state : (r : RoutineForm) → routine_kind r ≡ d.State → ⊥
not_state routine_form.Procedure e = cc
not_state (routine_form.Function x) e = cc

no_states : (ds : List Decl) → any_of (λ (x : Decl). (decl x).states) ds ≡ false → flat_map states_of ds ≡ []
no_states [] e = refl
no_states (x ∷ ds) e = both (decl x).states refl (no_states ds)
  where
    by : (l : DeclLayer) → (decl_layer (map-Decl Decl Body Parts Declaring Events Saying decl body parts l)).states ≡ false → states_at l ≡ []
    by (Decl-F.Const defs span) f = refl
    by (Decl-F.Types defs span) f = refl
    by (Decl-F.Channel c) f = refl
    by (Decl-F.Header h) f = refl
    by (Decl-F.Body b) f = refl
    by (Decl-F.Ip ips span) f = refl
    by (Decl-F.Modvar ms span) f = refl
    by (Decl-F.Var vars span) f = refl
    by (Decl-F.State states span) f = absurd (cc)
    by (Decl-F.Stateset sets span) f = refl
    by (Decl-F.Routine r) f = refl

    both : (b : Bool) → (decl x).states ≡ b → (any_of (λ (x : Decl). (decl x).states) ds ≡ false → flat_map states_of ds ≡ []) → flat_map states_of (x ∷ ds) ≡ []
    both true f more = absurd (let g : true ≡ false = ap (λ b. b || any_of (λ (x : Decl). (decl x).states) ds) (sym f) ∙ e in cc)
    both false f more =
        let g : any_of (λ (x : Decl). (decl x).states) ds ≡ false = ap (λ b. b || any_of (λ (x : Decl). (decl x).states) ds) (sym f) ∙ e in
        ap (λ ys. ys ++ flat_map states_of ds) (by (out-Decl x) (ap (λ (y : Declaring). y.states) (sym (decl_is x)) ∙ f)) ∙ more g

pub all_one : (xs ys : List Name) → Each (λ x. IsOne x (xs ++ ys)) xs
all_one [] ys = tt
all_one (x ∷ xs) ys = (inl refl, each_other (λ z. IsOne z (xs ++ ys)) (λ z. IsOne z (x ∷ (xs ++ ys))) (λ z h. inr h) xs (all_one xs ys))

one_behind : (xs ys : List Name) (y : Name) → IsOne y ys → IsOne y (xs ++ ys)
one_behind [] ys y h = h
one_behind (x ∷ xs) ys y h = inr (one_behind xs ys y h)

module _ (by_default : Bool) (room : ℕ) (P : Spelling Parts) (all : (p : Parts) (i j : Input) → P p i j → PartsKnown by_default p i j) where
  body_known : (ys : List Name) (b : Body) (i j : Input) → BodyOf room P b i j → DeclKnown by_default ys i j (record { routine = []; states = false; events = body b }) [] (b ∷ [])
  body_known ys b i j h =
      let o = out-Body b in
      let p = o.parts in
      let E = (parts p).events in
      let zs = flat_map states_of (out-Parts p).decls in
      let in_parts = all p h.after_head h.after_parts h.parts in
      let start = less_more (less_takes h.word) (less_more (name_less h.names.first) (less_takes h.names.mark)) in
      let last = less_more (less_takes h.ends) (less_takes h.last) in
      let at = States o.span (parts p).declared (parts p).initial (parts p).transitions in
      let named_so = Declare (o.name ∷ []) d.Body (At o.header.span) in
      let used = Use o.header need.Header [] in
      let head = plain_declare (o.name ∷ []) d.Body (At o.header.span) (λ e. cc) in
      record {
        first = λ m. fine_nil (less_same refl);
        going = record {
          steady = subst (Steady ys) (sym (body_is b))
              (steady_next ys named_so (used ∷ at ∷ Open scope.Body ∷ Import o.header ∷ (E ++ Close ∷ [])) (head ys)
              (steady_next ys used (at ∷ Open scope.Body ∷ Import o.header ∷ (E ++ Close ∷ [])) (plain_use o.header need.Header [] ys)
              (steady_next ys at (Open scope.Body ∷ Import o.header ∷ (E ++ Close ∷ [])) (plain_states o.span (parts p).declared (parts p).initial (parts p).transitions ys)
              (steady_scope ys zs scope.Body (Import o.header ∷ E) (steady_next zs (Import o.header) E (plain_import o.header zs) in_parts.going.steady)))));
          few = λ t.
              let a = ap (λ es. count (named t) (uses_in es)) (body_is b) in
              let c = ap (count (named t)) (flat-append uses E (Close ∷ [])) ∙ count-append (named t) (uses_in E) [] in
              let e = in_parts.going.few t in
              let f = less_name h.names.second t in
              let g = start.most t in
              let l = (less_takes h.semicolon).most t in
              let m = last.most t in
              omega (arith, a, c, e, f, g, l, m);
        };
        known = λ names outer s st say.
            let said = subst (Say names s) (body_is b) say in
            let s1 = after_one s named_so in
            let st1 = head ys scope.Body outer s st in
            let s2 = after_one s1 used in
            let st2 = plain_use o.header need.Header [] ys scope.Body outer s1 st1 in
            let s3 = after_one s2 (Open scope.Body) in
            let st3 = opened ys [] scope.Body scope.Body outer s2 st2 in
            let s4 = after_one s3 (Import o.header) in
            let st4 = plain_import o.header [] scope.Body s2.levels s3 st3 in
            subst (Each (BodyKnown names)) (sym (append-nil (stand.body by_default b) ∙ bodies.body_is by_default b))
            (in_parts.known names (Some o.header) (Some o.name) s2.levels s4 st4 said.1.1.0 (say_front names s4 E (Close ∷ []) said.1.1.1.1.1));
        own_ended = λ e. tt;
        ended = λ e.
            let a = start.most nowhere in
            let c = (name_less h.names.second).most nowhere in
            let f = (less_takes h.semicolon).most nowhere in
            subst (Each BodyEnds) (sym (append-nil (stand.body by_default b) ∙ bodies.body_is by_default b)) (in_parts.ended (Some o.name) (Some o.header) (omega (arith, a, c, f, e)));
      }

  layer_known : (ys : List Name) (l : DeclLayer) (i j : Input) → Each (λ x. IsOne x ys) (states_at l) → DeclLayerOf room P l i j
      → DeclKnown by_default ys i j (decl_layer (map-Decl Decl Body Parts Declaring Events Saying decl body parts l)) (states_at l) (bodies_at l)
  layer_known ys (Decl-F.Const defs span) i j own h = plain_decl by_default ys i j (flat_map const_def defs) (behind (lines const_def_fine) defs i j h.0)
  layer_known ys (Decl-F.Types defs span) i j own h = plain_decl by_default ys i j (flat_map type_def defs) (behind (lines (type_def_fine room)) defs i j h.0)
  layer_known ys (Decl-F.Channel c) i j own h = plain_decl by_default ys i j _ (channel_fine c i j h)
  layer_known ys (Decl-F.Header x) i j own h = plain_decl by_default ys i j _ (header_fine room x i j h)
  layer_known ys (Decl-F.Body b) i j own h = body_known ys b i j h
  layer_known ys (Decl-F.Ip ips span) i j own h = plain_decl by_default ys i j _ (behind (lines ip_fine) ips i j h.0)
  layer_known ys (Decl-F.Modvar ms span) i j own h = plain_decl by_default ys i j _ (behind (lines modvar_fine) ms i j h.0)
  layer_known ys (Decl-F.Var vars span) i j own h = plain_decl by_default ys i j (flat_map (typed_names d.Variable) vars) (behind (lines (vars_fine room d.Variable (λ e. cc))) vars i j h.0)
  layer_known ys (Decl-F.State states span) i j own h =
      let l = less_more (less_takes h.0.opens) (less_more (less_names h.0.inside) (less_takes h.0.closes)) in
      record {
        first = λ m. fine_nil (less_same refl);
        going = record { steady = steady_states ys states.names Nothing own; few = λ t. let a = l.most t in omega (arith, a) };
        known = λ names outer s st say. tt;
        own_ended = λ e. let a = (less_takes h.0.opens).most nowhere in names_end states h.0.at h.0.mid h.0.inside (omega (arith, a, e));
        ended = λ e. tt;
      }
  layer_known ys (Decl-F.Stateset sets span) i j own h = plain_decl by_default ys i j _ (behind (lines stateset_fine) sets i j h.0)
  layer_known ys (Decl-F.Routine r) i j own h = record {
    first = λ m. fine_declared (r.name ∷ []) (routine_kind r.form) Nothing (not_state r.form) (less_same {i = m} refl);
    going = going_fine ys (routine_fine room r i j h);
    known = λ names outer s st say. tt;
    own_ended = λ e. tt;
    ended = λ e. tt;
  }

  pub decl_known : (ys : List Name) (x : Decl) (i j : Input) → Each (λ x. IsOne x ys) (states_of x) → DeclOf room P x i j → DeclKnown by_default ys i j (decl x) (states_of x) (bodies_of x)
  decl_known ys x i j own h = subst (λ (e : Declaring). DeclKnown by_default ys i j e (states_of x) (bodies_of x)) (sym (decl_is x)) (layer_known ys (out-Decl x) i j own h)

  pub routines_fine : (ys : List Name) (xs : List Decl) (m i j : Input) → Each (λ x. IsOne x ys) (flat_map states_of xs) → Chain (DeclOf room P) xs i j → Fine m m (flat_map (λ x. (decl x).routine) xs)
  routines_fine ys [] m i j own h = fine_nil (less_same refl)
  routines_fine ys (x ∷ xs) m i j own h =
      fine_append ((decl_known ys x i h.0 (each_front (λ x. IsOne x ys) (states_of x) (flat_map states_of xs) own) h.1).first m)
      (routines_fine ys xs m h.0 j (each_back (λ x. IsOne x ys) (states_of x) (flat_map states_of xs) own) h.2)

  decls_going : (ys : List Name) (xs : List Decl) (i j : Input) → Each (λ x. IsOne x ys) (flat_map states_of xs) → Chain (DeclOf room P) xs i j → Going ys i j (flat_map (λ x. (decl x).events) xs)
  decls_going ys [] i j own h = going_fine ys (fine_nil (less_same h))
  decls_going ys (x ∷ xs) i j own h =
      going_append (decl_known ys x i h.0 (each_front (λ x. IsOne x ys) (states_of x) (flat_map states_of xs) own) h.1).going
      (decls_going ys xs h.0 j (each_back (λ x. IsOne x ys) (states_of x) (flat_map states_of xs) own) h.2)

  decls_known : (ys : List Name) (xs : List Decl) (i j : Input) → Each (λ x. IsOne x ys) (flat_map states_of xs) → Chain (DeclOf room P) xs i j → (names : List Used) (outer : List Level) (s : Scopes) → Stands ys scope.Body outer s
      → Say names s (flat_map (λ x. (decl x).events) xs) → Each (BodyKnown names) (stand.inner by_default xs)
  decls_known ys [] i j own h names outer s st say = tt
  decls_known ys (x ∷ xs) i j own h names outer s st say =
      let one = decl_known ys x i h.0 (each_front (λ x. IsOne x ys) (states_of x) (flat_map states_of xs) own) h.1 in
      let es = (decl x).events in
      let more = flat_map (λ x. (decl x).events) xs in
      each_append (BodyKnown names) (flat_map (stand.body by_default) (bodies_of x)) (stand.inner by_default xs)
      (one.known names outer s st (say_front names s es more say))
      (decls_known ys xs h.0 j (each_back (λ x. IsOne x ys) (states_of x) (flat_map states_of xs) own) h.2 names outer (after s es) (one.going.steady scope.Body outer s st) (say_back names s es more say))

  decls_ended : (ys : List Name) (xs : List Decl) (i j : Input) → Each (λ x. IsOne x ys) (flat_map states_of xs) → Chain (DeclOf room P) xs i j → among nowhere i ≡ 0 → Each Ends (flat_map states_of xs) × Each BodyEnds (stand.inner by_default xs)
  decls_ended ys [] i j own h e = (tt, tt)
  decls_ended ys (x ∷ xs) i j own h e =
      let one = decl_known ys x i h.0 (each_front (λ x. IsOne x ys) (states_of x) (flat_map states_of xs) own) h.1 in
      let l = one.going.few nowhere in
      let more = decls_ended ys xs h.0 j (each_back (λ x. IsOne x ys) (states_of x) (flat_map states_of xs) own) h.2 (omega (arith, l, e)) in
      (each_append Ends (states_of x) (flat_map states_of xs) (one.own_ended e) more.0, each_append BodyEnds (flat_map (stand.body by_default) (bodies_of x)) (stand.inner by_default xs) (one.ended e) more.1)

  parts_of_known : (p : Parts) (i j : Input) → PartsOf room P p i j → PartsKnown by_default p i j
  parts_of_known p i j h =
      let o = out-Parts p in
      let ys = flat_map states_of o.decls in
      let own : Each (λ x. IsOne x ys) ys = subst (λ zs. Each (λ x. IsOne x zs) ys) (append-nil ys) (all_one ys []) in
      let R = flat_map (λ x. (decl x).routine) o.decls in
      let D = flat_map (λ x. (decl x).events) o.decls in
      let I = optional init o.init in
      let T = flat_map trans o.trans in
      let r = routines_fine ys o.decls i i h.after_decls own h.decls in
      let e = decls_going ys o.decls i h.after_decls own h.decls in
      let n = maybe (init_fine room) o.init h.after_decls h.after_init h.init in
      let t = chain (trans_fine room) o.trans h.after_init j h.trans in
      record {
        going = subst (Going ys i j) (sym (parts_is p)) (going_append (going_fine ys r) (going_append e (going_fine ys (fine_append n t))));
        known = λ names header name outer s st0 rule say0.
            let say = subst (Say names s) (parts_is p) say0 in
            let st = stands_more ys outer s st0 in
            let s1 = after s R in
            let st1 = r.plain ys scope.Body outer s st in
            let say1 = say_back names s R (D ++ (I ++ T)) say in
            let s2 = after s1 D in
            let st2 = e.steady scope.Body outer s1 st1 in
            let say2 = say_back names s1 D (I ++ T) say1 in
            let s3 = after s2 I in
            let st3 = n.plain ys scope.Body outer s2 st2 in
            let say3 = say_back names s2 I T say2 in
            let none : has_to o.init ≡ false → ys ≡ [] = λ f. no_states o.decls (sym (declared_is p) ∙ rule (initial_is p ∙ f)) in
            let same : states_in (stand.standing by_default name header p) ≡ ys = flat_map-map (λ (c : Contribution). c.states) (brought_of by_default) o.decls in (
              record {
                initial = subst (λ zs. IsInitKnown zs names o.init) (sym same) (init_known ys names o.init outer s2 st2 (say_front names s2 I T say2) none);
                clauses = subst (λ zs. Each (ClauseKnown zs names) (flat_map (λ t. clauses_of t.body) o.trans)) (sym same) (all_trans_known ys names room o.trans h.after_init j h.trans outer s3 st3 say3);
              },
              decls_known ys o.decls i h.after_decls own h.decls names outer s1 st1 (say_front names s1 D (I ++ T) say1),
            );
        ended = λ name header e.
            let all = decls_ended ys o.decls i h.after_decls own h.decls e in
            let same : states_in (stand.standing by_default name header p) ≡ ys = flat_map-map (λ (c : Contribution). c.states) (brought_of by_default) o.decls in
            (subst (Each Ends) (sym same) all.0, all.1);
      }

pub below_known : (by_default : Bool) (room : ℕ) (p : Parts) (i j : Input) → PartsBelow room p i j → PartsKnown by_default p i j
below_known by_default zero p i j h = absurd h
below_known by_default (suc room) p i j h = parts_of_known by_default room (PartsBelow room) (below_known by_default room) p i j h

pub parts_known : (by_default : Bool) (room : ℕ) (p : Parts) (i j : Input) → IsParts room p i j → PartsKnown by_default p i j
parts_known by_default room = below_known by_default (suc room)
