-- Functions of accepted specifications are quiet.
use Rattle.std.proofs.Common.{◌≡◌, ◌∙◌, ◌⊎◌, ℕ, zero, suc, ◌≤◌, Bool, true, false, nat_eq, List, [], ◌∷◌, ◌++◌, map, Option, Some, None, refl, sym, ap, subst, arith, inl, inr, append_assoc}
use Rattle.std.specs.List.{flat_map}
use Rattle.std.proofs.lemmas.Bool.Decides.{Decides-eqb}
use Rattle.estelle_tree.specs.declared.span.Span.{Span}
use Rattle.estelle_tree.specs.declared.token.Placed.{Placed}
use Rattle.estelle_tree.specs.declared.names.Use.{Use as Used}
use Rattle.estelle_tree.specs.declared.required.RequiredIdentifier.{RequiredIdentifier}
use Rattle.estelle_tree.specs.declared.tree.name.Name.{Name}
use Rattle.estelle_tree.specs.declared.tree.clause.DelayHigh.{DelayHigh}
use Rattle.estelle_tree.specs.declared.tree.clause.DelayHigh.TheVariants as high
use Rattle.estelle_tree.specs.declared.tree.clause.Clause.{Clause}
use Rattle.estelle_tree.specs.declared.tree.clause.Clause.TheVariants as clause
use Rattle.estelle_tree.specs.declared.tree.declaration.Routine.{Routine as RoutineTree}
use Rattle.estelle_tree.specs.declared.tree.declaration.RoutineForm.{RoutineForm}
use Rattle.estelle_tree.specs.declared.tree.declaration.RoutineForm.TheVariants as form
use Rattle.estelle_tree.specs.declared.tree.specification.Spec.{Spec}
use Rattle.estelle_tree.specs.Input.{input}
use Rattle.estelle_tree.specs.Lexed.{FollowOneAnother}
use Rattle.estelle_tree.specs.Required.{identifiers}
use Rattle.estelle_tree.specs.Specification.{IsSpec}
use Rattle.estelle_tree.specs.Spells.{Spells, max_nesting}
use Rattle.estelle_lexer.proofs.Lexes.{lexed_spans}
use Rattle.estelle_model.specs.declared.meaning.Meaning.{Meaning}
use Rattle.estelle_model.specs.declared.meaning.Meaning.TheVariants as mean
use Rattle.estelle_model.specs.declared.meaning.Routine.{Routine}
use Rattle.estelle_model.specs.Meant.{Meanings}
use Rattle.estelle_model.specs.Names.{Declared, declaration_of, declared}
use Rattle.estelle_model.specs.Bodies.{BodyAlone, bodies, bodies_declare, clauses_in, default_of}
use Rattle.estelle_model.specs.Transitions.{Choice, with_choices, Transition, provided_of, delay_of, flat}
use Rattle.estelle_model.specs.Subject.{Subject, meant_with, body, transition, transitions_of, numbered_one}
use Rattle.estelle_model_legality.proofs.Lists.{both_and, some_is}
use Rattle.body_table.proofs.BodyEquations as body_equations
use Rattle.body_table.specs.Standings as stand
use Rattle.scope_rules.specs.declared.declaration.Denotes.{Denotes}
use Rattle.scope_rules.specs.declared.declaration.Denotes.TheVariants as d
use Rattle.scope_rules.specs.declared.declaration.Need.{Need}
use Rattle.scope_rules.specs.declared.declaration.Need.TheVariants as need
use Rattle.scope_rules.specs.declared.event.Event.{Event}
use Rattle.scope_rules.specs.declared.event.Event.TheVariants.{Open, Close, Keep, Import, Receive, Array, Declare, Use, By, Init, States}
use Rattle.scope_rules.specs.declared.event.ScopeForm.TheVariants as scope
use Rattle.scope_rules.specs.declared.event.Step.{Step}
use Rattle.scope_rules.specs.Least.{breach}
use Rattle.scope_rules.specs.Kinds.{may_be}
use Rattle.scope_rules.specs.TypeEvents.{Events}
use Rattle.scope_rules.specs.ExpressionEvents.{optional, expr}
use Rattle.scope_rules.specs.StatementEvents.{stmts}
use Rattle.scope_rules.specs.DeclarationEvents.{block_decl_events, formals, result_type, routine, routine_kind}
use Rattle.scope_rules.specs.ClauseEvents.{clause_events, delay_high_events}
use Rattle.scope_rules.specs.SpecificationEvents.{events, required_event, required_events, states_of, parts}
use Rattle.scope_rules.specs.Scopes.{start, after}
use Rattle.scope_rules.specs.NameRules.{IsOne, names_of}
use Rattle.type_rules.specs.declared.sites.PlacedSite.{PlacedSite}
use Rattle.type_rules.specs.declared.sites.Site.{Site}
use Rattle.type_rules.specs.declared.sites.Site.TheVariants as site
use Rattle.type_rules.specs.Meanings.{Env}
use Rattle.type_rules.specs.Sites.{Sites}
use Rattle.type_rules.specs.StatementSites as statement_sites
use Rattle.type_rules.specs.PascalRules.{HasEffect}
use Rattle.type_rules.specs.SpecificationSites as sites
use Rattle.type_rules.specs.SpecificationSites.{is_function as is_function_form, formals_of, var_formals, result_sites, all_of, block_decl_part, placed, placed_one, in_routine, Part}
use Rattle.spec_accept.specs.Rules.{names as found_names}
use Rattle.accepted_states.specs.Laws.{KeepsRules}
use Rattle.accepted_states.proofs.Lists.{Each, each_front, each_back, each_at, each_other, count, one_if, flat-append}
use Rattle.accepted_states.proofs.Uses.{Says, Say, after-append, all_say}
use Rattle.accepted_states.proofs.Fit.{starts}
use Rattle.accepted_states.proofs.Leads.{once, outermost, events_are, parts_less, uses_apart}
use Rattle.guards_seen.specs.Quiet.{is_function, is_no_procedure, names_no_procedure, are_quiet, condition_is_quiet, bound_is_quiet, delay_is_quiet, IsQuiet}
use Rattle.accepted_functions.specs.Laws.{AcceptedFunctionsAreQuiet, ReadFunctionsAreQuiet}
use Rattle.accepted_functions.proofs.Expressions.{UsesNone, AllUseNone, expr_told}
use Rattle.accepted_functions.proofs.Statements.{IsNoEffect, NoEffects, stmts_told}
use Rattle.accepted_functions.proofs.Found.{Entry, declares_at, declares_in, one_front, name_found}
use Rattle.accepted_functions.proofs.Counted.{stands}
use Rattle.accepted_functions.proofs.Told.{IsRoutine, BroughtTold, bodies_say, all_told, chosen_told, meant_routine}
use Rattle.accepted_functions.proofs.Walk.{BodyTold, parts_counts, parts_told}
use Rattle.accepted_functions.proofs.Ways.{flat_each, to_each}

-- ---- lists

nothing_of : {A : Type 0} (xs : List A) → Each (λ (x : A). Unit {0}) xs
nothing_of [] = tt
nothing_of (x ∷ xs) = (tt, nothing_of xs)

one_of_itself : {A : Type 0} (xs : List A) → Each (λ (x : A). IsOne x xs) xs
one_of_itself [] = tt
one_of_itself (x ∷ xs) = (inl refl, each_other (λ y. IsOne y xs) (λ y. IsOne y (x ∷ xs)) (λ y h. inr h) xs (one_of_itself xs))

each_by_one : {A : Type 0} (P : A → Type 0) (xs : List A) → ((x : A) → IsOne x xs → P x) → Each P xs
each_by_one P [] h = tt
each_by_one P (x ∷ xs) h = (h x (inl refl), each_by_one P xs (λ y o. h y (inr o)))

one_cases : {A : Type 0} (x : A) (xs ys : List A) → IsOne x (xs ++ ys) → IsOne x xs ⊎ IsOne x ys
one_cases x [] ys o = inr o
one_cases x (y ∷ xs) ys (inl e) = inl (inl e)
one_cases x (y ∷ xs) ys (inr o) = elim (one_cases x xs ys o) [
  | inl a ↦ inl (inr a)
  | inr b ↦ inr b
]

one_has : {A : Type 0} (P : A → Type 0) (xs : List A) (x : A) → Each P xs → IsOne x xs → P x
one_has P [] x h o = absurd o
one_has P (y ∷ xs) x h (inl e) = subst P (sym e) h.0
one_has P (y ∷ xs) x h (inr o) = one_has P xs x h.1 o

-- one that passes counts
one_counts : {A : Type 0} (t : A → Bool) (xs : List A) (x : A) → IsOne x xs → t x ≡ true → 1 ≤ count t xs
one_counts t [] x o e = absurd o
one_counts t (y ∷ xs) x (inl is) e = let a : one_if (t y) ≡ 1 = ap one_if (ap t (sym is) ∙ e) in omega (arith, a)
one_counts t (y ∷ xs) x (inr o) e = let a = one_counts t xs x o e in omega (arith, a)

-- where at most one passes, two that pass are one
only_one : {A : Type 0} (t : A → Bool) (xs : List A) (x y : A) → count t xs ≤ 1 → IsOne x xs → IsOne y xs → t x ≡ true → t y ≡ true → x ≡ y
only_one t [] x y most o p e f = absurd o
only_one t (z ∷ xs) x y most (inl o) (inl p) e f = o ∙ sym p
only_one t (z ∷ xs) x y most (inl o) (inr p) e f = let a : one_if (t z) ≡ 1 = ap one_if (ap t (sym o) ∙ e) in let b = one_counts t xs y p f in absurd (omega (arith, most, a, b))
only_one t (z ∷ xs) x y most (inr o) (inl p) e f = let a : one_if (t z) ≡ 1 = ap one_if (ap t (sym p) ∙ f) in let b = one_counts t xs x o e in absurd (omega (arith, most, a, b))
only_one t (z ∷ xs) x y most (inr o) (inr p) e f = only_one t xs x y (omega (arith, most)) o p e f

eq_self : (n : ℕ) → nat_eq n n ≡ true
eq_self n = (Decides-eqb n n).1 refl

-- ---- names that are required

required_nowhere : (rs : List (List ℕ × RequiredIdentifier)) → Each (λ (z : Entry). nat_eq z.1.span.end 0 ≡ true) (declares_in (map (λ (r : List ℕ × RequiredIdentifier). required_event r.0 r.1) rs))
required_nowhere [] = tt
required_nowhere (r ∷ rs) = (refl, required_nowhere rs)

-- a procedure stands only where one is needed
procedure_needed : (n : Need) → may_be n d.Procedure ≡ true → n ≡ need.Procedure
procedure_needed need.Procedure h = refl
procedure_needed _ h = absurd (cc)

procedure_form : (f : RoutineForm) → is_function_form f ≡ false → routine_kind f ≡ d.Procedure
procedure_form form.Procedure e = refl
procedure_form (form.Function x) e = absurd (cc)

-- ---- a specification

module _ (spec : Spec) (tokens : List Placed) (rest : ℕ) (spells : Spells spec tokens) (follow : FollowOneAnother 0 tokens rest) (kept : KeepsRules spec) where
  abbrev s : Subject
  s = record { specification = spec; names = names_of spec }

  abbrev h : IsSpec max_nesting spec (input tokens 0) (input [] spells.end)
  h = spells.whole

  abbrev E : Events
  E = (parts spec.parts).events

  abbrev by_default : Bool
  by_default = default_of spec.heads

  abbrev env : Env
  env = sites.env spec (found_names spec)

  -- at each place at most one name is declared
  few : (p : ℕ) → count (stands (nat_eq p)) (declares_in E) ≤ 1
  few p =
      let a = (parts_counts (suc max_nesting) spec.parts h.after_heads h.after_parts h.parts).few (nat_eq p) in
      let b = (parts_less spec (input tokens 0) (input [] spells.end) h).most (starts (nat_eq p)) in
      let c = once (nat_eq p) (λ n m e g. sym ((Decides-eqb p n).0 e) ∙ (Decides-eqb p m).0 g) 0 tokens rest follow in
      omega (arith, a, b, c)

  -- what is declared at all is required or stands in the parts
  declared_there : (z : Entry) → IsOne z (declares_in (events spec)) → (nat_eq z.1.span.end 0 ≡ true) ⊎ IsOne z (declares_in E)
  declared_there z o =
      let split = ap declares_in (events_are spec) ∙ flat-append declares_at (outermost spec) (E ++ Close ∷ Close ∷ []) in
      elim (one_cases z (declares_in (outermost spec)) (declares_in (E ++ Close ∷ Close ∷ [])) (subst (IsOne z) split o)) [
        | inl a ↦ inl (first a)
        | inr b ↦ inr (second b)
      ]
    where
      first : IsOne z (declares_in (outermost spec)) → nat_eq z.1.span.end 0 ≡ true
      first a = elim (one_cases z (declares_in required_events) [] (subst (IsOne z) (flat-append declares_at required_events (states_of spec.span (parts spec.parts) ++ Open scope.Body ∷ [])) a)) [
        | inl b ↦ one_has (λ (y : Entry). nat_eq y.1.span.end 0 ≡ true) (declares_in required_events) z (required_nowhere identifiers) b
        | inr b ↦ absurd b
      ]

      second : IsOne z (declares_in (E ++ Close ∷ Close ∷ [])) → IsOne z (declares_in E)
      second b = elim (one_cases z (declares_in E) [] (subst (IsOne z) (flat-append declares_at E (Close ∷ Close ∷ [])) b)) [
        | inl c ↦ c
        | inr c ↦ absurd c
      ]

  -- ---- where routines are declared

  abbrev IsThere : RoutineTree → Type 0
  IsThere r = IsOne (routine_kind r.form, r.name) (declares_in E)

  all_there : Each (BroughtTold IsThere) (bodies spec)
  all_there =
      let told = parts_told by_default env (λ e. Unit {0}) (λ v. Unit {0}) (λ z. IsOne z (declares_in E)) IsThere (λ c. Unit {0}) (λ r at u v w. w) (λ c u. tt) (suc max_nesting) spec.parts h.after_heads h.after_parts h.parts
      spec.span.start (nothing_of E) (nothing_of ((sites.parts spec.parts).sites env spec.span.start)) (one_of_itself (declares_in E)) None None in
      subst (Each (BroughtTold IsThere)) (sym (body_equations.parts_is by_default spec.parts))
      (each_other _ (BroughtTold IsThere) (λ b t. t.brought) (stand.standing by_default None None spec.parts ∷ stand.inner_of by_default spec.parts) told)

  abbrev declared_with : List Choice → Declared
  declared_with chosen = with_choices (declared (names_of spec) (bodies_declare 0 (bodies spec))) chosen

  routine_there : (chosen : List Choice) (x : Name) (r : Routine) → meant_with s chosen x ≡ mean.Called r → IsRoutine IsThere (names_of spec) x r
  routine_there chosen x r e =
      let all = all_told IsThere (names_of spec) (bodies_declare 0 (bodies spec)) [] (bodies_say IsThere 0 (bodies spec) all_there) tt in
      meant_routine IsThere (names_of spec) (declared_with chosen) (chosen_told IsThere (declared (names_of spec) (bodies_declare 0 (bodies spec))) chosen all) x r e

  -- ---- names in use

  -- a name that is found as no procedure means none
  found_none : (chosen : List Choice) (x : Name) (k : Denotes) (y : Name) → (k ≡ d.Procedure → ⊥) → declaration_of (names_of spec) x ≡ Some y.span → IsOne (k, y) (declares_in (events spec)) → is_no_procedure (meant_with s chosen x) ≡ true
  found_none chosen x k y other is o = by (meant_with s chosen x) refl
    where
      there : (r : Routine) → is_function r ≡ false → IsRoutine IsThere (names_of spec) x r → ⊥
      there r none t =
          let place : t.at ≡ y.span = some_is t.at y.span (declaration_of (names_of spec) x) t.is is in
          let q = t.of_tree.tree in
          let p = q.name.span.start in
          let same : p ≡ y.span.start = sym t.of_tree.at ∙ ap (λ (a : Span). a.start) place in
          let kind = procedure_form q.form (sym t.of_tree.form ∙ none) in
          elim (declared_there (k, y) o) [
            | inl e ↦ (let f : true ≡ false = sym e ∙ ap (λ (a : Span). nat_eq a.end 0) (sym place) ∙ t.ends in cc)
            | inr e ↦ (
                let one = only_one (stands (nat_eq p)) (declares_in E) (k, y) (routine_kind q.form, q.name) (few p) e t.of_tree.told (ap (nat_eq p) (sym same) ∙ eq_self p) (eq_self p) in
                other (ap (λ (z : Entry). z.0) one ∙ kind))
          ]

      by : (m : Meaning) → meant_with s chosen x ≡ m → is_no_procedure m ≡ true
      by (mean.Called r) e = function (is_function r) refl
        where
          function : (b : Bool) → is_function r ≡ b → b ≡ true
          function true f = refl
          function false f = absurd (there r f (routine_there chosen x r e))
      by _ e = refl

  uses_none : (chosen : List Choice) (x : Name) (n : Need) (steps : List Step) → ((n ≡ need.Procedure → ⊥) → is_no_procedure (meant_with s chosen x) ≡ true) → UsesNone (meant_with s chosen) (Use x n steps)
  uses_none chosen x need.Procedure steps f = tt
  uses_none chosen x _ steps f = f (λ e. cc)

  event_none : (chosen : List Choice) (before : Events) (e : Event) → ((z : Entry) → IsOne z (declares_in before) → IsOne z (declares_in (events spec))) → Says (names_of spec) (after start before) e → UsesNone (meant_with s chosen) e
  event_none chosen before (Use x n steps) sub f =
      let was = name_found before x.word f.found f.means in
      uses_none chosen x n steps (λ other. found_none chosen x f.found.denotes was.0
      (λ e. other (procedure_needed n (ap (may_be n) (sym e) ∙ f.fits)))
      (f.known ∙ ap (λ (a : Span). Some a) was.1.1) (sub (f.found.denotes, was.0) was.1.0))
  event_none chosen before (Open g) sub f = tt
  event_none chosen before Close sub f = tt
  event_none chosen before (Keep span) sub f = tt
  event_none chosen before (Import x) sub f = tt
  event_none chosen before (Receive ip x names) sub f = tt
  event_none chosen before (Array span of) sub f = tt
  event_none chosen before (Declare names k inside) sub f = tt
  event_none chosen before (By role) sub f = tt
  event_none chosen before (Init modvar body) sub f = tt
  event_none chosen before (States at states initial transitions) sub f = tt

  -- what holds of the events from here on
  all_none : (chosen : List Choice) (before es : Events) → ((z : Entry) → IsOne z (declares_in (before ++ es)) → IsOne z (declares_in (events spec))) → Say (names_of spec) (after start before) es → AllUseNone (meant_with s chosen) es
  all_none chosen before [] sub say = tt
  all_none chosen before (e ∷ es) sub say = (
    event_none chosen before e (λ z o. sub z (subst (IsOne z) (sym (flat-append declares_at before (e ∷ es))) (one_front z (declares_in before) (declares_in (e ∷ es)) o))) say.0,
    all_none chosen (before ++ e ∷ []) es (λ z o. sub z (subst (λ fs. IsOne z (declares_in fs)) (append_assoc before (e ∷ []) es) o)) (subst (λ t. Say (names_of spec) t es) (sym (after-append start before (e ∷ []))) say.1),
  )

  -- no name in use means a procedure, but where one is called
  all_use_none : (chosen : List Choice) → AllUseNone (meant_with s chosen) (events spec)
  all_use_none chosen = all_none chosen [] (events spec) (λ z o. o) (all_say (events spec) (λ b g. kept b (inl g)) (uses_apart spec tokens rest spells follow))

  in_parts : (chosen : List Choice) → AllUseNone (meant_with s chosen) E
  in_parts chosen =
      let U = UsesNone (meant_with s chosen) in
      each_front U E (Close ∷ Close ∷ []) (each_back U (outermost spec) (E ++ Close ∷ Close ∷ []) (subst (Each U) (events_are spec) (all_use_none chosen)))

  -- ---- where rules speak of functions

  -- nothing there has an effect in a function
  abbrev IsKept : PlacedSite → Type 0
  IsKept v = (at : Span) → HasEffect at v.place.routine v.site → ⊥

  all_kept : Each IsKept ((sites.parts spec.parts).sites env spec.span.start)
  unfolding sites.sites
  all_kept = each_by_one IsKept (sites.sites spec (found_names spec)) (λ v o at e. kept (breach 43 at) (inr (λ b g. kept b (inl g), inr (v, (o, inr (inr (inr (inl (refl, e)))))))))

  -- what is placed in a routine
  unplaced : (r : RoutineTree) (at : ℕ) (ss : Sites) → Each IsKept (placed (in_routine at r) ss) → is_function_form r.form ≡ true → NoEffects ss
  unplaced r at [] v f = tt
  unplaced r at (x ∷ ss) v f = (by x v.0, unplaced r at ss v.1 f)
    where
      by : (x : Site) → IsKept (placed_one (in_routine at r) x) → IsNoEffect x
      by (site.CallsProcedure span) k = k span (f, refl)
      by (site.EstelleStatement span) k = k span (f, refl)
      by _ k = tt

  module _ (chosen : List Choice) where
    abbrev K : Meanings
    K = meant_with s chosen

    abbrev IsQuietTree : RoutineTree → Type 0
    IsQuietTree r = is_function_form r.form ≡ true → are_quiet K r.body ≡ true

    routine_quiet : (r : RoutineTree) (at : ℕ) → Each (UsesNone K) (routine r) → Each IsKept (placed (in_routine at r) ((sites.routine at r).sites env)) → Unit {0} → IsQuietTree r
    routine_quiet r at u v w f =
        let A = flat_map var_formals (formals_of r.formals) in
        let B = result_sites env r.form in
        let C = (all_of (map block_decl_part r.decls)).sites env in
        let D = statement_sites.stmts env r.body in
        let sited = unplaced r at (A ++ (B ++ (C ++ D))) v f in
        let body_sites = each_back IsNoEffect C D (each_back IsNoEffect B (C ++ D) (each_back IsNoEffect A (B ++ (C ++ D)) sited)) in
        let P = optional formals r.formals in
        let Q = result_type r.form in
        let R = flat_map block_decl_events r.decls in
        let T = stmts r.body in
        let named = each_back (UsesNone K) R (T ++ Close ∷ []) (each_back (UsesNone K) Q (R ++ (T ++ Close ∷ [])) (each_back (UsesNone K) P (Q ++ (R ++ (T ++ Close ∷ []))) u.1)) in
        stmts_told env K r.body body_sites (each_front (UsesNone K) T (Close ∷ []) named)

    -- ---- clauses

    abbrev IsQuietClause : Clause → Type 0
    IsQuietClause c = (condition_is_quiet K (provided_of (meant_with s []) c) ≡ true) × (delay_is_quiet K (delay_of (meant_with s []) c) ≡ true)

    high_quiet : (o : Option DelayHigh) → AllUseNone K (optional delay_high_events o) → bound_is_quiet K o ≡ true
    high_quiet None u = refl
    high_quiet (Some high.Star) u = refl
    high_quiet (Some (high.Expr e)) u = expr_told K e u

    clause_quiet : (c : Clause) → Each (UsesNone K) (clause_events c) → IsQuietClause c
    clause_quiet (clause.Provided e span) u = (expr_told K e u, refl)
    clause_quiet (clause.Delay low high span) u = (refl, both_and (names_no_procedure K low) (bound_is_quiet K high) (expr_told K low (each_front (UsesNone K) (expr low) (optional delay_high_events high) u)) (high_quiet high (each_back (UsesNone K) (expr low) (optional delay_high_events high) u)))
    clause_quiet (clause.From states span) u = (refl, refl)
    clause_quiet (clause.To state span) u = (refl, refl)
    clause_quiet (clause.When ip x params span) u = (refl, refl)
    clause_quiet (clause.Priority value span) u = (refl, refl)
    clause_quiet (clause.Any domains span) u = (refl, refl)

    -- ---- all bodies

    abbrev IsToldBody : BodyAlone → Type 0
    IsToldBody = BodyTold by_default env (UsesNone K) IsKept (λ z. Unit {0}) IsQuietTree IsQuietClause routine_quiet clause_quiet

    all_quiet : Each IsToldBody (bodies spec)
    all_quiet =
        subst (Each IsToldBody) (sym (body_equations.parts_is by_default spec.parts))
        (parts_told by_default env (UsesNone K) IsKept (λ z. Unit {0}) IsQuietTree IsQuietClause routine_quiet clause_quiet (suc max_nesting) spec.parts h.after_heads h.after_parts h.parts
        spec.span.start (in_parts chosen) all_kept (nothing_of (declares_in E)) None None)

    function_quiet : (x : Name) (r : Routine) → meant_with s chosen x ≡ mean.Called r → is_function r ≡ true → are_quiet K r.body ≡ true
    function_quiet x r e f =
        let brought = each_other IsToldBody (BroughtTold IsQuietTree) (λ b t. t.brought) (bodies spec) all_quiet in
        let all = all_told IsQuietTree (names_of spec) (bodies_declare 0 (bodies spec)) [] (bodies_say IsQuietTree 0 (bodies spec) brought) tt in
        let t = meant_routine IsQuietTree (names_of spec) (declared_with chosen) (chosen_told IsQuietTree (declared (names_of spec) (bodies_declare 0 (bodies spec))) chosen all) x r e in
        ap (are_quiet K) t.of_tree.body ∙ t.of_tree.told (sym t.of_tree.form ∙ f)

    -- ---- transitions

    abbrev IsQuietTransition : Transition → Type 0
    IsQuietTransition t = (condition_is_quiet K t.provided ≡ true) × (delay_is_quiet K t.delay ≡ true)

    flat_quiet : (b : BodyAlone) → Each IsQuietClause (clauses_in b) → Each IsQuietTransition (flat (meant_with s) b)
    flat_quiet b q =
        flat_each IsQuietClause (meant_with s) IsQuietTransition
        (λ w cs holds. (
          to_each IsQuietClause (λ o. condition_is_quiet K o ≡ true) (provided_of (meant_with s [])) refl (λ c k. k.0) w.clauses holds,
          to_each IsQuietClause (λ o. delay_is_quiet K o ≡ true) (delay_of (meant_with s [])) refl (λ c k. k.1) w.clauses holds,
        )) b q

    at_number : (ts : List Transition) (n : ℕ) (t : Transition) → Each IsQuietTransition ts → numbered_one ts n ≡ Some t → IsQuietTransition t
    at_number ts zero t q e = absurd (cc)
    at_number ts (suc n) t q e = each_at IsQuietTransition ts n t q e

    transition_quiet : (k n : ℕ) (t : Transition) → transition s k n ≡ Some t → IsQuietTransition t
    transition_quiet k n t = by (body s k) refl
      where
        none : (n : ℕ) → numbered_one [] n ≡ Some t → ⊥
        none zero e = cc
        none (suc n) e = cc

        by : (o : Option BodyAlone) → body s k ≡ o → numbered_one (transitions_of s o) n ≡ Some t → IsQuietTransition t
        by None here e = absurd (none n e)
        by (Some b) here e = at_number (flat (meant_with s) b) n t (flat_quiet b (each_at IsToldBody (bodies spec) k b all_quiet here).clauses) e

  quiet : IsQuiet s
  quiet = record {
    functions = λ chosen x r e f. function_quiet chosen x r e f;
    conditions = λ k n t e. (transition_quiet t.chosen k n t e).0;
    delays = λ k n t e. (transition_quiet t.chosen k n t e).1;
  }

pub accepted_functions_are_quiet : AcceptedFunctionsAreQuiet
accepted_functions_are_quiet spec names tokens rest spells follow named kept =
    subst (λ (us : List Used). IsQuiet (record { specification = spec; names = us })) (sym named) (quiet spec tokens rest spells follow kept)

pub read_functions_are_quiet : ReadFunctionsAreQuiet
read_functions_are_quiet spec names text tokens rest lexed spells named kept = accepted_functions_are_quiet spec names tokens rest spells (lexed_spans lexed).0 named kept
