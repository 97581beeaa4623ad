-- Each type definition is known to the rules at its place, in the form that it has at the end: it names what is declared before.
use Rattle.std.proofs.Common.{◌≡◌, ◌∙◌, ℕ, zero, suc, ◌≤◌, Bool, true, false, nat_eq, if◌then◌else◌, List, [], ◌∷◌, ◌++◌, map, length, Option, Some, None, refl, ap, sym, subst, arith, append_assoc, append-nil, inl, inr, cond}
use Rattle.std.specs.Prelude.{flat_map}
use Rattle.std.specs.Option.{is_some}
use Rattle.std.specs.List.{AllByRecursion}
use Rattle.std.specs.Map.{lookup}
use Rattle.std.proofs.lemmas.Bool.Decides.{Decides-eqb}
use Rattle.estelle_tree.specs.declared.kind.Kind.{Kind}
use Rattle.estelle_tree.specs.declared.kind.Kind.TheVariants as k
use Rattle.estelle_tree.specs.declared.span.Span.{Span}
use Rattle.estelle_tree.specs.declared.token.Placed.{Placed as PlacedToken}
use Rattle.estelle_tree.specs.declared.names.Use.{Use as Used}
use Rattle.estelle_tree.specs.declared.tree.name.Name.{Name}
use Rattle.estelle_tree.specs.declared.tree.statement.Stmts.{Stmts}
use Rattle.estelle_tree.specs.declared.tree.type_expr.TypedNames.{TypedNames}
use Rattle.estelle_tree.specs.declared.tree.declaration.ConstDef.{ConstDef}
use Rattle.estelle_tree.specs.declared.tree.declaration.TypeDef.{TypeDef}
use Rattle.estelle_tree.specs.declared.tree.declaration.BlockDecl.{BlockDecl}
use Rattle.estelle_tree.specs.declared.tree.declaration.BlockDecl.TheVariants as block_decl
use Rattle.estelle_tree.specs.declared.tree.declaration.Routine.{Routine}
use Rattle.estelle_tree.specs.declared.tree.declaration.RoutineForm.{RoutineForm}
use Rattle.estelle_tree.specs.declared.tree.declaration.RoutineForm.TheVariants as form
use Rattle.estelle_tree.specs.declared.tree.clause.Block.{Block}
use Rattle.estelle_tree.specs.declared.tree.clause.Clause.{Clause}
use Rattle.estelle_tree.specs.declared.tree.clause.Clause.TheVariants as clause
use Rattle.estelle_tree.specs.declared.tree.clause.TransBody.{TransBody, out-TransBody, map-TransBody}
use Rattle.estelle_tree.specs.declared.tree.clause.TransBody.TheOpen.{TransBody-F}
use Rattle.estelle_tree.specs.declared.tree.clause.Group.{Group, out-Group}
use Rattle.estelle_tree.specs.declared.tree.specification.Init.{Init}
use Rattle.estelle_tree.specs.declared.tree.specification.Trans.{Trans}
use Rattle.estelle_tree.specs.declared.tree.specification.Body.{Body, out-Body}
use Rattle.estelle_tree.specs.declared.tree.specification.Parts.{Parts, out-Parts}
use Rattle.estelle_tree.specs.declared.tree.specification.Decl.{Decl, out-Decl, map-Decl}
use Rattle.estelle_tree.specs.declared.tree.specification.Decl.TheOpen.{Decl-F}
use Rattle.estelle_tree.specs.declared.tree.specification.Spec.{Spec}
use Rattle.estelle_tree.specs.Input.{Input, input}
use Rattle.estelle_tree.specs.Spans.{TransBodyLayer, DeclLayer}
use Rattle.estelle_tree.specs.Spelling.{Spelling, Chain, Optional, Behind, Lines}
use Rattle.estelle_tree.specs.Types.{IsName}
use Rattle.estelle_tree.specs.Declarations.{IsConstDef, IsTypeDef, AreVars, IsBlockDecl, IsStatementPart, IsResult, IsRoutine}
use Rattle.estelle_tree.specs.Clauses.{IsBlock, IsClause, way_of, clause_kinds, MoreGroups, AreGroups, TransBodyLayerOf, TransBodyOf, GroupOf, GroupWithin}
use Rattle.estelle_tree.specs.Specification.{IsInit, IsTrans, BodyOf, DeclLayerOf, DeclOf, PartsOf, PartsBelow}
use Rattle.estelle_tree.specs.Lexed.{FollowOneAnother}
use Rattle.estelle_tree.specs.Spells.{Spells, max_nesting}
use Rattle.scope_rules.specs.declared.declaration.Denotes.{Denotes}
use Rattle.scope_rules.specs.declared.declaration.Denotes.TheVariants as d
use Rattle.scope_rules.specs.declared.declaration.Need.{Need}
use Rattle.scope_rules.specs.declared.declaration.Need.TheVariants as need
use Rattle.scope_rules.specs.declared.declaration.Inside.TheVariants.{Nothing}
use Rattle.scope_rules.specs.declared.event.ScopeForm.TheVariants as scope
use Rattle.scope_rules.specs.declared.event.Step.{Step}
use Rattle.scope_rules.specs.declared.event.Event.{Event}
use Rattle.scope_rules.specs.declared.event.Event.TheVariants.{Open, Close, Declare, Use}
use Rattle.scope_rules.specs.Kinds.{may_be}
use Rattle.scope_rules.specs.TypeEvents.{Events, declare, type_events, inside, typed_names}
use Rattle.scope_rules.specs.ExpressionEvents.{optional}
use Rattle.scope_rules.specs.StatementEvents.{stmts}
use Rattle.scope_rules.specs.DeclarationEvents as defining
use Rattle.scope_rules.specs.DeclarationEvents.{type_def, block_decl_events}
use Rattle.scope_rules.specs.ClauseEvents as way_events
use Rattle.scope_rules.specs.ClauseEvents.{block, clause_events, trans_body, group}
use Rattle.scope_rules.specs.SpecificationEvents as part_events
use Rattle.scope_rules.specs.SpecificationEvents.{Declaring, Saying, init, trans, decl, body, parts, events}
use Rattle.scope_rules.specs.Scopes.{start, after}
use Rattle.scope_rules.specs.declared.refusal.Breach.{Breach}
use Rattle.scope_rules.specs.NameRules.{IsOne, NameRuleBroken, names_of}
use Rattle.scope_names_events.proofs.WritingLemmas.{chain_map}
use Rattle.scope_names_events.proofs.ClauseEquations as way_equations
use Rattle.scope_names_events.proofs.SpecificationEquations as part_equations
use Rattle.type_rules.specs.declared.meanings.Entity.{Entity}
use Rattle.type_rules.specs.declared.meanings.Meaning.TheVariants as said
use Rattle.type_rules.specs.Meanings as rules
use Rattle.type_rules.specs.Meanings.{Env, Declaration, Declarations, declare_one, declare_all, with_entity, put_first, env_of, entity_at, or_undeclared, known, meaning_by, required_meaning, declaration_of, type_denoted}
use Rattle.type_rules.specs.Types.{at_fault, is_no_index}
use Rattle.type_rules.specs.declared.types.Denoted.{Denoted}
use Rattle.type_rules.specs.TypeSites as types
use Rattle.type_rules.specs.SpecificationSites as sites
use Rattle.type_rules.specs.SpecificationSites.{Part, PlacedPart}
use Rattle.type_rules.proofs.SpecificationEquations as ruled_equations
use Rattle.accepted_states.proofs.Lists.{count, one_if, flat-append}
use Rattle.accepted_states.proofs.Fine as fine
use Rattle.accepted_states.proofs.Fine.{Less, less_same, less_more, less_takes, less_names, name_less, less_of}
use Rattle.accepted_states.proofs.FineDeclarations.{part_fine, label_less, clause_fine}
use Rattle.accepted_states.proofs.FineSpecification.{stateset_fine}
use Rattle.accepted_states.proofs.Leads.{once, parts_less, outermost, events_are, uses_apart}
use Rattle.accepted_states.proofs.Fit as fit
use Rattle.accepted_states.proofs.Fit.{starts, Frame, One}
use Rattle.accepted_states.proofs.Uses.{Found, use_found}
use Rattle.trace_forms.proofs.Lists.{all_append, all_front, all_flat, one_of_all}
use Rattle.trace_forms.proofs.AllOf.{of_ended, of_enclosed}
use Rattle.trace_forms.proofs.Environments.{Earlier, all_earlier, all_said, named_alike}
use Rattle.trace_forms.proofs.TypesFound.{types_at, types_in, type_found}
use Rattle.trace_forms.proofs.Typeless.{Typeless, none_typed, IsQuiet, Quiet, quiet_typeless, type_typeless, stmts_quiet, clause_quiet, channel_typeless, header_typeless, ips_quiet, modvars_quiet, statesets_quiet, consts_quiet, vars_typeless, formals_quiet, result_quiet}
use Rattle.trace_forms.proofs.Keeps.{KeepsHere, AllKeep, few_onward, less_onward, keep_earlier, quiet_keeps, type_keeps, vars_keep, channel_keeps, header_keeps}
use Rattle.trace_forms.proofs.Flat.{depth_of, IsFlat, places, Few, count_more, few_append, few_exchanged, few_less, few_end, few_name, Flat, flat_nil, flat_append, flat_less, flat_end, flat_name, type_flat, flat_consts, flat_vars, flat_formals, flat_any, flat_channel, flat_ips, flat_modvars, flat_header}
use Rattle.trace_forms.proofs.TypesStay.{UseStays, NeedStays, EventStays, UsesStay, SameForm, type_stays}

-- ---- environments

all_declared : (e : Env) (xs ys : Declarations) → declare_all e (xs ++ ys) ≡ declare_all (declare_all e xs) ys
unfolding declare_all
all_declared e [] ys = refl
all_declared e (x ∷ xs) ys = all_declared (declare_one e x) xs ys

last_found : (p : ℕ) (v : Entity) (es : List (ℕ × Entity)) → lookup (nat_eq p) es ≡ None → lookup (nat_eq p) (es ++ (p, v) ∷ []) ≡ Some v
last_found p v [] h = ap (λ b. cond b (Some v) None) ((Decides-eqb p p).1 refl)
last_found p v (e ∷ es) h = by (last_found p v es) (nat_eq p e.0) h
  where
    by : (lookup (nat_eq p) es ≡ None → lookup (nat_eq p) (es ++ (p, v) ∷ []) ≡ Some v) → (b : Bool) → cond b (Some e.1) (lookup (nat_eq p) es) ≡ None → cond b (Some e.1) (lookup (nat_eq p) (es ++ (p, v) ∷ [])) ≡ Some v
    by more true g = absurd (cc)
    by more false g = more g

-- what is declared first at a place is what is known there
put_found : (p : ℕ) (v : Entity) (es : List (ℕ × Entity)) → lookup (nat_eq p) es ≡ None → lookup (nat_eq p) (put_first p v es) ≡ Some v
put_found p v es h = ap (λ (o : Option Entity). lookup (nat_eq p) (if is_some o then es else es ++ (p, v) ∷ [])) h ∙ last_found p v es h

one_counts : (p : ℕ) (x : Declaration) (rs : Declarations) → IsOne x rs → x.at ≡ p → 1 ≤ count (nat_eq p) (places rs)
one_counts p x [] o e = absurd o
one_counts p x (r ∷ rs) (inl is) e = let a : one_if (nat_eq p r.at) ≡ 1 = ap one_if (ap (λ (y : Declaration). nat_eq p y.at) (sym is) ∙ ap (nat_eq p) e ∙ (Decides-eqb p p).1 refl) in omega (arith, a)
one_counts p x (r ∷ rs) (inr o) e = let a = one_counts p x rs o e in omega (arith, a)

pub needs_type : (k : Denotes) → may_be need.Type k ≡ true → k ≡ d.Type
needs_type d.Type h = refl
needs_type d.Constant h = absurd (cc)
needs_type d.Variable h = absurd (cc)
needs_type d.Exported h = absurd (cc)
needs_type d.Field h = absurd (cc)
needs_type d.Procedure h = absurd (cc)
needs_type d.Function h = absurd (cc)
needs_type d.RequiredFunction h = absurd (cc)
needs_type d.Channel h = absurd (cc)
needs_type d.Role h = absurd (cc)
needs_type d.Interaction h = absurd (cc)
needs_type d.Header h = absurd (cc)
needs_type d.Body h = absurd (cc)
needs_type d.ModuleVariable h = absurd (cc)
needs_type d.Ip h = absurd (cc)
needs_type d.State h = absurd (cc)
needs_type d.StateSet h = absurd (cc)

-- what is known at its place is as deep as what it says once all is known, and no type of an index where that is none
abbrev pub IsSettled : Env → Declaration → Type 0
IsSettled e r = (depth_of (r.says e).meaning ≤ depth_of (entity_at e r.at).meaning) × (is_no_index (type_denoted (r.says e).meaning) ≡ true → is_no_index (type_denoted (entity_at e r.at).meaning) ≡ true)

types_more : (es fs : Events) → types_in (es ++ fs) ≡ types_in es ++ types_in fs
types_more es fs = flat-append types_at es fs

-- names : what is known of the names in use; all : what is said of names; ruled : what the rules declare
module _ (names : List Used) (all : Events) (ruled : Declarations) (found : (before : Events) (x : Name) (steps : List Step) (rest : Events) → all ≡ before ++ Use x need.Type steps ∷ rest → Found names (after start before) x need.Type) where
  abbrev env : Declarations → Env
  env front = env_of names front

  -- something is declared at the place of the name, or it is required
  abbrev IsThere : Env → Name → Type 0
  IsThere e y = nat_eq y.span.end 0 ≡ false → (x : Entity) × (lookup (nat_eq y.span.start) e.places ≡ Some x)

  -- what events declare as types is declared by the rules
  abbrev pub Sound : Events → Declarations → Type 0
  Sound before front = AllByRecursion (IsThere (env front)) (types_in before)

  abbrev pub Settled : Declaration → Type 0
  Settled = IsSettled (env ruled)

  abbrev pub Apart : Type 0
  Apart = (p : ℕ) → count (nat_eq p) (places ruled) ≤ 1

  -- ---- what is known later

  env_more : (front rs : Declarations) → env (front ++ rs) ≡ declare_all (env front) rs
  env_more front rs = all_declared (rules.start names) front rs

  later : (front rs : Declarations) → Earlier (env front) (env (front ++ rs))
  later front rs = subst (Earlier (env front)) (sym (env_more front rs)) (all_earlier (env front) rs)

  to_end : (front rest : Declarations) → ruled ≡ front ++ rest → Earlier (env front) (env ruled)
  to_end front rest is = subst (λ ds. Earlier (env front) (env ds)) (sym is) (later front rest)

  there_later : (e f : Env) → Earlier e f → (ys : List Name) → AllByRecursion (IsThere e) ys → AllByRecursion (IsThere f) ys
  there_later e f h [] s = tt
  there_later e f h (y ∷ ys) s = (λ g. let p = s.0 g in (p.0, h.stays y.span.start p.0 p.1), there_later e f h ys s.1)

  sound_more : (before es : Events) (front rs : Declarations) → types_in es ≡ [] → Sound before front → Sound (before ++ es) (front ++ rs)
  sound_more before es front rs none s =
      subst (AllByRecursion (IsThere (env (front ++ rs)))) (sym (types_more before es ∙ ap (λ ys. types_in before ++ ys) none ∙ append-nil (types_in before)))
      (there_later (env front) (env (front ++ rs)) (later front rs) (types_in before) s)

  -- ---- names of types in use

  use_stays : (before : Events) (x : Name) (steps : List Step) (rest : Events) (front : Declarations) → all ≡ before ++ Use x need.Type steps ∷ rest → Sound before front → UseStays (env front) x
  unfolding known declaration_of entity_at
  use_stays before x steps rest front here s f h =
      ap (meaning_by f x) (named f (ap (lookup (nat_eq x.span.start)) (sym h.uses))) ∙ by (nat_eq y.span.end 0) refl ∙ sym (ap (meaning_by (env front) x) (named (env front) refl))
    where
      u : Found names (after start before) x need.Type
      u = found before x steps rest here

      is_type : (y : Name) × (IsOne y (types_in before) × ((x.word ≡ y.word) × (u.found.at ≡ y.span)))
      is_type = type_found before x.word u.found u.means (needs_type u.found.denotes u.fits)

      y : Name
      y = is_type.0

      named : (g : Env) → declaration_of g x ≡ declaration_of (env front) x → declaration_of g x ≡ Some y.span
      named g e = e ∙ named_alike names front x ∙ u.known ∙ ap (λ (p : Span). Some p) is_type.1.1.1

      placed : (o : Option Entity) → lookup (nat_eq y.span.start) (env front).places ≡ o → (o ≡ None → ⊥) → (or_undeclared (lookup (nat_eq y.span.start) f.places)).meaning ≡ (or_undeclared (lookup (nat_eq y.span.start) (env front).places)).meaning
      placed None e some = absurd (some refl)
      placed (Some v) e some = ap (λ (o : Option Entity). (or_undeclared o).meaning) (h.stays y.span.start v e ∙ sym e)

      by : (b : Bool) → nat_eq y.span.end 0 ≡ b
          → (if b then required_meaning x.word else (or_undeclared (lookup (nat_eq y.span.start) f.places)).meaning) ≡ (if b then required_meaning x.word else (or_undeclared (lookup (nat_eq y.span.start) (env front).places)).meaning)
      by true e = refl
      by false e = let p = one_of_all (IsThere (env front)) (types_in before) y s is_type.1.0 e in placed (lookup (nat_eq y.span.start) (env front).places) refl (λ g. let q = sym p.1 ∙ g in cc)

  need_stays : (before : Events) (x : Name) (n : Need) (steps : List Step) (rest : Events) (front : Declarations) → all ≡ before ++ Use x n steps ∷ rest → Sound before front → NeedStays (env front) x n
  need_stays before x need.Type steps rest front here s = use_stays before x steps rest front here s
  need_stays before x _ steps rest front here s = tt

  event_stays : (before : Events) (v : Event) (rest : Events) (front : Declarations) → all ≡ before ++ v ∷ rest → Sound before front → EventStays (env front) v
  event_stays before (Use x n steps) rest front here s = need_stays before x n steps rest front here s
  event_stays before _ rest front here s = tt

  uses_stay : (before es rest : Events) (front : Declarations) → Typeless es → all ≡ before ++ (es ++ rest) → Sound before front → UsesStay (env front) es
  uses_stay before [] rest front t here s = tt
  uses_stay before (v ∷ es) rest front t here s = (
    event_stays before v (es ++ rest) front here s,
    uses_stay (before ++ v ∷ []) es rest front t.1 (here ∙ sym (append_assoc before (v ∷ []) (es ++ rest)))
        (subst (λ ys. AllByRecursion (IsThere (env front)) ys) (sym (types_more before (v ∷ []) ∙ ap (λ ys. types_in before ++ ys) (none_typed (v ∷ []) (t.0, tt)) ∙ append-nil (types_in before))) s),
  )

  -- ---- parts

  -- the rules declare a part in its text, where the types that its events declare are theirs
  pub record Goes (i j : Input) (es : Events) (rs : Declarations) : Type 0 where
    pub few : Few i j rs
    pub keeps : AllKeep i es
    pub follows : Apart → (before more : Events) (front rest : Declarations) → all ≡ before ++ (es ++ more) → ruled ≡ front ++ (rs ++ rest) → Sound before front → Sound (before ++ es) (front ++ rs) × AllByRecursion Settled rs

  -- what has no type is not refused as the type of an index
  none_is_refused : is_no_index at_fault ≡ false
  unfolding is_no_index
  none_is_refused = refl

  flat_settled : (rs : Declarations) → AllByRecursion IsFlat rs → AllByRecursion Settled rs
  flat_settled [] h = tt
  flat_settled (r ∷ rs) h =
      let a = h.0 (env ruled) in
      let b = ap (λ (u : Denoted). u.depth) a in
      ((omega (arith, b), λ g. absurd (let c = sym (ap is_no_index a ∙ none_is_refused) ∙ g in cc)), flat_settled rs h.1)

  go_flat : {i j : Input} {rs : Declarations} (es : Events) → Typeless es → AllKeep i es → Flat i j rs → Goes i j es rs
  go_flat {i} {j} {rs} es t k h = record { few = h.few; keeps = k; follows = λ apart before more front rest e f s. (sound_more before es front rs (none_typed es t) s, flat_settled rs h.flat) }

  go_nil : {i j : Input} → Less i j → Goes i j [] []
  go_nil l = go_flat [] tt tt (flat_nil l)

  go_append : {i m j : Input} {es fs : Events} {rs ss : Declarations} → Goes i m es rs → Goes m j fs ss → Goes i j (es ++ fs) (rs ++ ss)
  go_append {i} {m} {j} {es} {fs} {rs} {ss} h g = record {
    few = few_append h.few g.few;
    keeps = all_append (KeepsHere i) es fs h.keeps (keep_earlier i m (few_onward h.few) fs g.keeps);
    follows = λ apart before more front rest e f s.
        let e1 = e ∙ ap (λ xs. before ++ xs) (append_assoc es fs more) in
        let f1 = f ∙ ap (λ xs. front ++ xs) (append_assoc rs ss rest) in
        let first = h.follows apart before (fs ++ more) front (ss ++ rest) e1 f1 s in
        let second = g.follows apart (before ++ es) more (front ++ rs) rest (e1 ∙ sym (append_assoc before es (fs ++ more))) (f1 ∙ sym (append_assoc front rs (ss ++ rest))) first.0 in
        (subst (λ xs. Sound xs (front ++ (rs ++ ss))) (append_assoc before es fs) (subst (Sound ((before ++ es) ++ fs)) (append_assoc front rs ss) second.0), all_append Settled rs ss first.1 second.1);
  }

  go_less : {i m j : Input} {es : Events} {rs : Declarations} → Less i m → Goes m j es rs → Goes i j es rs
  go_less {i} {m} {j} {es} {rs} l h = record { few = few_less l h.few; keeps = keep_earlier i m (less_onward l) es h.keeps; follows = h.follows }

  go_end : {i m j : Input} {es : Events} {rs : Declarations} → Goes i m es rs → Less m j → Goes i j es rs
  go_end {i} {m} {j} {es} {rs} h l = record { few = few_end h.few l; keeps = h.keeps; follows = h.follows }

  go_quiet : {i j : Input} {rs : Declarations} (es : Events) → Quiet es → Flat i j rs → Goes i j es rs
  go_quiet {i} {j} {rs} es q h = go_flat es (quiet_typeless es q) (quiet_keeps i es q) h

  -- events alone, which declare no types and keep no names
  go_events : (i : Input) (es : Events) → Quiet es → Goes i i es []
  go_events i es q = go_quiet es q (flat_nil (less_same refl))

  -- with more events before it, or behind it
  go_behind : {i j : Input} {es : Events} {rs : Declarations} (fs : Events) → Quiet fs → Goes i j es rs → Goes i j (fs ++ es) rs
  go_behind {i} {j} {es} {rs} fs t h = go_append {es = fs} {rs = []} (go_events i fs t) h

  go_before : {i j : Input} {es : Events} {rs : Declarations} (fs : Events) → Quiet fs → Goes i j es rs → Goes i j (es ++ fs) rs
  go_before {i} {j} {es} {rs} fs t h = subst (Goes i j (es ++ fs)) (append-nil rs) (go_append h (go_events j fs t))

  module _ {A : Type 0} (f : A → Events) (g : A → Declarations) where
    abbrev All : Input → Input → List A → Type 0
    All i j xs = Goes i j (flat_map f xs) (flat_map g xs)

    go_frame : Frame All
    go_frame = record {
      nil = λ i j l. go_nil l;
      append = λ i m j xs ys h k. subst (λ es. Goes i j es (flat_map g (xs ++ ys))) (sym (flat-append f xs ys)) (subst (Goes i j (flat_map f xs ++ flat_map f ys)) (sym (flat-append g xs ys)) (go_append h k));
      less = λ i m j xs l h. go_less l h;
      end = λ i m j xs h l. go_end h l;
    }

    go_one : (x : A) (i j : Input) → Goes i j (f x) (g x) → All i j (x ∷ [])
    go_one x i j h = subst (λ es. Goes i j es (g x ++ [])) (sym (append-nil (f x))) (subst (Goes i j (f x)) (sym (append-nil (g x))) h)

  -- ---- type definitions

  -- nothing else is declared at the place
  not_there : (p : ℕ) (front : Declarations) → count (nat_eq p) (places front) ≡ 0 → lookup (nat_eq p) (env front).places ≡ None
  not_there p front none = by (lookup (nat_eq p) (env front).places) refl
    where
      by : (o : Option Entity) → lookup (nat_eq p) (env front).places ≡ o → o ≡ None
      by None e = refl
      by (Some v) e = let s = all_said names front p v e in let a = one_counts p s.declaration front s.one s.at in absurd (omega (arith, a, none))

  module _ (room : ℕ) where
    -- what a type definition declares
    abbrev defines : TypeDef → Declaration
    defines x = sites.declare_as (λ e. said.TypeName ((types.typing x.type_expr).denotes e)) x.name

    type_follows : (x : TypeDef) (i j : Input) → IsTypeDef room x i j → Apart → (before more : Events) (front rest : Declarations) → all ≡ before ++ (type_def x ++ more) → ruled ≡ front ++ ((sites.type_def x).declares ++ rest) → Sound before front
        → Sound (before ++ type_def x) (front ++ (sites.type_def x).declares) × AllByRecursion Settled (sites.type_def x).declares
    unfolding declare_all declare_one with_entity entity_at
    type_follows x i j h apart before more front rest e f s = (
      subst (AllByRecursion (IsThere (env (front ++ R)))) (sym (types_more before (type_def x) ∙ ap (λ ys. types_in before ++ ys) declared_type))
          (all_append (IsThere (env (front ++ R))) (types_in before) (x.name ∷ []) (there_later (env front) (env (front ++ R)) (later front R) (types_in before) s) ((λ g. (N.says at, there)), tt)),
      all_append Settled D (N ∷ []) (flat_settled D (type_flat room x.type_expr h.at j h.second).flat) (settled, tt),
    )
      where
        D : Declarations
        D = (types.typing x.type_expr).declares

        N : Declaration
        N = defines x

        R : Declarations
        R = D ++ N ∷ []

        T : Events
        T = type_events x.type_expr

        at : Env
        at = env (front ++ D)

        typeless : Typeless T
        typeless = type_typeless room x.type_expr h.at j h.second

        declared_type : types_in (type_def x) ≡ x.name ∷ []
        declared_type = types_more T (declare x.name d.Type (inside x.type_expr)) ∙ ap (λ ys. ys ++ x.name ∷ []) (none_typed T typeless)

        stay : UsesStay (env front) T
        stay = uses_stay before T (declare x.name d.Type (inside x.type_expr) ++ more) front typeless (e ∙ ap (λ xs. before ++ xs) (append_assoc T (declare x.name d.Type (inside x.type_expr)) more)) s

        same : SameForm ((types.typing x.type_expr).denotes (env ruled)) ((types.typing x.type_expr).denotes at)
        same =
            let a = type_stays room x.type_expr h.at j h.second (env front) (env ruled) (to_end front (R ++ rest) f) stay in
            let b = type_stays room x.type_expr h.at j h.second (env front) at (later front D) stay in
            (a.0 ∙ sym b.0, a.1 ∙ sym b.1)

        none : count (nat_eq x.name.span.start) (places (front ++ D)) ≡ 0
        none =
            let p = x.name.span.start in
            let a = apart p in
            let b = ap (λ rs. count (nat_eq p) (places rs)) f in
            let c = count_more (nat_eq p) front (R ++ rest) in
            let g = count_more (nat_eq p) R rest in
            let l = count_more (nat_eq p) D (N ∷ []) in
            let m = count_more (nat_eq p) front D in
            let n : one_if (nat_eq p p) ≡ 1 = ap one_if ((Decides-eqb p p).1 refl) in
            omega (arith, a, b, c, g, l, m, n)

        there : lookup (nat_eq x.name.span.start) (env (front ++ R)).places ≡ Some (N.says at)
        there =
            ap (λ (v : Env). lookup (nat_eq x.name.span.start) v.places) (ap env (sym (append_assoc front D (N ∷ []))) ∙ env_more (front ++ D) (N ∷ []))
            ∙ put_found x.name.span.start (N.says at) at.places (not_there x.name.span.start (front ++ D) none)

        known_there : entity_at (env ruled) x.name.span.start ≡ N.says at
        known_there = ap or_undeclared ((to_end (front ++ R) rest (f ∙ sym (append_assoc front R rest))).stays x.name.span.start (N.says at) there)

        settled : Settled N
        settled = (
          let a = same.0 in let b = ap (λ (v : Entity). depth_of v.meaning) known_there in omega (arith, a, b),
          λ g. ap (λ (v : Entity). is_no_index (type_denoted v.meaning)) known_there ∙ (sym same.1 ∙ g),
        )

    go_type : (x : TypeDef) (i j : Input) → IsTypeDef room x i j → Goes i j (type_def x) (sites.type_def x).declares
    go_type x i j h = record {
      few = few_exchanged (few_name (λ e. types.meaning_only (said.TypeName ((types.typing x.type_expr).denotes e))) h.first)
          (few_less (less_takes h.mark) (type_flat room x.type_expr h.at j h.second).few);
      keeps = all_append (KeepsHere i) (type_events x.type_expr) (declare x.name d.Type (inside x.type_expr)) (keep_earlier i h.at (less_onward (less_more (name_less h.first) (less_takes h.mark))) (type_events x.type_expr) (type_keeps room x.type_expr h.at j h.second).keeps) (tt, tt);
      follows = type_follows x i j h;
    }

    -- parts one after another, as one part
    joined : {A : Type 0} (i j : Input) (es : Events) (p : A → Part) (xs : List A) → Goes i j es (flat_map (λ x. (p x).declares) xs) → Goes i j es (sites.all_of (map p xs)).declares
    joined i j es p xs = subst (Goes i j es) (sym (chain_map (λ (q : Part). q.declares) p xs))

    abbrev of_type : TypeDef → Declarations
    of_type x = (sites.type_def x).declares

    go_types : (xs : List TypeDef) (i j : Input) → Lines (IsTypeDef room) xs i j → Goes i j (flat_map type_def xs) (sites.all_of (map sites.type_def xs)).declares
    go_types xs i j h = joined i j (flat_map type_def xs) sites.type_def xs
        (fit.lines (All type_def of_type) (go_frame type_def of_type) (IsTypeDef room) (λ x i j h. go_one type_def of_type x i j (go_type x i j h)) xs i j h)

    go_consts : (xs : List ConstDef) (i j : Input) → Lines IsConstDef xs i j → Goes i j (flat_map defining.const_def xs) (sites.all_of (map sites.const_def xs)).declares
    go_consts xs i j h = joined i j (flat_map defining.const_def xs) sites.const_def xs (go_quiet (flat_map defining.const_def xs) (consts_quiet xs) (flat_consts xs i j h))

    go_vars : (xs : List TypedNames) (i j : Input) → Lines (AreVars room) xs i j → Goes i j (flat_map (typed_names d.Variable) xs) (sites.all_of (map sites.var_decl xs)).declares
    go_vars xs i j h = joined i j (flat_map (typed_names d.Variable) xs) sites.var_decl xs (go_flat (flat_map (typed_names d.Variable) xs) (vars_typeless room xs i j h) (vars_keep room d.Variable xs i j h).keeps (flat_vars room xs i j h))

    go_definition : (x : BlockDecl) (i j : Input) → IsBlockDecl room x i j → Goes i j (block_decl_events x) (sites.block_decl_part x).declares
    go_definition (block_decl.Const defs span) i j h = go_less (less_takes h.0.mark) (go_consts defs h.0.at j h.0.item)
    go_definition (block_decl.Types defs span) i j h = go_less (less_takes h.0.mark) (go_types defs h.0.at j h.0.item)
    go_definition (block_decl.Var vars span) i j h = go_less (less_takes h.0.mark) (go_vars vars h.0.at j h.0.item)

    abbrev of_definition : BlockDecl → Declarations
    of_definition x = (sites.block_decl_part x).declares

    abbrev defined : List BlockDecl → Declarations
    defined ds = (sites.all_of (map sites.block_decl_part ds)).declares

    go_definitions : (ds : List BlockDecl) (i j : Input) → Chain (IsBlockDecl room) ds i j → Goes i j (flat_map block_decl_events ds) (defined ds)
    go_definitions ds i j h = joined i j (flat_map block_decl_events ds) sites.block_decl_part ds
        (fit.chain (All block_decl_events of_definition) (go_frame block_decl_events of_definition) (IsBlockDecl room) (λ x i j h. go_one block_decl_events of_definition x i j (go_definition x i j h)) ds i j h)

    -- ---- routines, blocks and clauses

    body_quiet : (ss : Stmts) (i j : Input) → IsStatementPart room ss i j → Quiet (stmts ss ++ Close ∷ [])
    body_quiet ss i j h = all_append IsQuiet (stmts ss) (Close ∷ []) (of_ended (of_enclosed (stmts_quiet room)) ss i j h.stmts) ((refl, refl), tt)

    body_less : (ss : Stmts) (i j : Input) → IsStatementPart room ss i j → Less i j
    body_less ss i j h = less_of (part_fine room ss i j h)

    result_less : (r : RoutineForm) (i j : Input) → IsResult room r i j → Less i j
    result_less form.Procedure i j h = less_same h
    result_less (form.Function x) i j h = less_more (less_takes h.mark) (name_less h.item)

    routine_flat : (at : ℕ) (r : Routine) (e : Env) → type_denoted (sites.routine_says at r e).meaning ≡ at_fault
    routine_flat at r e = by r.form
      where
        by : (f : RoutineForm) → type_denoted (sites.routine_meaning at f e) ≡ at_fault
        by form.Procedure = refl
        by (form.Function x) = refl

    go_routine : (at : ℕ) (r : Routine) (i j : Input) → IsRoutine room r i j → Goes i j (defining.routine r) (sites.routine at r).declares
    go_routine at r i j h =
        let F = optional defining.formals r.formals in
        let S = stmts r.body ++ Close ∷ [] in
        let N = sites.declare r.name (sites.routine_says at r) ∷ [] in
        let head = flat_append {rs = N} (flat_less (less_takes h.name.mark) (flat_name (sites.routine_says at r) (routine_flat at r) h.name.item)) (flat_formals r.formals h.after_name h.after_formals h.formals) in
        let decls = go_before S (body_quiet r.body h.after_decls j h.body) (go_end (go_definitions r.decls h.after_head h.after_decls h.decls) (body_less r.body h.after_decls j h.body)) in
        let more = go_behind (defining.result_type r.form) (result_quiet r.form) (go_less (less_more (result_less r.form h.after_formals h.after_result h.result) (less_takes h.semicolon)) decls) in
        go_append {es = Open scope.Inner ∷ F} (go_quiet (Open scope.Inner ∷ F) ((refl, refl), formals_quiet r.formals) head) more

    go_block : (b : Block) (i j : Input) → IsBlock room b i j → Goes i j (block b) (sites.block b).declares
    go_block b i j h =
        let S = stmts b.body ++ Close ∷ [] in
        let last = less_more (label_less room b.late_label h.after_decls h.after_late h.late_label) (body_less b.body h.after_late j h.body) in
        go_behind (Open scope.Inner ∷ []) ((refl, refl), tt) (go_before S (body_quiet b.body h.after_late j h.body)
        (go_less (label_less room b.label i h.after_label h.label) (go_end (go_definitions b.decls h.after_label h.after_decls h.decls) last)))

    clause_flat : (c : Clause) (i j : Input) → IsClause room c i j → Less i j → Flat i j (sites.clause_part c).declares
    clause_flat (clause.Any domains span) i j h l = flat_less (less_takes h.0.opens) (flat_end (flat_any domains h.0.at h.0.mid h.0.inside) (less_takes h.0.closes))
    clause_flat (clause.From states span) i j h l = flat_nil l
    clause_flat (clause.To state span) i j h l = flat_nil l
    clause_flat (clause.When ip x params span) i j h l = flat_nil l
    clause_flat (clause.Provided e span) i j h l = flat_nil l
    clause_flat (clause.Priority c span) i j h l = flat_nil l
    clause_flat (clause.Delay low high span) i j h l = flat_nil l

    go_clause : (c : Clause) (i j : Input) → IsClause room c i j → Goes i j (clause_events c) (sites.clause_part c).declares
    go_clause c i j h = go_quiet (clause_events c) (clause_quiet room c i j h) (clause_flat c i j h (less_of (clause_fine room c i j h)))

    -- ---- transitions

    abbrev GroupGoes : Input → Input → Group → Type 0
    GroupGoes i j g = Goes i j (group g) (sites.group g).declares

    abbrev of_group : Group → Declarations
    of_group g = (sites.group g).declares

    module _ (G : List Kind → Spelling Group) (goes : (way : List Kind) (g : Group) (i j : Input) → G way g i j → GroupGoes i j g) where
      more_go : (way : List Kind) (before : Group) (gs : List Group) (i j : Input) → MoreGroups room G way before gs i j → All group of_group i j gs
      more_go way before [] i j h = go_nil (less_same h)
      more_go way before (g ∷ gs) i j h = go_append (goes way g i h.1.0 h.1.1) (more_go way g gs h.1.0 j h.1.2)

      groups_go : (way : List Kind) (gs : List Group) (i j : Input) → AreGroups room G way gs i j → All group of_group i j gs
      groups_go way [] i j h = absurd h
      groups_go way (g ∷ gs) i j h = go_append (goes way g i h.0 h.1) (more_go way g gs h.0 j h.2)

      layer_goes : (way : List Kind) (l : TransBodyLayer) (i j : Input) → TransBodyLayerOf room G way l i j
          → Goes i j (way_events.trans_body_layer (map-TransBody TransBody Group Events Events trans_body group l)) (sites.trans_body_layer (map-TransBody TransBody Group Part Part sites.trans_body sites.group l)).declares
      layer_goes way (TransBody-F.Block b) i j h = go_block b i j h
      layer_goes way (TransBody-F.Groups gs span) i j h =
          subst (λ es. Goes i j es (sites.all_of (map sites.group gs)).declares) (sym (chain_map (λ (es : Events). es) group gs)) (joined i j (flat_map group gs) sites.group gs (groups_go way gs i j h.0))

      trans_body_goes : (way : List Kind) (x : TransBody) (i j : Input) → TransBodyOf room G way x i j → Goes i j (trans_body x) (sites.trans_body x).declares
      trans_body_goes way x i j h =
          subst (λ es. Goes i j es (sites.trans_body x).declares) (sym (way_equations.trans_body_is x))
          (subst (λ (p : Part). Goes i j (way_events.trans_body_layer (map-TransBody TransBody Group Events Events trans_body group (out-TransBody x))) p.declares) (sym (ruled_equations.trans_body_is x)) (layer_goes way (out-TransBody x) i j h))

      group_of_goes : (way : List Kind) (g : Group) (i j : Input) → GroupOf room G way g i j → GroupGoes i j g
      group_of_goes way g i j h =
          let c = (out-Group g).clause in
          let b = (out-Group g).body in
          subst (λ es. Goes i j es (sites.group g).declares) (sym (way_equations.group_is g))
          (subst (λ (p : Part). Goes i j (Open scope.Further ∷ (clause_events c ++ (trans_body b ++ Close ∷ []))) p.declares) (sym (ruled_equations.group_is g))
          (go_behind (Open scope.Further ∷ []) ((refl, refl), tt) (go_append (go_clause c i h.mid h.clause) (go_before (Close ∷ []) ((refl, refl), tt) (trans_body_goes (way_of way g) b h.mid j h.body)))))

    group_goes : (n : ℕ) (way : List Kind) (g : Group) (i j : Input) → GroupWithin room n way g i j → GroupGoes i j g
    group_goes zero way g i j h = absurd h
    group_goes (suc n) way g i j h = group_of_goes (GroupWithin room n) (group_goes n) way g i j h

    abbrev of_trans : Trans → Declarations
    of_trans t = (sites.trans_body t.body).declares

    go_trans : (t : Trans) (i j : Input) → IsTrans room t i j → Goes i j (trans t) (of_trans t)
    go_trans t i j h =
        let n = length clause_kinds in
        go_behind (Open scope.Inner ∷ []) ((refl, refl), tt) (go_before (Close ∷ []) ((refl, refl), tt) (go_less (less_takes h.body.mark) (trans_body_goes (GroupWithin room n) (group_goes n) [] t.body h.body.at j h.body.item)))

    first_less : (o : Option Name) (i j : Input) → Optional (Behind k.To IsName) o i j → Less i j
    first_less None i j h = less_same h
    first_less (Some x) i j h = less_more (less_takes h.mark) (name_less h.item)

    first_quiet : (o : Option Name) → Quiet (part_events.first_state o)
    first_quiet None = tt
    first_quiet (Some x) = ((refl, refl), tt)

    go_init : (o : Option Init) (i j : Input) → Optional (IsInit room) o i j → Goes i j (optional init o) (sites.init_part o).declares
    go_init None i j h = go_nil (less_same h)
    go_init (Some x) i j h = go_behind (part_events.first_state x.to) (first_quiet x.to) (go_less (less_more (less_takes h.word) (first_less x.to h.at h.mid h.to)) (go_block x.block h.mid j h.block))

  -- ---- bodies

  abbrev PartsGo : Input → Input → Parts → Type 0
  PartsGo i j p = (at : ℕ) → Goes i j (parts p).events ((sites.parts p).declares at)

  module _ (room : ℕ) (P : Spelling Parts) (goes : (p : Parts) (i j : Input) → P p i j → PartsGo i j p) where
    go_body : (at : ℕ) (b : Body) (i j : Input) → BodyOf room P b i j → Goes i j (body b) ((sites.body b).declares at)
    go_body at b i j h =
        let o = out-Body b in
        let head = part_events.body_head o.name o.header o.span (parts o.parts) in
        let named = flat_end (flat_less (less_takes h.word) (flat_name (λ e. types.meaning_only (sites.body_meaning o.header e)) (λ e. refl) h.names.first)) (less_more (less_takes h.names.mark) (less_more (name_less h.names.second) (less_takes h.semicolon))) in
        subst (λ es. Goes i j es ((sites.body b).declares at)) (sym (part_equations.body_is b))
        (subst (Goes i j (head ++ ((parts o.parts).events ++ Close ∷ []))) (sym (ruled_equations.body_declares b at))
        (go_append {es = head} (go_quiet head ((refl, refl), ((refl, refl), ((refl, refl), ((refl, refl), ((refl, refl), tt))))) named)
        (go_before (Close ∷ []) ((refl, refl), tt) (go_end (goes o.parts h.after_head h.after_parts h.parts o.span.start) (less_more (less_takes h.ends) (less_takes h.last))))))

    layer_go : (at : ℕ) (l : DeclLayer) (i j : Input) → DeclLayerOf room P l i j
        → Goes i j (part_events.decl_layer (map-Decl Decl Body Parts Declaring Events Saying decl body parts l)).events ((sites.decl_layer (map-Decl Decl Body Parts PlacedPart PlacedPart PlacedPart sites.decl sites.body sites.parts l)).declares at)
    layer_go at (Decl-F.Const defs span) i j h = go_less (less_takes h.0.mark) (go_consts room defs h.0.at j h.0.item)
    layer_go at (Decl-F.Types defs span) i j h = go_less (less_takes h.0.mark) (go_types room defs h.0.at j h.0.item)
    layer_go at (Decl-F.Channel c) i j h = go_flat (part_events.channel c) (channel_typeless c) (channel_keeps c i j h).keeps (flat_channel c i j h)
    layer_go at (Decl-F.Header x) i j h = go_flat (part_events.header x) (header_typeless room x i j h) (header_keeps room x i j h).keeps (flat_header room x i j h)
    layer_go at (Decl-F.Body b) i j h = go_body at b i j h
    layer_go at (Decl-F.Ip ips span) i j h = go_quiet (flat_map part_events.ip_decl ips) (ips_quiet ips) (flat_less (less_takes h.0.mark) (flat_ips ips h.0.at j h.0.item))
    layer_go at (Decl-F.Modvar ms span) i j h = go_quiet (flat_map part_events.modvar_decl ms) (modvars_quiet ms) (flat_less (less_takes h.0.mark) (flat_modvars ms h.0.at j h.0.item))
    layer_go at (Decl-F.Var vars span) i j h = go_less (less_takes h.0.mark) (go_vars room vars h.0.at j h.0.item)
    layer_go at (Decl-F.State states span) i j h = go_quiet (Declare states.names d.State Nothing ∷ []) ((refl, refl), tt) (flat_nil (less_more (less_takes h.0.opens) (less_more (less_names h.0.inside) (less_takes h.0.closes))))
    layer_go at (Decl-F.Stateset sets span) i j h = go_quiet (flat_map part_events.stateset_def sets) (statesets_quiet sets) (flat_nil (less_of (fine.behind (fine.lines stateset_fine) sets i j h.0)))
    layer_go at (Decl-F.Routine r) i j h = go_routine room at r i j h

    abbrev decl_events : Decl → Events
    decl_events x = (decl x).events

    abbrev of_decl : ℕ → Decl → Declarations
    of_decl at x = (sites.decl x).declares at

    go_decl : (at : ℕ) → One (All decl_events (of_decl at)) (DeclOf room P)
    go_decl at x i j h =
        go_one decl_events (of_decl at) x i j
        (subst (λ (v : Declaring). Goes i j v.events (of_decl at x)) (sym (part_equations.decl_is x))
        (subst (λ (p : PlacedPart). Goes i j (part_events.decl_layer (map-Decl Decl Body Parts Declaring Events Saying decl body parts (out-Decl x))).events (p.declares at)) (sym (ruled_equations.decl_is x)) (layer_go at (out-Decl x) i j h)))

    routine_quiet : (l : DeclLayer) → Quiet (part_events.decl_layer (map-Decl Decl Body Parts Declaring Events Saying decl body parts l)).routine
    routine_quiet (Decl-F.Const defs span) = tt
    routine_quiet (Decl-F.Types defs span) = tt
    routine_quiet (Decl-F.Channel c) = tt
    routine_quiet (Decl-F.Header x) = tt
    routine_quiet (Decl-F.Body b) = tt
    routine_quiet (Decl-F.Ip ips span) = tt
    routine_quiet (Decl-F.Modvar ms span) = tt
    routine_quiet (Decl-F.Var vars span) = tt
    routine_quiet (Decl-F.State states span) = tt
    routine_quiet (Decl-F.Stateset sets span) = tt
    routine_quiet (Decl-F.Routine r) = by r.form
      where
        by : (f : RoutineForm) → Quiet (declare r.name (defining.routine_kind f) Nothing)
        by form.Procedure = ((refl, refl), tt)
        by (form.Function x) = ((refl, refl), tt)

    routines_quiet : (xs : List Decl) → Quiet (flat_map (λ x. (decl x).routine) xs)
    routines_quiet = all_flat IsQuiet (λ (x : Decl). (decl x).routine) (λ x. subst (λ (v : Declaring). Quiet v.routine) (sym (part_equations.decl_is x)) (routine_quiet (out-Decl x)))

    go_parts : (p : Parts) (i j : Input) → PartsOf room P p i j → PartsGo i j p
    go_parts p i j h at =
        let o = out-Parts p in
        let decls = fit.chain (All decl_events (of_decl at)) (go_frame decl_events (of_decl at)) (DeclOf room P) (go_decl at) o.decls i h.after_decls h.decls in
        let first = go_init room o.init h.after_decls h.after_init h.init in
        let transitions = fit.chain (All trans (of_trans room)) (go_frame trans (of_trans room)) (IsTrans room) (λ t i j h. go_one trans (of_trans room) t i j (go_trans room t i j h)) o.trans h.after_init j h.trans in
        subst (λ es. Goes i j es ((sites.parts p).declares at)) (sym (part_equations.parts_is p))
        (subst (Goes i j _) (sym (ruled_equations.parts_declare p at))
        (go_behind (flat_map (λ x. (decl x).routine) o.decls) (routines_quiet o.decls) (go_append decls (go_append first transitions))))

  below_go : (room : ℕ) (p : Parts) (i j : Input) → PartsBelow room p i j → PartsGo i j p
  below_go zero p i j h = absurd h
  below_go (suc room) p i j h = go_parts room (PartsBelow room) (below_go room) p i j h

-- ---- what names are kept

module _ (room : ℕ) where
  nothing_found : (before : Events) (x : Name) (steps : List Step) (rest : Events) → [] ≡ before ++ Use x need.Type steps ∷ rest → Found [] (after start before) x need.Type
  nothing_found [] x steps rest e = absurd (cc)
  nothing_found (v ∷ vs) x steps rest e = absurd (cc)

  -- a declaration keeps names for places of its own tokens
  pub decl_keeps : (x : Decl) (i j : Input) → DeclOf room (PartsBelow room) x i j → AllKeep i (decl x).events
  decl_keeps x i j h = all_front (KeepsHere i) (decl x).events [] (go_decl [] [] [] nothing_found room (PartsBelow room) (below_go [] [] [] nothing_found room) 0 x i j h).keeps

-- ---- whole specifications

-- for the rules each type definition of a specification that breaks no rule on names is what is known at its place
pub types_settled : (spec : Spec) (tokens : List PlacedToken) (rest : ℕ) → Spells spec tokens → FollowOneAnother 0 tokens rest → ((b : Breach) → NameRuleBroken spec b → ⊥)
    → AllByRecursion (IsSettled (env_of (names_of spec) ((sites.parts spec.parts).declares spec.span.start))) ((sites.parts spec.parts).declares spec.span.start)
types_settled spec tokens rest0 spells follow kept =
    let h = spells.whole in
    let ruled = (sites.parts spec.parts).declares spec.span.start in
    let whole = below_go (names_of spec) (events spec) ruled (λ before x steps rest here. use_found (events spec) kept (uses_apart spec tokens rest0 spells follow) before x need.Type steps rest here) (suc max_nesting) spec.parts h.after_heads h.after_parts h.parts spec.span.start in
    let apart : (p : ℕ) → count (nat_eq p) (places ruled) ≤ 1 = λ p.
    let a = whole.few.most (nat_eq p) in
    let b = (parts_less spec (input tokens 0) (input [] spells.end) h).most (starts (nat_eq p)) in
    let c = once (nat_eq p) (λ n m e g. sym ((Decides-eqb p n).0 e) ∙ (Decides-eqb p m).0 g) 0 tokens rest0 follow in
    omega (arith, a, b, c) in
    (whole.follows apart (outermost spec) (Close ∷ Close ∷ []) [] [] (events_are spec) (sym (append-nil ruled)) ((λ g. absurd (cc)), ((λ g. absurd (cc)), ((λ g. absurd (cc)), tt)))).1
