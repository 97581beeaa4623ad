-- A specification whose names stand at places of their own, and that breaks no rule, leads to states of its own.
use Rattle.std.proofs.Common.{◌≡◌, ◌∙◌, ℕ, zero, suc, ◌+◌, ◌≤◌, ◌<◌, Bool, true, false, nat_eq, List, [], ◌∷◌, ◌++◌, length, Option, Some, None, refl, ap, sym, subst, arith, map}
use Rattle.std.specs.Prelude.{option_map, option_and_then, unwrap_or}
use Rattle.estelle_tree.specs.declared.span.Span.{Span}
use Rattle.estelle_tree.specs.declared.token.Placed.{Placed}
use Rattle.estelle_tree.specs.declared.names.Use.{Use as Used}
use Rattle.estelle_tree.specs.declared.tree.name.Name.{Name}
use Rattle.estelle_tree.specs.declared.tree.clause.NextState.{NextState}
use Rattle.estelle_tree.specs.declared.tree.clause.NextState.TheVariants as next_state
use Rattle.estelle_tree.specs.declared.tree.clause.Clause.{Clause}
use Rattle.estelle_tree.specs.declared.tree.clause.Clause.TheVariants as clause
use Rattle.estelle_tree.specs.declared.tree.specification.Init.{Init}
use Rattle.estelle_tree.specs.declared.tree.specification.Spec.{Spec}
use Rattle.estelle_tree.specs.Input.{Input, input}
use Rattle.estelle_tree.specs.Lexed.{FollowOneAnother}
use Rattle.estelle_tree.specs.declared.tree.specification.Head.{Head}
use Rattle.estelle_tree.specs.declared.tree.specification.Head.TheVariants as head
use Rattle.estelle_tree.specs.declared.required.RequiredIdentifier.{RequiredIdentifier}
use Rattle.estelle_tree.specs.declared.required.RequiredIdentifier.TheVariants as identifier
use Rattle.estelle_tree.specs.Required.{identifiers}
use Rattle.estelle_tree.specs.Spelling.{Chain}
use Rattle.estelle_tree.specs.Specification.{IsSpec, IsHead}
use Rattle.estelle_tree.specs.Spells.{Spells, max_nesting}
use Rattle.estelle_model.specs.declared.meaning.Meaning.TheVariants.{State}
use Rattle.estelle_model.specs.Bodies.{BodyAlone, bodies, bodies_declare, states_in, default_of}
use Rattle.estelle_model.specs.Transitions.{Transition, state_at, to_of, next_state as next_of, flat}
use Rattle.estelle_model.specs.Subject.{Subject, meant, meant_with, body, begins, initial_state, of_init, nothing_to_do, transition, transitions_of, numbered_one}
use Rattle.estelle_model_legality.specs.Instances.{IsStateOf}
use Rattle.body_table.proofs.BodyEquations as body_equations
use Rattle.std.proofs.lemmas.Bool.Decides.{Decides-eqb}
use Rattle.scope_rules.specs.declared.declaration.Denotes.TheVariants as d
use Rattle.scope_rules.specs.declared.declaration.Inside.TheVariants.{Nothing}
use Rattle.scope_rules.specs.declared.event.ScopeForm.TheVariants as scope
use Rattle.scope_rules.specs.declared.event.Event.TheVariants.{Open, Close}
use Rattle.scope_rules.specs.declared.refusal.Breach.{Breach}
use Rattle.scope_rules.specs.TypeEvents.{Events}
use Rattle.scope_rules.specs.SpecificationEvents.{events, required, denotes_required, required_event, required_events, states_of, parts}
use Rattle.scope_rules.specs.declared.declaration.Members.TheVariants as members
use Rattle.scope_rules.specs.Scopes.{start, after, after_one}
use Rattle.scope_rules.specs.NameRules.{NameRuleBroken, names_of}
use Rattle.accepted_states.proofs.Lists.{Each, each_at, count, one_if, count-append, flat-append}
use Rattle.accepted_states.proofs.Uses.{AreUsesApart, starts_at, uses, uses_in, Say, say_front, say_back, all_say}
use Rattle.accepted_states.proofs.Scopes.{Stands, Steady, steady_append, plain_nil, plain_declare, opened}
use Rattle.accepted_states.proofs.Fine.{among, Less, less_same, less_takes, less_more, name_less}
use Rattle.accepted_states.proofs.FineSpecification.{queue_less, may_be_sys_attr_less}
use Rattle.accepted_states.proofs.Bodies.{BodyKnown, BodyEnds, nowhere, Ends, PartsKnown, parts_known}
use Rattle.accepted_states.proofs.Walk.{IsKnown, IsNextKnown, ClauseKnown, IsFirstKnown, IsInitKnown}
use Rattle.accepted_states.proofs.Declared.{AreApart, number_of, state_meant}
use Rattle.accepted_states.proofs.Ways.{flat_each, to_each}

-- ---- tokens whose spans follow one another

pub reach : (t : Span → Bool) (from : ℕ) (ts : List Placed) (to : ℕ) → FollowOneAnother from ts to → ((s : Span) → from ≤ s.start → s.start < s.end → t s ≡ false) → count (λ (p : Placed). t p.span) ts ≡ 0
reach t from [] to h none = refl
reach t from (p ∷ ps) to h none =
    let a = ap one_if (none p.span h.0 h.1) in
    let b0 = h.0 in
    let b1 = h.1 in
    let b = reach t p.span.end ps to h.2 (λ s l m. none s (omega (arith, l, b0, b1)) m) in
    omega (arith, a, b)

unequal : (n p : ℕ) → (n ≡ p → ⊥) → nat_eq n p ≡ false
unequal n p h = by (nat_eq n p) refl
  where
    by : (b : Bool) → nat_eq n p ≡ b → b ≡ false
    by true e = absurd (h ((Decides-eqb n p).0 e))
    by false e = refl

-- of the tokens one begins at a place that a test tells
pub once : (t : ℕ → Bool) → ((n m : ℕ) → t n ≡ true → t m ≡ true → n ≡ m) → (from : ℕ) (ts : List Placed) (to : ℕ) → FollowOneAnother from ts to → count (λ (q : Placed). t q.span.start) ts ≤ 1
once t same from [] to h = omega arith
once t same from (q ∷ qs) to h = by (t q.span.start) refl (once t same q.span.end qs to h.2)
  where
    no : (s : Span) → t q.span.start ≡ true → q.span.end ≤ s.start → (b : Bool) → t s.start ≡ b → b ≡ false
    no s e l true f = let is = same q.span.start s.start e f in let longer = h.1 in absurd (omega (arith, is, longer, l))
    no s e l false f = refl

    by : (b : Bool) → t q.span.start ≡ b → count (λ (q : Placed). t q.span.start) qs ≤ 1 → one_if b + count (λ (q : Placed). t q.span.start) qs ≤ 1
    by false e more = omega (arith, more)
    by true e more =
        let none = reach (λ s. t s.start) q.span.end qs to h.2 (λ s l m. no s e l (t s.start) refl) in
        omega (arith, none)

pub none_nowhere : (tokens : List Placed) (rest : ℕ) → FollowOneAnother 0 tokens rest → among nowhere (input tokens 0) ≡ 0
none_nowhere tokens rest h = reach nowhere 0 tokens rest h (λ s l m. unequal s.end 0 (λ f. absurd (omega (arith, l, m, f))))

-- ---- before the parts of a specification

head_less : (x : Head) (i j : Input) → IsHead x i j → Less i j
head_less (head.Default x span) i j h = less_more (less_takes h.0.opens) (less_more (queue_less (Some x) h.0.at h.0.mid h.0.inside) (less_takes h.0.closes))
head_less (head.Timescale unit span) i j h = less_more (less_takes h.0.opens) (less_more (name_less h.0.inside) (less_takes h.0.closes))

pub heads_less : (xs : List Head) (i j : Input) → Chain IsHead xs i j → Less i j
heads_less [] i j h = less_same h
heads_less (x ∷ xs) i j h = less_more (head_less x i h.0 h.1) (heads_less xs h.0 j h.2)

pub parts_less : (spec : Spec) (i j : Input) (h : IsSpec max_nesting spec i j) → Less i h.after_heads
parts_less spec i j h =
    less_more (less_takes h.name.mark) (less_more (name_less h.name.item) (less_more (may_be_sys_attr_less spec.attr h.after_name h.after_attr h.attr)
    (less_more (less_takes h.semicolon) (heads_less spec.heads h.after_head h.after_heads h.heads.heads))))

no_state : (r : RequiredIdentifier) → denotes_required r ≡ d.State → ⊥
no_state identifier.Integer e = cc
no_state identifier.Boolean e = cc
no_state identifier.Char e = cc
no_state identifier.False e = cc
no_state identifier.True e = cc
no_state identifier.Maxint e = cc
no_state (identifier.Function f) e = cc

all_stand : (rs : List (List ℕ × RequiredIdentifier)) → Steady [] (map (λ r. required_event r.0 r.1) rs)
all_stand [] = plain_nil []
all_stand (r ∷ rs) = steady_append [] (required_event r.0 r.1 ∷ []) (map (λ r. required_event r.0 r.1) rs) (plain_declare (required r.0 ∷ []) (denotes_required r.1) Nothing (no_state r.1) []) (all_stand rs)

pub required_stand : Steady [] required_events
required_stand = all_stand identifiers

-- the events before the parts
abbrev pub outermost : Spec → Events
outermost spec = Open scope.Inner ∷ (required_events ++ (states_of spec.span (parts spec.parts) ++ Open scope.Body ∷ []))

pub events_are : (spec : Spec) → events spec ≡ outermost spec ++ ((parts spec.parts).events ++ Close ∷ Close ∷ [])
unfolding events
events_are spec = refl

-- ---- from the whole specification

module _ (spec : Spec) (tokens : List Placed) (rest : ℕ) (spells : Spells spec tokens) (follow : FollowOneAnother 0 tokens rest) where
  abbrev i : Input
  i = input tokens 0

  abbrev h : IsSpec max_nesting spec i (input [] spells.end)
  h = spells.whole

  abbrev E : Events
  E = (parts spec.parts).events

  in_parts : PartsKnown (default_of spec.heads) spec.parts h.after_heads h.after_parts
  in_parts = parts_known (default_of spec.heads) max_nesting spec.parts h.after_heads h.after_parts h.parts

  -- each name in use stands at a place of its own
  pub uses_apart : AreUsesApart (events spec)
  uses_apart p =
      let t : Span → Bool = λ s. nat_eq s.start p in
      let a = ap (λ es. count (starts_at p) (uses_in es)) (events_are spec) in
      let b = ap (count (starts_at p)) (flat-append uses E (Close ∷ Close ∷ [])) ∙ count-append (starts_at p) (uses_in E) [] in
      let c = in_parts.going.few (λ s. nat_eq s.start p) in
      let e = (parts_less spec i (input [] spells.end) h).most (λ s. nat_eq s.start p) in
      let f = once (λ n. nat_eq n p) (λ n m e g. (Decides-eqb n p).0 e ∙ sym ((Decides-eqb m p).0 g)) 0 tokens rest follow in
      omega (arith, a, b, c, e, f)

  abbrev names : List Used
  names = names_of spec

  module _ (kept : (b : Breach) → NameRuleBroken spec b → ⊥) where
    said : Say names start (events spec)
    said = all_say (events spec) kept uses_apart

    -- all bodies lead to states that are known
    pub all_known : Each (BodyKnown names) (bodies spec)
    all_known =
        let say = subst (Say names start) (events_are spec) said in
        let s1 = after_one start (Open scope.Inner) in
        let st1 : Stands [] scope.Inner [] s1 = record { top = record { form = scope.Inner; names = []; within = members.Nothing }; levels = refl; form = refl; own = tt; kept = tt } in
        let st2 = required_stand scope.Inner [] s1 st1 in
        let s2 = after s1 required_events in
        let s3 = after_one s2 (Open scope.Body) in
        let st3 = opened [] [] scope.Inner scope.Body [] s2 st2 in
        let said_there = say_back names s1 required_events (states_of spec.span (parts spec.parts) ++ (Open scope.Body ∷ (E ++ Close ∷ Close ∷ []))) say.1 in
        let rule = said_there.0 in
        let last = say_front names s3 E (Close ∷ Close ∷ []) said_there.1.1 in
        subst (Each (BodyKnown names)) (sym (body_equations.parts_is (default_of spec.heads) spec.parts)) (in_parts.known names None None s2.levels s3 st3 rule last)

    pub all_ended : Each BodyEnds (bodies spec)
    all_ended =
        let a = none_nowhere tokens rest follow in
        let b = (parts_less spec i (input [] spells.end) h).most nowhere in
        subst (Each BodyEnds) (sym (body_equations.parts_is (default_of spec.heads) spec.parts)) (in_parts.ended None None (omega (arith, a, b)))

    module _ (apart : AreApart (bodies_declare 0 (bodies spec))) where
      abbrev s : Subject
      s = record { specification = spec; names = names_of spec }

      -- a name that is known as a state means one of the body's
      record MeansState (b : BodyAlone) (x : Name) : Type 0 where
        pub number : ℕ
        pub below : number < length (states_in b)
        pub is : meant s x ≡ State number

      means_state : (k : ℕ) (b : BodyAlone) (x : Name) → body s k ≡ Some b → IsKnown (states_in b) names x → MeansState b x
      means_state k b x here known =
          let at = number_of (states_in b) known.state known.one in
          let end = each_at Ends (states_in b) at.number known.state (each_at BodyEnds (bodies spec) k b all_ended here) at.is in
          let some : known.state.span.end ≡ 0 → ⊥ = λ e. (let f : true ≡ false = sym ((Decides-eqb known.state.span.end 0).1 e) ∙ end in cc) in
          record { number = at.number; below = at.below; is = state_meant names spec k b x known.state at apart here some known.known }

      known_at : (k : ℕ) (b : BodyAlone) → body s k ≡ Some b → BodyKnown names b
      known_at k b here = each_at (BodyKnown names) (bodies spec) k b all_known here

      -- ---- the initialization

      none_of : (b : BodyAlone) → states_in b ≡ [] → length (states_in b) ≡ 0
      none_of b e = ap length e

      first_to : (k : ℕ) (b : BodyAlone) (to : Option Name) → body s k ≡ Some b → IsFirstKnown (states_in b) names to → IsStateOf (length (states_in b)) (initial_state (meant s) to)
      first_to k b None here known = none_of b known
      first_to k b (Some x) here known = let m = means_state k b x here known in subst (λ o. IsStateOf (length (states_in b)) (state_at (meant s) o)) (sym m.is) m.below

      first_of : (k : ℕ) (b : BodyAlone) (o : Option Init) → body s k ≡ Some b → IsInitKnown (states_in b) names o → IsStateOf (length (states_in b)) (unwrap_or (option_map (of_init (meant s)) o) nothing_to_do).to
      first_of k b None here known = none_of b known
      first_of k b (Some x) here known = first_to k b x.to here known

      pub initial : (k : ℕ) (b : BodyAlone) → body s k ≡ Some b → IsStateOf (length (states_in b)) (begins s k).to
      initial k b here =
          subst (λ o. IsStateOf (length (states_in b)) (unwrap_or (option_and_then (λ c. option_map (of_init (meant s)) c.init) o) nothing_to_do).to) (sym here)
          (first_of k b b.init here (known_at k b here).initial)

      -- ---- transitions

      abbrev Below : BodyAlone → Option ℕ → Type 0
      Below b o = (n : ℕ) → o ≡ Some n → n < length (states_in b)

      next_to : (k : ℕ) (b : BodyAlone) (n : NextState) → body s k ≡ Some b → IsNextKnown (states_in b) names n → Below b (next_of (meant s) n)
      next_to k b (next_state.Name x) here known n e =
          let m = means_state k b x here known in
          let same : Some m.number ≡ Some n = ap (state_at (meant s)) (sym m.is) ∙ e in
          let is : m.number ≡ n = cc in
          subst (λ j. j < length (states_in b)) is m.below
      next_to k b next_state.Same here known n e = absurd (cc)

      clause_to : (k : ℕ) (b : BodyAlone) (c : Clause) → body s k ≡ Some b → ClauseKnown (states_in b) names c → Below b (to_of (meant s) c)
      clause_to k b (clause.To state span) here known n e = next_to k b state here known n e
      clause_to k b (clause.From states span) here known n e = absurd (cc)
      clause_to k b (clause.When ip x params span) here known n e = absurd (cc)
      clause_to k b (clause.Provided condition span) here known n e = absurd (cc)
      clause_to k b (clause.Priority value span) here known n e = absurd (cc)
      clause_to k b (clause.Any domains span) here known n e = absurd (cc)
      clause_to k b (clause.Delay low high span) here known n e = absurd (cc)

      all_to : (k : ℕ) (b : BodyAlone) → body s k ≡ Some b → Each (λ (t : Transition). Below b t.to) (flat (meant_with s) b)
      all_to k b here =
          flat_each (ClauseKnown (states_in b) names) (meant_with s) (λ (t : Transition). Below b t.to)
          (λ w chosen holds. to_each (ClauseKnown (states_in b) names) (Below b) (to_of (meant s)) (λ n e. absurd (cc)) (λ c known. clause_to k b c here known) w.clauses holds)
          b (known_at k b here).clauses

      at_number : (T : Transition → Type 0) (ts : List Transition) (n : ℕ) (t : Transition) → Each T ts → numbered_one ts n ≡ Some t → T t
      at_number T ts zero t h e = absurd (cc)
      at_number T ts (suc n) t h e = each_at T ts n t h e

      pub next : (k n : ℕ) (b : BodyAlone) (t : Transition) (state : ℕ) → body s k ≡ Some b → transition s k n ≡ Some t → t.to ≡ Some state → state < length (states_in b)
      next k n b t state here there to = at_number (λ (t : Transition). Below b t.to) (flat (meant_with s) b) n t (all_to k b here) (ap (λ o. numbered_one (transitions_of s o) n) (sym here) ∙ there) state to
