-- The runs of every accepted specification have the form that a trace can tell.
use Rattle.std.proofs.Common.{◌≡◌, ℕ, zero, suc, ◌+◌, ◌<◌, ◌≤◌, true, List, [], ◌∷◌, length, map, Option, Some, None, refl, sym, subst, arith, inl, inr, ◌⊎◌, cond}
use Rattle.std.specs.Prelude.{◌^◌, flat_map, option_to_list, option_map, option_and_then, unwrap_or}
use Rattle.std.specs.List.{AllByRecursion}
use Rattle.std.proofs.lemmas.Bool.{cases_lt, lt-ltb}
use Rattle.estelle_tree.specs.declared.token.Placed.{Placed}
use Rattle.estelle_tree.specs.declared.tree.name.Name.{Name}
use Rattle.estelle_tree.specs.declared.tree.specification.Init.{Init}
use Rattle.estelle_tree.specs.declared.tree.specification.Spec.{Spec}
use Rattle.estelle_tree.specs.Lexed.{FollowOneAnother}
use Rattle.estelle_tree.specs.Spells.{Spells}
use Rattle.estelle_model.specs.declared.meaning.InteractionKind.{InteractionKind}
use Rattle.estelle_model.specs.declared.meaning.Meaning.{Meaning}
use Rattle.estelle_model.specs.declared.meaning.Meaning.TheVariants.{Interaction}
use Rattle.estelle_model.specs.Definitions.{types_received}
use Rattle.estelle_model.specs.Denoted.{Declarations}
use Rattle.estelle_model.specs.Names.{meant_by, declared}
use Rattle.estelle_model.specs.Bodies.{BodyAlone, bodies, bodies_declare, Way, ways_of}
use Rattle.estelle_model.specs.Meant.{Meanings}
use Rattle.estelle_model.specs.Transitions.{Choice, Transition, flat_one, choices_on, flat_way, flat}
use Rattle.estelle_model.specs.Subject.{Subject, meant, meant_with, body, transitions_of, transitions, numbered_one, transition, of_init, nothing_to_do, begins as subject_begins}
use Rattle.scope_rules.specs.declared.refusal.Breach.{Breach}
use Rattle.scope_rules.specs.NameRules.{IsOne, names_of}
use Rattle.type_rules.specs.declared.sites.PlacedSite.{PlacedSite}
use Rattle.type_rules.specs.declared.meanings.Meaning.{Meaning as RuleMeaning}
use Rattle.type_rules.specs.Meanings as meanings
use Rattle.type_rules.specs.SpecificationSites.{parts, env, sites}
use Rattle.type_rules.specs.PascalRules.{PascalRuleBroken}
use Rattle.tree_visits.specs.Visit.{Visit, Begins}
use Rattle.tree_visits.specs.Visits.{visit_of, visits}
use Rattle.scope_rules.specs.Least.{breach}
use Rattle.transition_expand.specs.Domains.{known}
use Rattle.transition_expand.specs.TransitionRules.{breaches, TransitionRuleBroken}
use Rattle.spec_accept.specs.Rules.{names}
use Rattle.accepted_states.specs.Laws.{KeepsRules}
use Rattle.accepted_states.proofs.FitBodies.{declared_apart}
use Rattle.trace_forms.specs.Types.{IsReadableType}
use Rattle.trace_forms.proofs.FilledTypes.{HasFilledArrays}
use Rattle.trace_forms.specs.Laws.{HasReadableParameters, ParametersAreReadable, RunsHaveForm}
use Rattle.trace_forms.proofs.TypePlaces.{types_settled}
use Rattle.trace_forms.proofs.Firm.{types_readable}
use Rattle.trace_forms.proofs.Named.{named_stmts, stmts_made}
use Rattle.trace_forms.proofs.Acts.{Told}
use Rattle.trace_forms.proofs.Firings.{IsTellable}
use Rattle.trace_forms.proofs.Declared.{BlockTold, BodyTold, Tells, bodies_say, declared_told}
use Rattle.trace_forms.proofs.Partners.{HasPartner}
use Rattle.trace_forms.proofs.PartnersSpelled.{specification_follows}
use Rattle.trace_forms.proofs.Kept.{SiteKept, PlacedKept, PlacedPartKept}
use Rattle.trace_forms.proofs.Held.{ParametersFilled, all_filled}
use Rattle.trace_forms.proofs.HeldBodies.{spec_held}
use Rattle.trace_forms.proofs.Spelled.{IsVisited, SpecTold, spelled_told}
use Rattle.trace_forms.proofs.Runs.{run_form}
use Rattle.trace_forms.proofs.Lists.{all_append, all_at, one_front, one_flat, all_ones, one_of_all}

-- ---- blocks

abbrev Named : Transition → Type 0
Named t = named_stmts t.block.body ≡ true

each_named : (means : List Choice → Meanings) (w : Way) → named_stmts w.block.body ≡ true → (cs : List (List Choice)) → AllByRecursion Named (map (flat_one means w) cs)
each_named means w h [] = tt
each_named means w h (c ∷ cs) = (h, each_named means w h cs)

flat_named : (means : List Choice → Meanings) (ws : List Way) → (ruled : meanings.Env) → AllByRecursion (λ (w : Way). BlockTold ruled w.block) ws → AllByRecursion Named (flat_map (flat_way means) ws)
flat_named means [] ruled h = tt
flat_named means (w ∷ ws) ruled h = all_append Named (flat_way means w) (flat_map (flat_way means) ws) (each_named means w h.0.0 (choices_on means w)) (flat_named means ws ruled h.1)

nothing_named : named_stmts nothing_to_do.block.body ≡ true
nothing_named = stmts_made (record { stmts = []; span = record { start = 0; end = 0 } })

module _ (ruled : meanings.Env) (s : Subject) (told : AllByRecursion (BodyTold ruled) (bodies s.specification)) where
  block_named : (k n : ℕ) (t : Transition) → transition s k n ≡ Some t → Named t
  block_named k n t e = by n (body s k) refl e
    where
      by : (n : ℕ) (o : Option BodyAlone) → body s k ≡ o → numbered_one (transitions_of s o) n ≡ Some t → Named t
      by zero o is f = absurd (cc)
      by (suc n) None is f = absurd (cc)
      by (suc n) (Some b) is f = all_at Named (flat (meant_with s) b) n t (flat_named (meant_with s) (ways_of b) ruled (all_at (BodyTold ruled) (bodies s.specification) k b told is).blocks) f

  init_named : (k : ℕ) → Told (subject_begins s k).block
  init_named k = by (body s k) refl
    where
      of_body : (o : Option Init) → AllByRecursion (λ (x : Init). BlockTold ruled x.block) (option_to_list o) → Told (unwrap_or (option_map (of_init (meant s)) o) nothing_to_do).block
      of_body None h = nothing_named
      of_body (Some x) h = h.0.0

      by : (o : Option BodyAlone) → body s k ≡ o → Told (unwrap_or (option_and_then (λ (b : BodyAlone). option_map (of_init (meant s)) b.init) o) nothing_to_do).block
      by None e = nothing_named
      by (Some b) e = of_body b.init (all_at (BodyTold ruled) (bodies s.specification) k b told e).init

-- ---- transitions

module _ (spec : Spec) (kept : KeepsRules spec) (seen : AllByRecursion (IsVisited (visits spec)) (bodies spec)) where
  abbrev own : Subject
  own = record { specification = spec; names = names_of spec }

  transition_broken : (b : Breach) → TransitionRuleBroken spec (names spec) b → ⊥
  transition_broken b h = kept b (inr (λ c g. kept c (inl g), inl (inr h)))

  not_too_many : (b : BodyAlone) → IsVisited (visits spec) b → length (flat (meant_with own) b) ≤ 4096
  not_too_many b v = by (cases_lt 4096 (length (flat (meant_with own) b)))
    where
      rules : Visit → List Breach
      rules = breaches (known (env spec (names spec)) spec) (meant_with own)

      there : Visit
      there = visit_of v.around (Begins v.routines b.trans)

      by : (4096 < length (flat (meant_with own) b)) ⊎ (length (flat (meant_with own) b) ≤ 4096) → length (flat (meant_with own) b) ≤ 4096
      by (inr h) = h
      by (inl h) = absurd (transition_broken (breach 33 v.around.span) (one_flat rules there (breach 33 v.around.span) (visits spec) v.is_one (one_front (breach 33 v.around.span) _ [] (subst (λ c. IsOne (breach 33 v.around.span) (cond c (breach 33 v.around.span ∷ []) [])) (sym (lt-ltb 4096 (length (flat (meant_with own) b)) h)) (inl refl)))))

  few_of : (k : ℕ) → length (transitions own k) ≤ 4096
  few_of k = by (body own k) refl
    where
      by : (o : Option BodyAlone) → body own k ≡ o → length (transitions_of own o) ≤ 4096
      by None e = omega arith
      by (Some b) e = not_too_many b (all_at (IsVisited (visits spec)) (bodies spec) k b seen e)

-- ---- together

-- tokens stand in as many bytes at least
few_tokens : (from : ℕ) (tokens : List Placed) (to : ℕ) → FollowOneAnother from tokens to → from + length tokens ≤ to
few_tokens from [] to h = omega (arith, h)
few_tokens from (t ∷ tokens) to h = let a = h.0 in let b = h.1 in let c = few_tokens t.span.end tokens to h.2 in omega (arith, a, b, c)

few_in : (tokens : List Placed) (rest : ℕ) → FollowOneAnother 0 tokens rest → rest ≤ 2 ^ 32 → length tokens ≤ 2 ^ 32
few_in tokens rest follow top = let a = few_tokens 0 tokens rest follow in omega (arith, a, top)

interaction_readable : (r : RuleMeaning) (kind : InteractionKind) → Tells r (Interaction kind) → AllByRecursion HasFilledArrays kind.parameters → AllByRecursion IsReadableType kind.parameters
interaction_readable r kind told filled = types_readable kind.parameters told.1 filled

-- ---- what the rules know

module _ (spec : Spec) (kept : KeepsRules spec) where
  -- what the specification declares for the rules
  abbrev ruled : meanings.Declarations
  ruled = (parts spec.parts).declares spec.span.start

  -- what the rules know of it
  abbrev ruled_env : meanings.Env
  ruled_env = meanings.env_of (names_of spec) ruled

  pascal_broken : (b : Breach) → PascalRuleBroken spec (names spec) b → ⊥
  pascal_broken b h = kept b (inr (λ c g. kept c (inl g), inr h))

  -- no rule on types is broken
  sites_kept : PlacedKept ((parts spec.parts).sites ruled_env spec.span.start)
  unfolding sites env
  sites_kept = all_ones (λ (p : PlacedSite). SiteKept p.site) ((parts spec.parts).sites ruled_env spec.span.start)
      (λ p one at. (λ h. pascal_broken (breach 40 at) (p, (one, inl (refl, h))), λ h. pascal_broken (breach 44 at) (p, (one, inr (inr (inr (inr (inl (refl, h)))))))))

  module _ (tokens : List Placed) (rest : ℕ) (spells : Spells spec tokens) (follow : FollowOneAnother 0 tokens rest) (few : length tokens ≤ 2 ^ 32) where
    -- what it declares for the model
    abbrev declarations : Declarations
    declarations = bodies_declare 0 (bodies spec)

    parts_kept : PlacedPartKept ruled_env spec.span.start (parts spec.parts)
    parts_kept = (sites_kept, types_settled spec tokens rest spells follow (λ b h. kept b (inl h)))

    told : SpecTold ruled_env spec
    told = spelled_told ruled_env spec tokens spells few parts_kept

    partnered : (d : meanings.Declaration) → IsOne d ruled → HasPartner (λ x. IsOne x declarations) d
    partnered d o = one_of_all (HasPartner (λ x. IsOne x declarations)) ruled d (specification_follows (λ x. IsOne x declarations) spec tokens spells spec.span.start (λ x h. h)) o

    -- what is told of what each name means
    names_told : (x : Name) → Tells (meanings.known ruled_env x) (meant_by (names_of spec) (declared (names_of spec) declarations) x)
    names_told = declared_told (names_of spec) ruled (bodies spec) (declared_apart spec tokens rest spells follow) partnered told.told

    -- in the types of the parameters of interactions no array is empty
    names_filled : (x : Name) → ParametersFilled (meant_by (names_of spec) (declared (names_of spec) declarations) x)
    names_filled =
        let h = spec_held spec tokens rest spells follow few (λ b h. kept b (inl h)) ruled_env parts_kept in
        all_filled (names_of spec) ruled declarations (declared_apart spec tokens rest spells follow) partnered h.0 (bodies_say ruled_env 0 (bodies spec) told.told) h.1

    own_readable : HasReadableParameters (own spec kept told.seen)
    own_readable x kind is = interaction_readable (meanings.known ruled_env x) kind (subst (Tells (meanings.known ruled_env x)) is (names_told x)) (subst ParametersFilled is (names_filled x))

pub parameters_are_readable : ParametersAreReadable
parameters_are_readable spec uses tokens rest spells follow top is kept =
    subst (λ us. HasReadableParameters (record { specification = spec; names = us })) (sym is) (own_readable spec kept tokens rest spells follow (few_in tokens rest follow top))

parameters_readable : (m : Meaning) → ((kind : _) → m ≡ Interaction kind → AllByRecursion IsReadableType kind.parameters) → AllByRecursion IsReadableType (types_received m)
parameters_readable (Interaction kind) h = h kind refl
parameters_readable _ h = tt

own_tellable : (spec : Spec) (tokens : List Placed) (rest : ℕ) → Spells spec tokens → FollowOneAnother 0 tokens rest → length tokens ≤ 2 ^ 32 → KeepsRules spec → HasReadableParameters (record { specification = spec; names = names_of spec }) → IsTellable (record { specification = spec; names = names_of spec })
own_tellable spec tokens rest spells follow few kept readable =
    let s : Subject = record { specification = spec; names = names_of spec } in
    let t = told spec kept tokens rest spells follow few in
    record {
      told = λ x. (names_told spec kept tokens rest spells follow few x).0;
      begins = init_named (ruled_env spec kept) s t.told;
      blocks = block_named (ruled_env spec kept) s t.told;
      few = few_of spec kept t.seen;
      types = λ x. parameters_readable (meant s x) (readable x);
    }

pub runs_have_form : RunsHaveForm
runs_have_form spec uses tokens rest spells follow top is kept budget events e run closes fits =
    let readable = parameters_are_readable spec uses tokens rest spells follow top is kept in
    let tellable = own_tellable spec tokens rest spells follow (few_in tokens rest follow top) kept (subst (λ us. HasReadableParameters (record { specification = spec; names = us })) is readable) in
    run_form (record { specification = spec; names = uses }) (subst (λ us. IsTellable (record { specification = spec; names = us })) (sym is) tellable) budget events run e closes fits
