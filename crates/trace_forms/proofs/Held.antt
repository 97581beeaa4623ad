-- What a run knows where each declaration speaks: where what is named there is known, no parameter's type has an empty array.
use Rattle.std.proofs.Common.{◌≡◌, ◌∙◌, ℕ, ◌+◌, ◌≤◌, Bool, true, false, nat_eq, List, [], ◌∷◌, ◌++◌, map, fold, Option, Some, None, refl, ap, sym, subst, arith, append_assoc, cond, inl, inr}
use Rattle.std.specs.Prelude.{if◌then◌else◌}
use Rattle.std.specs.List.{AllByRecursion}
use Rattle.std.specs.Str.{bytes_eq}
use Rattle.std.specs.Map.{lookup}
use Rattle.std.proofs.lemmas.Bool.Decides.{Decides-eqb}
use Rattle.estelle_tree.specs.declared.names.Use.{Use}
use Rattle.estelle_tree.specs.declared.span.Span.{Span}
use Rattle.estelle_tree.specs.declared.tree.name.Name.{Name}
use Rattle.scope_rules.specs.declared.declaration.Denotes.{Denotes}
use Rattle.scope_rules.specs.declared.declaration.Denotes.TheVariants as d
use Rattle.scope_rules.specs.NameRules.{IsOne}
use Rattle.type_rules.specs.declared.meanings.Meaning.{Meaning as RuleMeaning}
use Rattle.type_rules.specs.Meanings as rules
use Rattle.type_rules.specs.Meanings.{Env, entity_at, env_of}
use Rattle.estelle_model.specs.declared.meaning.Meaning.{Meaning}
use Rattle.estelle_model.specs.declared.meaning.Meaning.TheVariants as mean
use Rattle.estelle_model.specs.Meant.{Meanings}
use Rattle.estelle_model.specs.Denoted.{Declaration, Declarations}
use Rattle.estelle_model.specs.Names.{required, or_other, required_meaning, Declared, at_place, meaning_at, declaration_of, meant_by, with_one, with_all, none_yet, declared}
use Rattle.accepted_states.proofs.Lists.{count, one_if}
use Rattle.accepted_states.proofs.Declared.{IsFixed, weight, weight-append, AreApart}
use Rattle.trace_forms.proofs.FilledTypes.{HasFilledArrays}
use Rattle.trace_forms.proofs.Environments.{named_alike}
use Rattle.trace_forms.proofs.Partners.{HasPartner, AlikeAt, meant_alike, more_alike, each_one}
use Rattle.trace_forms.proofs.Declared.{AllTold, TellsAt, AllSay, meant_told, reversed}
use Rattle.trace_forms.proofs.Filled.{IsConstant, TypeFilled}
use Rattle.trace_forms.proofs.Lists.{all_append, one_back, one_of_all}

-- ---- what is known so far

-- what is declared as a constant or as a type, by places
abbrev pub Known : Type 0
Known = List (Denotes × ℕ)

-- what is asked of what a name means that is declared as this
abbrev pub MeantHeld : Denotes → RuleMeaning → Meaning → Type 0
MeantHeld d.Constant r m = IsConstant m
MeantHeld d.Type r m = TypeFilled r m
MeantHeld k r m = Unit {0}

-- in the types of the parameters of an interaction no array is empty
abbrev pub ParametersFilled : Meaning → Type 0
ParametersFilled (mean.Interaction kind) = AllByRecursion HasFilledArrays kind.parameters
ParametersFilled _ = Unit {0}

-- names : what is known of the names in use; env : what the rules know
module _ (names : List Use) (env : Env) where
  -- what is known is held by what names mean; a required identifier means the same for all
  pub record KnownHeld (K : Known) (meant : Meanings) : Type 0 where
    pub held : (x : Name) (at : Span) (k : Denotes) → declaration_of names x ≡ Some at → nat_eq at.end 0 ≡ false → IsOne (k, at.start) K → MeantHeld k (rules.known env x) (meant x)
    pub required : (x : Name) (at : Span) → declaration_of names x ≡ Some at → nat_eq at.end 0 ≡ true → (rules.known env x ≡ rules.required_meaning x.word) × (meant x ≡ required_meaning x.word)

  -- it is held by what is said at its place
  abbrev pub SaidHeld : List (ℕ × Meaning) → Denotes × ℕ → Type 0
  SaidHeld es e = (m : Meaning) × (IsOne (e.1, m) es × MeantHeld e.0 (entity_at env e.1).meaning m)

  -- where so much is known, a declaration says what is held, and of interactions that their parameters are filled
  abbrev pub SaysHeld : Known → Known → Declaration → Type 0
  SaysHeld K ks x = (meant : Meanings) → AllTold env meant → KnownHeld K meant → AllByRecursion (λ (e : ℕ × Meaning). ParametersFilled e.1) (x.says meant) × AllByRecursion (SaidHeld (x.says meant)) ks

  -- declarations one after another lead from what is known before them to what is known behind them
  abbrev pub AllHeld : Known → Declarations → Known → Type 0
  AllHeld K [] L = K ≡ L
  AllHeld K (x ∷ ds) L = (ks : Known) × (SaysHeld K ks x × AllHeld (ks ++ K) ds L)

  pub held_append : (K L M : Known) (ds es : Declarations) → AllHeld K ds L → AllHeld L es M → AllHeld K (ds ++ es) M
  held_append K L M [] es h g = subst (λ k. AllHeld k es M) (sym h) g
  held_append K L M (x ∷ ds) es h g = (h.0, (h.1.0, held_append (h.0 ++ K) L M ds es h.1.1 g))

-- ---- lists

-- with more entries of other places the same is found
others_found : (p : ℕ) (so_far : Declared) (es : List (ℕ × Meaning)) → count (nat_eq p) (map (λ e. e.0) es) ≡ 0 → lookup (nat_eq p) (fold (λ k e. e ∷ k) so_far es) ≡ lookup (nat_eq p) so_far
others_found p so_far [] h = refl
others_found p so_far (e ∷ es) h = by (λ c. others_found p (e ∷ so_far) es c) (nat_eq p e.0) refl h
  where
    by : (count (nat_eq p) (map (λ e. e.0) es) ≡ 0 → lookup (nat_eq p) (fold (λ k e. e ∷ k) (e ∷ so_far) es) ≡ lookup (nat_eq p) (e ∷ so_far))
        → (b : Bool) → nat_eq p e.0 ≡ b → one_if b + count (nat_eq p) (map (λ e. e.0) es) ≡ 0 → lookup (nat_eq p) (fold (λ k e. e ∷ k) (e ∷ so_far) es) ≡ lookup (nat_eq p) so_far
    by more true g c = absurd (omega (arith, c))
    by more false g c = more (omega (arith, c)) ∙ ap (λ b. cond b (Some e.1) (lookup (nat_eq p) so_far)) g

-- the one entry of a place is found
entry_found : (p : ℕ) (m : Meaning) (so_far : Declared) (es : List (ℕ × Meaning)) → IsOne (p, m) es → count (nat_eq p) (map (λ e. e.0) es) ≤ 1 → lookup (nat_eq p) (fold (λ k e. e ∷ k) so_far es) ≡ Some m
entry_found p m so_far [] o c = absurd o
entry_found p m so_far (e ∷ es) (inl is) c =
    let g : nat_eq p e.0 ≡ true = ap (λ (x : ℕ × Meaning). nat_eq p x.0) (sym is) ∙ (Decides-eqb p p).1 refl in
    let one = ap one_if g in
    others_found p (e ∷ so_far) es (omega (arith, c, one)) ∙ ap (λ b. cond b (Some e.1) (lookup (nat_eq p) so_far)) g ∙ ap (λ (x : ℕ × Meaning). Some x.1) (sym is)
entry_found p m so_far (e ∷ es) (inr o) c = entry_found p m (e ∷ so_far) es o (omega (arith, c))

-- what is found is an entry
found_filled : (p : ℕ) (es : Declared) → AllByRecursion (λ (e : ℕ × Meaning). ParametersFilled e.1) es → ParametersFilled (or_other (lookup (nat_eq p) es))
found_filled p [] h = tt
found_filled p (e ∷ es) h = by (nat_eq p e.0) (found_filled p es h.1)
  where
    by : (b : Bool) → ParametersFilled (or_other (lookup (nat_eq p) es)) → ParametersFilled (or_other (cond b (Some e.1) (lookup (nat_eq p) es)))
    by true more = h.0
    by false more = more

with_filled : (es : List (ℕ × Meaning)) (so_far : Declared) → AllByRecursion (λ (e : ℕ × Meaning). ParametersFilled e.1) es → AllByRecursion (λ (e : ℕ × Meaning). ParametersFilled e.1) so_far → AllByRecursion (λ (e : ℕ × Meaning). ParametersFilled e.1) (fold (λ k e. e ∷ k) so_far es)
with_filled [] so_far h g = g
with_filled (e ∷ es) so_far h g = with_filled es (e ∷ so_far) h.1 (h.0, g)

-- ---- from the first declaration to the last

module _ (names : List Use) (ruled : rules.Declarations) (all : Declarations) (apart : AreApart all) (partnered : (x : rules.Declaration) → IsOne x ruled → HasPartner (λ y. IsOne y all) x) where
  abbrev env : Env
  env = env_of names ruled

  abbrev PlaceHeld : Declared → Denotes × ℕ → Type 0
  PlaceHeld so_far e = MeantHeld e.0 (entity_at env e.1).meaning (at_place so_far e.1)

  abbrev IsBefore : Declarations → Denotes × ℕ → Type 0
  IsBefore front e = 1 ≤ weight (nat_eq e.1) front

  -- what is held at places is held by what names mean
  known_held : (K : Known) (so_far : Declared) → AllByRecursion (PlaceHeld so_far) K → KnownHeld names env K (meant_by names so_far)
  unfolding rules.known
  known_held K so_far h = record {
    held = λ x at k is ends one.
        subst (λ (o : Option Span). MeantHeld k (rules.meaning_by env x o) (meaning_at so_far x (declaration_of names x))) (sym (named_alike names ruled x))
        (subst (λ (o : Option Span). MeantHeld k (rules.meaning_by env x o) (meaning_at so_far x o)) (sym is)
        (subst (λ b. MeantHeld k (if b then rules.required_meaning x.word else (entity_at env at.start).meaning) (if b then required_meaning x.word else at_place so_far at.start)) (sym ends) (one_of_all (PlaceHeld so_far) K (k, at.start) h one)));
    required = λ x at is ends. (
      ap (rules.meaning_by env x) (named_alike names ruled x ∙ is) ∙ ap (λ b. if b then rules.required_meaning x.word else (entity_at env at.start).meaning) ends,
      ap (meaning_at so_far x) is ∙ ap (λ b. if b then required_meaning x.word else at_place so_far at.start) ends,
    );
  }

  module _ (front rest : Declarations) (x : Declaration) (here : all ≡ front ++ x ∷ rest) (meant : Meanings) where
    -- at a place it says no more than once, and nothing where something is said before
    said_once : (p : ℕ) → weight (nat_eq p) front + count (nat_eq p) (map (λ e. e.0) (x.says meant)) ≤ 1
    said_once p =
        let most = apart.once p in
        let a = ap (weight (nat_eq p)) here ∙ weight-append (nat_eq p) front (x ∷ rest) in
        let b = ap (count (nat_eq p)) (each_one IsFixed all x apart.fixed (subst (IsOne x) (sym here) (one_back x front (x ∷ rest) (inl refl))) meant) in
        omega (arith, most, a, b)

    still_held : (K : Known) (so_far : Declared) → AllByRecursion (IsBefore front) K → AllByRecursion (PlaceHeld so_far) K → AllByRecursion (PlaceHeld (fold (λ k e. e ∷ k) so_far (x.says meant))) K
    still_held [] so_far b h = tt
    still_held (e ∷ es) so_far b h =
        let once = said_once e.1 in
        let before = b.0 in (
          subst (λ (o : Option Meaning). MeantHeld e.0 (entity_at env e.1).meaning (or_other o)) (sym (others_found e.1 so_far (x.says meant) (omega (arith, once, before)))) h.0,
          still_held es so_far b.1 h.1,
        )

    now_held : (ks : Known) (so_far : Declared) → AllByRecursion (SaidHeld names env (x.says meant)) ks → AllByRecursion (PlaceHeld (fold (λ k e. e ∷ k) so_far (x.says meant))) ks
    now_held [] so_far h = tt
    now_held (e ∷ es) so_far h =
        let once = said_once e.1 in (
          subst (λ (o : Option Meaning). MeantHeld e.0 (entity_at env e.1).meaning (or_other o)) (sym (entry_found e.1 h.0.0 so_far (x.says meant) h.0.1.0 (omega (arith, once)))) h.0.1.1,
          now_held es so_far h.1,
        )

    -- what it says stands before what comes behind it
    entry_counts : (p : ℕ) (m : Meaning) (es : List (ℕ × Meaning)) → IsOne (p, m) es → 1 ≤ count (nat_eq p) (map (λ e. e.0) es)
    entry_counts p m [] o = absurd o
    entry_counts p m (e ∷ es) (inl is) = let a : one_if (nat_eq p e.0) ≡ 1 = ap one_if (ap (λ (y : ℕ × Meaning). nat_eq p y.0) (sym is) ∙ (Decides-eqb p p).1 refl) in omega (arith, a)
    entry_counts p m (e ∷ es) (inr o) = let a = entry_counts p m es o in omega (arith, a)

    more_before : (p : ℕ) → weight (nat_eq p) (front ++ x ∷ []) ≡ weight (nat_eq p) front + count (nat_eq p) (map (λ e. e.0) (x.says meant))
    more_before p =
        let a = weight-append (nat_eq p) front (x ∷ []) in
        let b = ap (count (nat_eq p)) (each_one IsFixed all x apart.fixed (subst (IsOne x) (sym here) (one_back x front (x ∷ rest) (inl refl))) meant) in
        omega (arith, a, b)

    still_before : (K : Known) → AllByRecursion (IsBefore front) K → AllByRecursion (IsBefore (front ++ x ∷ [])) K
    still_before [] h = tt
    still_before (e ∷ es) h = (let a = more_before e.1 in let b = h.0 in omega (arith, a, b), still_before es h.1)

    now_before : (ks : Known) → AllByRecursion (SaidHeld names env (x.says meant)) ks → AllByRecursion (IsBefore (front ++ x ∷ [])) ks
    now_before [] h = tt
    now_before (e ∷ es) h = (let a = more_before e.1 in let b = entry_counts e.1 h.0.0 (x.says meant) h.0.1.0 in omega (arith, a, b), now_before es h.1)

  from_front : (K L : Known) (front ds : Declarations) (so_far : Declared) → all ≡ front ++ ds → AllSay env ds → AllHeld names env K ds L → AllByRecursion (TellsAt env) so_far → AllByRecursion (AlikeAt names ruled all apart partnered) so_far
      → AllByRecursion (IsBefore front) K → AllByRecursion (PlaceHeld so_far) K → AllByRecursion (λ (e : ℕ × Meaning). ParametersFilled e.1) so_far → AllByRecursion (λ (e : ℕ × Meaning). ParametersFilled e.1) (with_all names so_far ds)
  from_front K L front [] so_far here say held told alike before places filled = filled
  from_front K L front (x ∷ ds) so_far here say held told alike before places filled =
      let meant = meant_by names so_far in
      let known : AllTold env meant = (meant_told names ruled so_far told, meant_alike names ruled all apart partnered so_far alike) in
      let ks = held.0 in
      let says = held.1.0 meant known (known_held K so_far places) in
      let es = x.says meant in
      from_front (ks ++ K) L (front ++ x ∷ []) ds (with_one names so_far x) (here ∙ sym (append_assoc front (x ∷ []) ds)) say.1 held.1.1
      (reversed env es so_far (say.0 meant known) told)
      (more_alike names ruled all apart partnered front ds x here so_far alike)
      (all_append (IsBefore (front ++ x ∷ [])) ks K (now_before front ds x here meant ks says.1) (still_before front ds x here meant K before))
      (all_append (PlaceHeld (with_one names so_far x)) ks K (now_held front ds x here meant ks so_far says.1) (still_held front ds x here meant K so_far before places))
      (with_filled es so_far says.0 filled)

  -- no required identifier is an interaction
  required_filled : (w : List ℕ) → ParametersFilled (required_meaning w)
  required_filled w = looked_up required (tt, (tt, (tt, (tt, (tt, (tt, (tt, (tt, (tt, (tt, (tt, (tt, (tt, tt)))))))))))))
    where
      looked_up : (es : List (List ℕ × Meaning)) → AllByRecursion (λ (e : List ℕ × Meaning). ParametersFilled e.1) es → ParametersFilled (or_other (lookup (bytes_eq w) es))
      looked_up [] h = tt
      looked_up (e ∷ es) h = by (bytes_eq w e.0) (looked_up es h.1)
        where
          by : (b : Bool) → ParametersFilled (or_other (lookup (bytes_eq w) es)) → ParametersFilled (or_other (cond b (Some e.1) (lookup (bytes_eq w) es)))
          by true more = h.0
          by false more = more

  -- where each declaration has what it needs, the parameters of all interactions are filled
  pub all_filled : (L : Known) → AllSay env all → AllHeld names env [] all L → (x : Name) → ParametersFilled (meant_by names (declared names all) x)
  all_filled L say held x = by (declaration_of names x)
    where
      filled : AllByRecursion (λ (e : ℕ × Meaning). ParametersFilled e.1) (declared names all)
      filled = from_front [] L [] all none_yet refl say held tt tt tt tt tt

      placed : (at : Span) (b : Bool) → ParametersFilled (if b then required_meaning x.word else at_place (declared names all) at.start)
      placed at true = required_filled x.word
      placed at false = found_filled at.start (declared names all) filled

      by : (o : Option Span) → ParametersFilled (meaning_at (declared names all) x o)
      by None = tt
      by (Some at) = placed at (nat_eq at.end 0)
