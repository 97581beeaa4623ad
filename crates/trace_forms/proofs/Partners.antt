-- Each constant of the rules with a value is one that the model declares: so constants are alike, whatever was declared so far.
use Rattle.std.proofs.Common.{◌≡◌, ◌∙◌, ℕ, ◌≤◌, Bool, true, false, nat_eq, List, [], ◌∷◌, ◌++◌, map, fold, Option, Some, None, refl, ap, sym, subst, arith, cond, inl, inr, ◌⊎◌, ℤ, pos}
use Rattle.std.specs.Prelude.{if◌then◌else◌}
use Rattle.std.specs.List.{AllByRecursion}
use Rattle.std.specs.Str.{bytes_eq}
use Rattle.std.specs.Map.{lookup}
use Rattle.std.proofs.lemmas.Bool.Decides.{Decides-eqb}
use Rattle.estelle_tree.specs.declared.names.Use.{Use}
use Rattle.estelle_tree.specs.declared.span.Span.{Span}
use Rattle.pascal_values.specs.declared.value.Value.{Value as PascalValue}
use Rattle.pascal_values.specs.declared.value.Value.TheVariants as pascal
use Rattle.type_rules.specs.declared.types.Host.{Host as RuleHost}
use Rattle.type_rules.specs.declared.types.Host.TheVariants as rule
use Rattle.type_rules.specs.declared.types.Value.{Value}
use Rattle.type_rules.specs.declared.meanings.Meaning.{Meaning as RuleMeaning}
use Rattle.type_rules.specs.declared.meanings.Meaning.TheVariants as said
use Rattle.type_rules.specs.declared.meanings.Entity.{Entity}
use Rattle.estelle_tree.specs.Required.{maxint}
use Rattle.type_rules.specs.Meanings as rules
use Rattle.type_rules.specs.Meanings.{Env, known, constant_value, valued, env_of, entity_at, or_undeclared, or_nothing, meaning_by}
use Rattle.estelle_model.specs.declared.meaning.Meaning.{Meaning}
use Rattle.estelle_model.specs.declared.meaning.Meaning.TheVariants as mean
use Rattle.estelle_model.specs.Types.{ordinal_at}
use Rattle.estelle_model.specs.Meant.{Meanings}
use Rattle.estelle_model.specs.Denoted.{Declaration, Declarations}
use Rattle.estelle_model.specs.Names.{required, or_other, required_meaning, Declared, at_place, meaning_at, declaration_of, meant_by, with_one}
use Rattle.scope_rules.specs.NameRules.{IsOne}
use Rattle.accepted_states.proofs.Lists.{Each, count, one_if}
use Rattle.accepted_states.proofs.Declared.{nothing, places_by, IsFixed, weight, weight-append, AreApart}
use Rattle.trace_forms.proofs.Lists.{one_back, all_ones}
use Rattle.trace_forms.proofs.Environments.{some_same, Said, all_said, named_alike}
use Rattle.trace_forms.proofs.ConstantKinds.{kind_of_rules, HasValue, integer_has, Alike, Agree, agree_before}

-- ---- partners

-- what the model declares at a place alone
abbrev pub at_one : ℕ → (Meanings → Meaning) → Declaration
at_one p says = record { says = λ known. (p, says known) ∷ [] }

-- a declaration of the rules gives no value
abbrev pub IsSilent : rules.Declaration → Type 0
IsSilent d = (env : Env) → constant_value (d.says env).meaning ≡ None

-- In : what the model declares
module _ (In : Declaration → Type 0) where
  -- the model declares the same there
  pub record Partner (d : rules.Declaration) : Type 0 where
    pub says : Meanings → Meaning
    pub is_in : In (at_one d.at says)
    pub alike : (env : Env) (meant : Meanings) → Agree env meant → Alike (d.says env).meaning (says meant)

  abbrev pub HasPartner : rules.Declaration → Type 0
  HasPartner d = IsSilent d ⊎ Partner d

-- ---- required identifiers

-- the required identifiers stand in one order, and are alike
abbrev RequiredAlike : List (List ℕ × RuleMeaning) → List (List ℕ × Meaning) → Type 0
RequiredAlike [] [] = Unit {0}
RequiredAlike [] (m ∷ ms) = ⊥
RequiredAlike (r ∷ rs) [] = ⊥
RequiredAlike (r ∷ rs) (m ∷ ms) = (r.0 ≡ m.0) × (Alike r.1 m.1 × RequiredAlike rs ms)

-- what is looked up among them is alike
looked_alike : (t : List ℕ → Bool) (rs : List (List ℕ × RuleMeaning)) (ms : List (List ℕ × Meaning)) → RequiredAlike rs ms → Alike (or_nothing (lookup t rs)) (or_other (lookup t ms))
looked_alike t [] [] h = tt
looked_alike t [] (m ∷ ms) h = absurd h
looked_alike t (r ∷ rs) [] h = absurd h
looked_alike t (r ∷ rs) (m ∷ ms) h = subst (λ k. Alike (or_nothing (cond (t r.0) (Some r.1) (lookup t rs))) (or_other (cond (t k) (Some m.1) (lookup t ms)))) h.0 (by (t r.0) (looked_alike t rs ms h.1.1))
  where
    by : (b : Bool) → Alike (or_nothing (lookup t rs)) (or_other (lookup t ms)) → Alike (or_nothing (cond b (Some r.1) (lookup t rs))) (or_other (cond b (Some m.1) (lookup t ms)))
    by true more = h.1.0
    by false more = more

-- a constant that is declared with a value is alike with what has this value
pub valued_alike : (g : RuleHost) (n : ℤ) (v : PascalValue) → HasValue (record { host = g; ordinal = n }) v → (w : Value) → constant_value (valued g n) ≡ Some w → (kind_of_rules w.host ≡ kind_of_rules g) × HasValue w v
valued_alike g n v h w e = (ap (λ (u : Value). kind_of_rules u.host) (sym (some_same _ w e)), subst (λ (u : Value). HasValue u v) (some_same _ w e) h)

false_alike : (w : Value) → constant_value (valued rule.Boolean (pos 0)) ≡ Some w → (kind_of_rules w.host ≡ 1) × HasValue w (pascal.Bool false)
false_alike = valued_alike rule.Boolean (pos 0) (pascal.Bool false) (ap ordinal_at (pascal.outs-Bool false), λ i. absurd (cc))

true_alike : (w : Value) → constant_value (valued rule.Boolean (pos 1)) ≡ Some w → (kind_of_rules w.host ≡ 1) × HasValue w (pascal.Bool true)
true_alike = valued_alike rule.Boolean (pos 1) (pascal.Bool true) (ap ordinal_at (pascal.outs-Bool true), λ i. absurd (cc))

maxint_alike : (w : Value) → constant_value (valued rule.Integer maxint) ≡ Some w → (kind_of_rules w.host ≡ 0) × HasValue w (pascal.Int maxint)
maxint_alike = valued_alike rule.Integer maxint (pascal.Int maxint) (integer_has (record { host = rule.Integer; ordinal = maxint }) maxint refl)

-- required identifiers are alike
required_alike : (w : List ℕ) → Alike (rules.required_meaning w) (required_meaning w)
unfolding rules.required_meaning
required_alike w = looked_alike (bytes_eq w) rules.required required
    (refl, (tt, (refl, (tt, (refl, (tt, (refl, (false_alike, (refl, (true_alike, (refl, (maxint_alike, (refl, (tt, (refl, (tt, (refl, (tt, (refl, (tt, (refl, (tt, (refl, (tt, (refl, (tt, tt))))))))))))))))))))))))))

-- ---- lists

-- what holds of each holds of one of them
pub each_one : {A : Type 0} (P : A → Type 0) (xs : List A) (x : A) → Each P xs → IsOne x xs → P x
each_one P [] x h o = absurd o
each_one P (y ∷ xs) x h (inl e) = subst P (sym e) h.0
each_one P (y ∷ xs) x h (inr o) = each_one P xs x h.1 o

-- one of two lists has it
one_cases : {A : Type 0} (x : A) (xs ys : List A) → IsOne x (xs ++ ys) → IsOne x xs ⊎ IsOne x ys
one_cases x [] ys o = inr o
one_cases x (y ∷ xs) ys (inl e) = inl (inl e)
one_cases x (y ∷ xs) ys (inr o) = elim (one_cases x xs ys o) [
  | inl a ↦ inl (inr a)
  | inr b ↦ inr b
]

-- there is no other in a list of one
lone : {A : Type 0} (x y : A) → IsOne x (y ∷ []) → x ≡ y
lone x y (inl e) = e
lone x y (inr e) = absurd e

-- a place is itself
eq_self : (n : ℕ) → nat_eq n n ≡ true
eq_self n = (Decides-eqb n n).1 refl

-- what is declared at a place counts there
counted : (p : ℕ) (m : Meaning) (es : List (ℕ × Meaning)) → IsOne (p, m) es → 1 ≤ count (nat_eq p) (map (λ e. e.0) es)
counted p m [] o = absurd o
counted p m (e ∷ es) (inl is) = let a : one_if (nat_eq p e.0) ≡ 1 = ap one_if (ap (λ (x : ℕ × Meaning). nat_eq p x.0) (sym is) ∙ eq_self p) in omega (arith, a)
counted p m (e ∷ es) (inr o) = let a = counted p m es o in omega (arith, a)

-- a declaration weighs no more than all of them
weighed : (t : ℕ → Bool) (ds : Declarations) (d : Declaration) → IsOne d ds → count t (places_by nothing d) ≤ weight t ds
weighed t [] d o = absurd o
weighed t (e ∷ ds) d (inl is) = let a = ap (λ x. count t (places_by nothing x)) is in omega (arith, a)
weighed t (e ∷ ds) d (inr o) = let a = weighed t ds d o in omega (arith, a)

-- of two declarations that speak of one place, each is the other
only_one : (p : ℕ) (front rest : Declarations) (d other : Declaration) → weight (nat_eq p) (front ++ d ∷ rest) ≤ 1 → IsOne other (front ++ d ∷ rest)
    → 1 ≤ count (nat_eq p) (places_by nothing d) → 1 ≤ count (nat_eq p) (places_by nothing other) → other ≡ d
only_one p front rest d other most o a b = elim (one_cases other front (d ∷ rest) o) [
  | inl f ↦ let w = weighed (nat_eq p) front other f in let s = weight-append (nat_eq p) front (d ∷ rest) in absurd (omega (arith, most, a, b, w, s))
  | inr f ↦ elim f [
    | inl is ↦ is
    | inr g ↦ let w = weighed (nat_eq p) rest other g in let s = weight-append (nat_eq p) front (d ∷ rest) in absurd (omega (arith, most, a, b, w, s))
  ]
]

-- what has no value for the rules is alike with everything
silent_alike : (r : RuleMeaning) (m : Meaning) → constant_value r ≡ None → Alike r m
silent_alike r (mean.Constant v h) e = λ w f. absurd (cc)
silent_alike r (mean.TypeName t) e = tt
silent_alike r (mean.Called c) e = tt
silent_alike r _ e = tt

-- ---- what names mean so far

module _ (names : List Use) (ruled : rules.Declarations) (all : Declarations) (apart : AreApart all) (partnered : (d : rules.Declaration) → IsOne d ruled → HasPartner (λ x. IsOne x all) d) where
  abbrev pub env : Env
  env = env_of names ruled

  -- what is declared at a place is alike
  abbrev pub AlikeAt : ℕ × Meaning → Type 0
  AlikeAt e = Alike (entity_at env e.0).meaning e.1

  -- what is looked up at a place is alike
  placed_alike : (p : ℕ) (es : List (ℕ × Meaning)) → AllByRecursion AlikeAt es → Alike (entity_at env p).meaning (or_other (lookup (nat_eq p) es))
  placed_alike p [] h = tt
  placed_alike p (e ∷ es) h = by (nat_eq p e.0) refl (placed_alike p es h.1)
    where
      by : (b : Bool) → nat_eq p e.0 ≡ b → Alike (entity_at env p).meaning (or_other (lookup (nat_eq p) es)) → Alike (entity_at env p).meaning (or_other (cond b (Some e.1) (lookup (nat_eq p) es)))
      by true is more = subst (λ q. Alike (entity_at env q).meaning e.1) (sym ((Decides-eqb p e.0).0 is)) h.0
      by false is more = more

  -- where what is declared so far is alike, names agree
  pub meant_alike : (so_far : Declared) → AllByRecursion AlikeAt so_far → Agree env (meant_by names so_far)
  unfolding known
  meant_alike so_far h x = subst (λ o. Alike (meaning_by env x o) (meant_by names so_far x)) (sym (named_alike names ruled x)) (by (declaration_of names x))
    where
      placed : (decl : Span) (b : Bool) → Alike (if b then rules.required_meaning x.word else (entity_at env decl.start).meaning) (if b then required_meaning x.word else at_place so_far decl.start)
      placed decl true = required_alike x.word
      placed decl false = placed_alike decl.start so_far h

      by : (o : Option Span) → Alike (meaning_by env x o) (meaning_at so_far x o)
      by None = tt
      by (Some decl) = placed decl (nat_eq decl.end 0)

  -- what one more declaration says is alike: a constant with a value has a partner, which is this declaration
  one_alike : (front rest : Declarations) (d : Declaration) → all ≡ front ++ d ∷ rest → (so_far : Declared) → AllByRecursion AlikeAt so_far → (p : ℕ) (m : Meaning) → IsOne (p, m) (d.says (meant_by names so_far)) → Alike (entity_at env p).meaning m
  unfolding entity_at
  one_alike front rest d here so_far h p m o = by (lookup (nat_eq p) env.places) refl
    where
      meant : Meanings
      meant = meant_by names so_far

      there : 1 ≤ count (nat_eq p) (places_by nothing d)
      there =
          let is_there : IsOne d all = subst (IsOne d) (sym here) (one_back d front (d ∷ rest) (inl refl)) in
          let a = counted p m (d.says meant) o in
          let b = ap (count (nat_eq p)) (each_one IsFixed all d apart.fixed is_there meant) in
          omega (arith, a, b)

      of_partner : (x : Entity) (s : Said ruled env p x) → Partner (λ y. IsOne y all) s.declaration → Alike x.meaning m
      of_partner x s q =
          let other = at_one s.declaration.at q.says in
          let counts : 1 ≤ count (nat_eq p) (places_by nothing other) = (let a : one_if (nat_eq p s.declaration.at) ≡ 1 = ap one_if (ap (nat_eq p) s.at ∙ eq_self p) in omega (arith, a)) in
          let same = only_one p front rest d other (subst (λ ds. weight (nat_eq p) ds ≤ 1) here (apart.once p)) (subst (IsOne other) here q.is_in) there counts in
          let means : IsOne (p, m) ((s.declaration.at, q.says meant) ∷ []) = subst (λ (y : Declaration). IsOne (p, m) (y.says meant)) (sym same) o in
          let is : m ≡ q.says meant = ap (λ (y : ℕ × Meaning). y.1) (lone (p, m) (s.declaration.at, q.says meant) means) in
          subst (λ (y : Entity). Alike y.meaning m) s.says
          (subst (λ y. Alike (s.declaration.says s.before).meaning y) (sym is) (q.alike s.before meant (agree_before s.before env meant s.earlier (meant_alike so_far h))))

      by : (x : Option Entity) → lookup (nat_eq p) env.places ≡ x → Alike (or_undeclared x).meaning m
      by None e = silent_alike said.Nothing m refl
      by (Some x) e =
          let s = all_said names ruled p x e in
          elim (partnered s.declaration s.one) [
            | inl silent ↦ silent_alike x.meaning m (ap (λ (y : Entity). constant_value y.meaning) (sym s.says) ∙ silent s.before)
            | inr q ↦ of_partner x s q
          ]

  -- what is added is alike too
  added : (es : List (ℕ × Meaning)) (so_far : Declared) → AllByRecursion AlikeAt es → AllByRecursion AlikeAt so_far → AllByRecursion AlikeAt (fold (λ k e. e ∷ k) so_far es)
  added [] so_far h k = k
  added (e ∷ es) so_far h k = added es (e ∷ so_far) h.1 (h.0, k)

  -- with one more declaration all stays alike
  pub more_alike : (front rest : Declarations) (d : Declaration) → all ≡ front ++ d ∷ rest → (so_far : Declared) → AllByRecursion AlikeAt so_far → AllByRecursion AlikeAt (with_one names so_far d)
  more_alike front rest d here so_far h = added (d.says (meant_by names so_far)) so_far (all_ones AlikeAt (d.says (meant_by names so_far)) (λ e o. one_alike front rest d here so_far h e.0 e.1 o)) h
