-- What a run needs to know where names are used, from what is in sight there.
use Rattle.std.proofs.Common.{◌≡◌, ℕ, Bool, true, false, nat_eq, List, [], ◌∷◌, Some, refl, sym, subst, cond}
use Rattle.std.specs.List.{AllByRecursion}
use Rattle.std.specs.Str.{bytes_eq}
use Rattle.std.specs.Map.{lookup}
use Rattle.estelle_tree.specs.declared.names.Use.{Use as Used}
use Rattle.estelle_tree.specs.declared.span.Span.{Span}
use Rattle.estelle_tree.specs.declared.tree.name.Name.{Name}
use Rattle.scope_rules.specs.declared.declaration.Declared.{Declared}
use Rattle.scope_rules.specs.declared.declaration.Denotes.{Denotes}
use Rattle.scope_rules.specs.declared.declaration.Denotes.TheVariants as d
use Rattle.scope_rules.specs.declared.declaration.Need.{Need}
use Rattle.scope_rules.specs.declared.declaration.Need.TheVariants as need
use Rattle.scope_rules.specs.declared.event.Event.{Event}
use Rattle.scope_rules.specs.declared.event.Event.TheVariants.{Use}
use Rattle.scope_rules.specs.Kinds.{may_be}
use Rattle.scope_rules.specs.TypeEvents.{Events}
use Rattle.scope_rules.specs.Visible.{Word, Scopes}
use Rattle.scope_rules.specs.NameRules.{IsOne}
use Rattle.type_rules.specs.declared.meanings.Meaning.{Meaning as RuleMeaning}
use Rattle.type_rules.specs.Meanings as rules
use Rattle.type_rules.specs.Meanings.{Env}
use Rattle.estelle_model.specs.declared.denoter.Host.TheVariants as host
use Rattle.estelle_model.specs.declared.meaning.Meaning.{Meaning}
use Rattle.estelle_model.specs.Meant.{Meanings}
use Rattle.estelle_model.specs.Names.{required, or_other, required_meaning, declaration_of}
use Rattle.accepted_states.proofs.Uses.{Found}
use Rattle.trace_forms.proofs.TypePlaces.{needs_type}
use Rattle.trace_forms.proofs.InSight.{InSight, meaning_seen}
use Rattle.trace_forms.proofs.Declared.{AllTold}
use Rattle.trace_forms.proofs.Filled.{IsConstant, TypeFilled, whole_is_filled, UsesHeld}
use Rattle.trace_forms.proofs.Held.{Known, KnownHeld}

-- ---- names in sight

-- where it is declared as a constant or a type it is known, or a required identifier
abbrev pub ConstantKnown : Known → Word → Span → Type 0
ConstantKnown K w at = (nat_eq at.end 0 ≡ false → IsOne (d.Constant, at.start) K) × (nat_eq at.end 0 ≡ true → IsConstant (required_meaning w))

abbrev pub TypeKnown : Known → Span → Type 0
TypeKnown K at = nat_eq at.end 0 ≡ false → IsOne (d.Type, at.start) K

abbrev pub NameKnown : Known → Word → Declared → Type 0
NameKnown K w e = (e.denotes ≡ d.Constant → ConstantKnown K w e.at) × (e.denotes ≡ d.Type → TypeKnown K e.at)

-- what is known stays so where more is known
pub known_more : (K L : Known) → ((e : Denotes × ℕ) → IsOne e K → IsOne e L) → (w : Word) (e : Declared) → NameKnown K w e → NameKnown L w e
known_more K L more w e h = (λ is. let a = h.0 is in (λ g. more (d.Constant, e.at.start) (a.0 g), a.1), λ is g. more (d.Type, e.at.start) (h.1 is g))

needs_constant : (k : Denotes) → may_be need.Constant k ≡ true → k ≡ d.Constant
needs_constant d.Constant h = refl
needs_constant d.Type h = absurd (cc)
needs_constant d.Variable h = absurd (cc)
needs_constant d.Exported h = absurd (cc)
needs_constant d.Field h = absurd (cc)
needs_constant d.Procedure h = absurd (cc)
needs_constant d.Function h = absurd (cc)
needs_constant d.RequiredFunction h = absurd (cc)
needs_constant d.Channel h = absurd (cc)
needs_constant d.Role h = absurd (cc)
needs_constant d.Interaction h = absurd (cc)
needs_constant d.Header h = absurd (cc)
needs_constant d.Body h = absurd (cc)
needs_constant d.ModuleVariable h = absurd (cc)
needs_constant d.Ip h = absurd (cc)
needs_constant d.State h = absurd (cc)
needs_constant d.StateSet h = absurd (cc)

-- ---- names in use

module _ (names : List Used) where
  -- the declaration of a name that is used as a constant or as a type is known
  abbrev pub NeedKnown : Known → Name → Need → Type 0
  NeedKnown K x need.Constant = (at : Span) × ((declaration_of names x ≡ Some at) × ConstantKnown K x.word at)
  NeedKnown K x need.Type = (at : Span) × ((declaration_of names x ≡ Some at) × TypeKnown K at)
  NeedKnown K x n = Unit {0}

  abbrev pub EventKnown : Known → Event → Type 0
  EventKnown K (Use x n steps) = NeedKnown K x n
  EventKnown K e = Unit {0}

  -- what events use as constants and types is known
  abbrev pub UsesKnown : Known → Events → Type 0
  UsesKnown K = AllByRecursion (EventKnown K)

  -- what is found in sight is known
  pub found_known : (past pending : ℕ → Type 0) (K : Known) (s : Scopes) (x : Name) (n : Need) → InSight past pending (NameKnown K) s.kept s.levels → Found names s x n → NeedKnown K x n
  found_known past pending K s x need.Constant h f = (f.found.at, (f.known, (meaning_seen past pending (NameKnown K) s x.word f.found h f.means).0.0 (needs_constant f.found.denotes f.fits)))
  found_known past pending K s x need.Type h f = (f.found.at, (f.known, (meaning_seen past pending (NameKnown K) s x.word f.found h f.means).0.1 (needs_type f.found.denotes f.fits)))
  found_known past pending K s x _ h f = tt

  -- ---- what names mean

  -- a required type is filled
  required_type : (w : List ℕ) → TypeFilled (rules.required_meaning w) (required_meaning w)
  unfolding rules.required_meaning
  required_type w = alike rules.required required (refl, (whole_is_filled host.Integer _, (refl, (whole_is_filled host.Boolean _, (refl, (whole_is_filled host.Char _, (refl, (tt, (refl, (tt, (refl, (tt, (refl, (tt, (refl, (tt, (refl, (tt, (refl, (tt, (refl, (tt, (refl, (tt, (refl, (tt, tt))))))))))))))))))))))))))
    where
      Alike : List (List ℕ × RuleMeaning) → List (List ℕ × Meaning) → Type 0
      Alike [] [] = Unit {0}
      Alike [] (m ∷ ms) = ⊥
      Alike (r ∷ rs) [] = ⊥
      Alike (r ∷ rs) (m ∷ ms) = (r.0 ≡ m.0) × (TypeFilled r.1 m.1 × Alike rs ms)

      alike : (rs : List (List ℕ × RuleMeaning)) (ms : List (List ℕ × Meaning)) → Alike rs ms → TypeFilled (rules.or_nothing (lookup (bytes_eq w) rs)) (or_other (lookup (bytes_eq w) ms))
      alike [] [] h = tt
      alike [] (m ∷ ms) h = absurd h
      alike (r ∷ rs) [] h = absurd h
      alike (r ∷ rs) (m ∷ ms) h = subst (λ k. TypeFilled (rules.or_nothing (cond (bytes_eq w r.0) (Some r.1) (lookup (bytes_eq w) rs))) (or_other (cond (bytes_eq w k) (Some m.1) (lookup (bytes_eq w) ms)))) h.0 (by (bytes_eq w r.0) (alike rs ms h.1.1))
        where
          by : (b : Bool) → TypeFilled (rules.or_nothing (lookup (bytes_eq w) rs)) (or_other (lookup (bytes_eq w) ms)) → TypeFilled (rules.or_nothing (cond b (Some r.1) (lookup (bytes_eq w) rs))) (or_other (cond b (Some m.1) (lookup (bytes_eq w) ms)))
          by true more = h.1.0
          by false more = more

  module _ (env : Env) (K : Known) (meant : Meanings) (told : AllTold env meant) (h : KnownHeld names env K meant) where
    constant_held : (x : Name) (at : Span) → declaration_of names x ≡ Some at → ConstantKnown K x.word at → IsConstant (meant x)
    constant_held x at is k = by (nat_eq at.end 0) refl
      where
        by : (b : Bool) → nat_eq at.end 0 ≡ b → IsConstant (meant x)
        by true e = subst IsConstant (sym (h.required x at is e).1) (k.1 e)
        by false e = h.held x at d.Constant is e (k.0 e)

    type_held : (x : Name) (at : Span) → declaration_of names x ≡ Some at → TypeKnown K at → TypeFilled (rules.known env x) (meant x)
    type_held x at is k = by (nat_eq at.end 0) refl
      where
        by : (b : Bool) → nat_eq at.end 0 ≡ b → TypeFilled (rules.known env x) (meant x)
        by true e = let r = h.required x at is e in subst (λ m. TypeFilled (rules.known env x) m) (sym r.1) (subst (λ q. TypeFilled q (required_meaning x.word)) (sym r.0) (required_type x.word))
        by false e = h.held x at d.Type is e (k e)

    event_held : (e : Event) → EventKnown K e → AllByRecursion (λ e. UsesHeld env meant told (e ∷ [])) (e ∷ [])
    event_held (Use x need.Constant steps) k = ((constant_held x k.0 k.1.0 k.1.1, tt), tt)
    event_held (Use x need.Type steps) k = ((type_held x k.0 k.1.0 k.1.1, tt), tt)
    event_held (Use x _ steps) k = ((tt, tt), tt)
    event_held _ k = ((tt, tt), tt)

    -- what is known is held
    pub uses_held : (es : Events) → UsesKnown K es → UsesHeld env meant told es
    uses_held [] k = tt
    uses_held (e ∷ es) k = ((event_held e k.0).0.0, uses_held es k.1)
