-- A name in use that means a type means one that the events before it declare as a type.
use Rattle.std.proofs.Common.{◌≡◌, ℕ, Bool, true, false, nat_eq, nat_lt, if◌then◌else◌, List, [], ◌∷◌, Option, Some, None, refl, sym, subst, inl, inr, cond}
use Rattle.std.specs.Prelude.{flat_map, ◌||◌, ◌&&◌}
use Rattle.std.specs.Map.{lookup}
use Rattle.std.specs.Option.{unwrap_or}
use Rattle.std.specs.Str.{bytes_eq}
use Rattle.std.specs.Cmp.Lexicographic.{bytes_decides}
use Rattle.estelle_tree.specs.declared.tree.name.Name.{Name}
use Rattle.scope_rules.specs.declared.declaration.Denotes.{Denotes}
use Rattle.scope_rules.specs.declared.declaration.Denotes.TheVariants as d
use Rattle.scope_rules.specs.declared.declaration.Members.{Members}
use Rattle.scope_rules.specs.declared.declaration.Members.TheVariants as members
use Rattle.scope_rules.specs.declared.declaration.Declared.{Declared}
use Rattle.scope_rules.specs.declared.event.Event.{Event}
use Rattle.scope_rules.specs.declared.event.Event.TheVariants.{Open, Close, Keep, Import, Receive, Array, Declare, Use, By, Init, States}
use Rattle.scope_rules.specs.Kinds.{is_private, is_of_channel}
use Rattle.scope_rules.specs.TypeEvents.{Events}
use Rattle.scope_rules.specs.Visible.{Word, Scope, Level, Scopes, in_names, kept_at, member_names, in_level, is_body, hiding, alone, meaning, meaning_of, earlier, inside_of}
use Rattle.scope_rules.specs.Scopes.{start, after, after_one, declared, declaration, innermost, declare_level, declare_one, declare_all, join_level, put, names_of_top, below}
use Rattle.scope_rules.specs.NameRules.{IsOne}
use Rattle.accepted_states.proofs.Lists.{Each, each_other}
use Rattle.accepted_states.proofs.Scopes.{earliest_one}
use Rattle.trace_forms.proofs.Lists.{one_flat}

-- ---- the names that events declare as types

abbrev pub where_type : Denotes → List Name → List Name
where_type d.Type xs = xs
where_type k xs = []

abbrev pub types_at : Event → List Name
types_at (Declare names k inside) = where_type k names
types_at e = []

abbrev pub types_in : Events → List Name
types_in = flat_map types_at

-- ---- what holds of all that is declared

-- P : what holds of a word and what it is declared as
module _ (P : Word → Declared → Type 0) where
  abbrev pub AllNames : Scope → Type 0
  AllNames = Each (λ (e : Word × Declared). P e.0 e.1)

  record Kept (s : Scopes) : Type 0 where
    pub levels : Each (λ (l : Level). AllNames l.names) s.levels
    pub kept : Each (λ (e : ℕ × Scope). AllNames e.1) s.kept

  -- it holds of what the event declares
  abbrev OfEvent : Scopes → Event → Type 0
  OfEvent s (Declare names k inside) = Each (λ (x : Name). P x.word (declaration x k (inside_of s inside))) names
  OfEvent s e = Unit {0}

  pub in_names_so : (w : Word) (s : Scope) (e : Declared) → AllNames s → in_names w s ≡ Some e → P w e
  in_names_so w [] e h f = absurd (cc)
  in_names_so w (x ∷ xs) e h f = by (λ g. in_names_so w xs e h.1 g) (bytes_eq w x.0) refl f
    where
      by : (in_names w xs ≡ Some e → P w e) → (b : Bool) → bytes_eq w x.0 ≡ b → cond b (Some x.1) (in_names w xs) ≡ Some e → P w e
      by more true g f = let same : x.1 ≡ e = cc in subst (P w) same (subst (λ v. P v x.1) (sym ((bytes_decides w x.0).0 g)) h.0)
      by more false g f = more f

  earlier_so : (w : Word) (e f : Declared) → P w e → P w f → P w (earlier e f)
  earlier_so w e f h k = by (nat_lt f.at.start e.at.start)
    where
      by : (b : Bool) → P w (if b then f else e)
      by true = k
      by false = h

  pub declared_so : (w : Word) (e : Declared) (s : Scope) → AllNames s → P w e → AllNames (declared w e s)
  declared_so w e [] h k = (k, tt)
  declared_so w e (x ∷ xs) h k = by (declared_so w e xs h.1 k) (bytes_eq w x.0) refl
    where
      by : AllNames (declared w e xs) → (b : Bool) → bytes_eq w x.0 ≡ b → AllNames (if b then (x.0, earlier x.1 e) ∷ xs else x ∷ declared w e xs)
      by more true g = (earlier_so x.0 x.1 e h.0 (subst (λ v. P v e) ((bytes_decides w x.0).0 g) k), h.1)
      by more false g = (h.0, more)

  kept_so : (at : ℕ) (kept : List (ℕ × Scope)) → Each (λ (e : ℕ × Scope). AllNames e.1) kept → AllNames (kept_at kept at)
  kept_so at [] h = tt
  kept_so at (x ∷ xs) h = by (kept_so at xs h.1) (nat_eq at x.0)
    where
      by : AllNames (kept_at xs at) → (b : Bool) → AllNames (unwrap_or (cond b (Some x.1) (lookup (nat_eq at) xs)) [])
      by more true = h.0
      by more false = more

  members_so : (m : Members) (kept : List (ℕ × Scope)) → Each (λ (e : ℕ × Scope). AllNames e.1) kept → AllNames (member_names kept m)
  members_so members.Nothing kept h = tt
  members_so (members.KeptAt at) kept h = kept_so at kept h
  members_so members.AtFault kept h = tt

  put_so : (at : ℕ) (s : Scope) (kept : List (ℕ × Scope)) → Each (λ (e : ℕ × Scope). AllNames e.1) kept → AllNames s → Each (λ (e : ℕ × Scope). AllNames e.1) (put at s kept)
  put_so at s [] h k = (k, tt)
  put_so at s (x ∷ xs) h k = by (put_so at s xs h.1 k) (nat_eq at x.0)
    where
      by : Each (λ (e : ℕ × Scope). AllNames e.1) (put at s xs) → (b : Bool) → Each (λ (e : ℕ × Scope). AllNames e.1) (if b then (x.0, s) ∷ xs else x ∷ put at s xs)
      by more true = (k, h.1)
      by more false = (h.0, more)

  below_so : (ls : List Level) → Each (λ (l : Level). AllNames l.names) ls → Each (λ (l : Level). AllNames l.names) (below ls)
  below_so [] h = tt
  below_so (l ∷ ls) h = h.1

  top_so : (ls : List Level) → Each (λ (l : Level). AllNames l.names) ls → AllNames (names_of_top ls)
  top_so [] h = tt
  top_so (l ∷ ls) h = h.0

  joined_so : (m : Members) (ls : List Level) → Each (λ (l : Level). AllNames l.names) ls → Each (λ (l : Level). AllNames l.names) (innermost (join_level m) ls)
  joined_so m [] h = tt
  joined_so m (l ∷ ls) h = h

  named_so : (w : Word) (e : Declared) (ls : List Level) → P w e → Each (λ (l : Level). AllNames l.names) ls → Each (λ (l : Level). AllNames l.names) (innermost (declare_level w e) ls)
  named_so w e [] k h = tt
  named_so w e (l ∷ ls) k h = (declared_so w e l.names h.0 k, h.1)

  all_so : (xs : List Name) (k : Denotes) (inside : Members) (s : Scopes) → Each (λ (x : Name). P x.word (declaration x k inside)) xs → Kept s → Kept (declare_all s xs k inside)
  all_so [] k inside s p h = h
  all_so (x ∷ xs) k inside s p h = all_so xs k inside (declare_one s x k inside) p.1 (record { levels = named_so x.word (declaration x k inside) s.levels p.0 h.levels; kept = h.kept })

  one_so : (s : Scopes) (e : Event) → OfEvent s e → Kept s → Kept (after_one s e)
  one_so s (Open f) p h = record { levels = (tt, h.levels); kept = h.kept }
  one_so s Close p h = record { levels = below_so s.levels h.levels; kept = h.kept }
  one_so s (Keep span) p h = record { levels = below_so s.levels h.levels; kept = put_so span.start (names_of_top s.levels) s.kept h.kept (top_so s.levels h.levels) }
  one_so s (Import x) p h = record { levels = joined_so _ s.levels h.levels; kept = h.kept }
  one_so s (Receive ip x names) p h = record { levels = joined_so _ s.levels h.levels; kept = h.kept }
  one_so s (Array span of) p h = record { levels = h.levels; kept = h.kept }
  one_so s (Declare names k inside) p h = all_so names k (inside_of s inside) s p h
  one_so s (Use x n steps) p h = record { levels = h.levels; kept = h.kept }
  one_so s (By role) p h = h
  one_so s (Init modvar body) p h = h
  one_so s (States at states initial transitions) p h = h

  after_so : (s : Scopes) (es : Events) → ((e : Event) → IsOne e es → (t : Scopes) → OfEvent t e) → Kept s → Kept (after s es)
  after_so s [] p h = h
  after_so s (e ∷ es) p h = after_so (after_one s e) es (λ f o. p f (inr o)) (one_so s e (p e (inl refl) s) h)

  -- ---- what a name means

  -- what an open scope declares it as is so
  pub level_so : (kept : List (ℕ × Scope)) (w : Word) (l : Level) (e : Declared) → AllNames l.names → AllNames (member_names kept l.within) → in_level kept w l ≡ Some e → P w e
  level_so kept w l e h k f = elim (earliest_one (in_names w l.names) (in_names w (member_names kept l.within)) e f) [
    | inl g ↦ in_names_so w l.names e h g
    | inr g ↦ in_names_so w (member_names kept l.within) e k g
  ]

  alone_so : (o : Option Declared) (e : Declared) → alone o ≡ Some e → o ≡ Some e
  alone_so None e f = absurd (cc)
  alone_so (Some x) e f = by (is_of_channel x.denotes) f
    where
      by : (b : Bool) → (if b then None else Some x) ≡ Some e → Some x ≡ Some e
      by true g = absurd (cc)
      by false g = g

  -- what it means is what one of the open scopes declares it as
  pub means_so : (kept : List (ℕ × Scope)) (w : Word) (outside : Bool) (levels : List Level) (e : Declared) → Each (λ (l : Level). (x : Declared) → in_level kept w l ≡ Some x → P w x) levels → meaning_of kept w outside levels ≡ Some e → P w e
  means_so kept w outside [] e h f = absurd (cc)
  means_so kept w outside (l ∷ outer) e h f = by (λ g. means_so kept w (outside || is_body l.form) outer e h.1 g) (alone (in_level kept w l)) refl f
    where
      seen_so : (x : Declared) (b : Bool) → (if b then None else Some x) ≡ Some e → x ≡ e
      seen_so x true g = absurd (cc)
      seen_so x false g = cc

      by : (meaning_of kept w (outside || is_body l.form) outer ≡ Some e → P w e) → (o : Option Declared) → alone (in_level kept w l) ≡ o → hiding outside o (meaning_of kept w (outside || is_body l.form) outer) ≡ Some e → P w e
      by more None g f = more f
      by more (Some x) g f = subst (P w) (seen_so x (outside && is_private x.denotes) f) (h.0 x (alone_so (in_level kept w l) x g))

  meaning_so : (s : Scopes) (w : Word) (e : Declared) → Kept s → meaning s w ≡ Some e → P w e
  meaning_so s w e h f =
      means_so s.kept w false s.levels e (each_other (λ (l : Level). AllNames l.names) (λ (l : Level). (x : Declared) → in_level s.kept w l ≡ Some x → P w x) (λ l k x g. level_so s.kept w l x k (members_so l.within s.kept h.kept) g) s.levels h.levels) f

-- ---- types

-- where it is a type, it is one of these names
abbrev IsTypeOf : List Name → Word → Declared → Type 0
IsTypeOf ts w e = e.denotes ≡ d.Type → (y : Name) × (IsOne y ts × ((w ≡ y.word) × (e.at ≡ y.span)))

-- each event declares as types what all of them declare so
events_declare : (es : Events) (e : Event) → IsOne e es → (s : Scopes) → OfEvent (IsTypeOf (types_in es)) s e
events_declare es (Declare names k inside) o s = each names (λ x h. h)
  where
    each : (xs : List Name) → ((x : Name) → IsOne x xs → IsOne x names) → Each (λ (x : Name). IsTypeOf (types_in es) x.word (declaration x k (inside_of s inside))) xs
    each [] within = tt
    each (x ∷ xs) within = (
      λ is. (x, (one_flat types_at (Declare names k inside) x es o (subst (λ j. IsOne x (where_type j names)) (sym is) (within x (inl refl))), (refl, refl))),
      each xs (λ y h. within y (inr h)),
    )
events_declare es (Open f) o s = tt
events_declare es Close o s = tt
events_declare es (Keep span) o s = tt
events_declare es (Import x) o s = tt
events_declare es (Receive ip x names) o s = tt
events_declare es (Array span of) o s = tt
events_declare es (Use x n steps) o s = tt
events_declare es (By role) o s = tt
events_declare es (Init modvar body) o s = tt
events_declare es (States at states initial transitions) o s = tt

-- what is found as a type was declared as a type before
pub type_found : (before : Events) (w : Word) (e : Declared) → meaning (after start before) w ≡ Some e → IsTypeOf (types_in before) w e
type_found before w e f =
    meaning_so (IsTypeOf (types_in before)) (after start before) w e (after_so (IsTypeOf (types_in before)) start before (events_declare before) (record { levels = tt; kept = tt })) f
