-- A name in use means what an event before it declares: one of its names, as what it is declared.
use Rattle.std.proofs.Common.{◌≡◌, ℕ, Bool, true, false, nat_eq, nat_lt, if◌then◌else◌, List, [], ◌∷◌, ◌++◌, map, Option, Some, None, refl, subst, inl, inr, cond}
use Rattle.std.specs.Prelude.{◌||◌, ◌&&◌}
use Rattle.std.specs.List.{flat_map}
use Rattle.std.specs.Map.{lookup}
use Rattle.std.specs.Option.{unwrap_or}
use Rattle.std.specs.Str.{bytes_eq}
use Rattle.estelle_tree.specs.declared.tree.name.Name.{Name}
use Rattle.scope_rules.specs.declared.declaration.Denotes.{Denotes}
use Rattle.scope_rules.specs.declared.declaration.Members.{Members}
use Rattle.scope_rules.specs.declared.declaration.Members.TheVariants as members
use Rattle.scope_rules.specs.declared.declaration.Declared.{Declared}
use Rattle.scope_rules.specs.declared.event.Event.{Event}
use Rattle.scope_rules.specs.declared.event.Event.TheVariants.{Open, Close, Keep, Import, Receive, Array, Declare, Use, By, Init, States}
use Rattle.scope_rules.specs.Kinds.{is_private, is_of_channel}
use Rattle.scope_rules.specs.TypeEvents.{Events}
use Rattle.scope_rules.specs.Visible.{Word, Scope, Level, Scopes, in_names, kept_at, member_names, in_level, is_body, hiding, alone, meaning, meaning_of, earlier, inside_of}
use Rattle.scope_rules.specs.Scopes.{start, after, after_one, declared, declaration, innermost, declare_level, declare_one, declare_all, join_level, put, names_of_top, below}
use Rattle.scope_rules.specs.NameRules.{IsOne}
use Rattle.accepted_states.proofs.Lists.{Each, each_other}
use Rattle.accepted_states.proofs.Scopes.{earliest_one}

-- ---- what events declare

-- a name, as what it is declared
abbrev pub Entry : Type 0
Entry = Denotes × Name

abbrev pub declares_at : Event → List Entry
declares_at (Declare names k inside) = map (λ (x : Name). (k, x)) names
declares_at e = []

abbrev pub declares_in : Events → List Entry
declares_in = flat_map declares_at

-- ---- what holds of all that is declared

module _ (P : Declared → Type 0) where
  abbrev AllNames : Scope → Type 0
  AllNames = Each (λ (e : Word × Declared). P e.1)

  abbrev AllLevels : List Level → Type 0
  AllLevels = Each (λ (l : Level). AllNames l.names)

  abbrev AllKept : List (ℕ × Scope) → Type 0
  AllKept = Each (λ (e : ℕ × Scope). AllNames e.1)

  record Holds (s : Scopes) : Type 0 where
    pub levels : AllLevels s.levels
    pub kept : AllKept s.kept

  -- it holds of what the event declares
  abbrev OfEvent : Scopes → Event → Type 0
  OfEvent s (Declare names k inside) = Each (λ (x : Name). P (declaration x k (inside_of s inside))) names
  OfEvent s e = Unit {0}

  in_names_so : (w : Word) (s : Scope) (e : Declared) → AllNames s → in_names w s ≡ Some e → P e
  in_names_so w [] e h f = absurd (cc)
  in_names_so w (x ∷ xs) e h f = by (λ g. in_names_so w xs e h.1 g) (bytes_eq w x.0) f
    where
      by : (in_names w xs ≡ Some e → P e) → (b : Bool) → cond b (Some x.1) (in_names w xs) ≡ Some e → P e
      by more true f = let same : x.1 ≡ e = cc in subst P same h.0
      by more false f = more f

  earlier_so : (e f : Declared) → P e → P f → P (earlier e f)
  earlier_so e f h k = by (nat_lt f.at.start e.at.start)
    where
      by : (b : Bool) → P (if b then f else e)
      by true = k
      by false = h

  declared_so : (w : Word) (e : Declared) (s : Scope) → AllNames s → P e → AllNames (declared w e s)
  declared_so w e [] h k = (k, tt)
  declared_so w e (x ∷ xs) h k = by (declared_so w e xs h.1 k) (bytes_eq w x.0)
    where
      by : AllNames (declared w e xs) → (b : Bool) → AllNames (if b then (x.0, earlier x.1 e) ∷ xs else x ∷ declared w e xs)
      by more true = (earlier_so x.1 e h.0 k, h.1)
      by more false = (h.0, more)

  kept_so : (at : ℕ) (kept : List (ℕ × Scope)) → AllKept kept → AllNames (kept_at kept at)
  kept_so at [] h = tt
  kept_so at (x ∷ xs) h = by (kept_so at xs h.1) (nat_eq at x.0)
    where
      by : AllNames (kept_at xs at) → (b : Bool) → AllNames (unwrap_or (cond b (Some x.1) (lookup (nat_eq at) xs)) [])
      by more true = h.0
      by more false = more

  members_so : (m : Members) (kept : List (ℕ × Scope)) → AllKept kept → AllNames (member_names kept m)
  members_so members.Nothing kept h = tt
  members_so (members.KeptAt at) kept h = kept_so at kept h
  members_so members.AtFault kept h = tt

  put_so : (at : ℕ) (s : Scope) (kept : List (ℕ × Scope)) → AllKept kept → AllNames s → AllKept (put at s kept)
  put_so at s [] h k = (k, tt)
  put_so at s (x ∷ xs) h k = by (put_so at s xs h.1 k) (nat_eq at x.0)
    where
      by : AllKept (put at s xs) → (b : Bool) → AllKept (if b then (x.0, s) ∷ xs else x ∷ put at s xs)
      by more true = (k, h.1)
      by more false = (h.0, more)

  below_so : (ls : List Level) → AllLevels ls → AllLevels (below ls)
  below_so [] h = tt
  below_so (l ∷ ls) h = h.1

  top_so : (ls : List Level) → AllLevels ls → AllNames (names_of_top ls)
  top_so [] h = tt
  top_so (l ∷ ls) h = h.0

  joined_so : (m : Members) (ls : List Level) → AllLevels ls → AllLevels (innermost (join_level m) ls)
  joined_so m [] h = tt
  joined_so m (l ∷ ls) h = h

  named_so : (w : Word) (e : Declared) (ls : List Level) → P e → AllLevels ls → AllLevels (innermost (declare_level w e) ls)
  named_so w e [] k h = tt
  named_so w e (l ∷ ls) k h = (declared_so w e l.names h.0 k, h.1)

  all_so : (xs : List Name) (k : Denotes) (inside : Members) (s : Scopes) → Each (λ (x : Name). P (declaration x k inside)) xs → Holds s → Holds (declare_all s xs k inside)
  all_so [] k inside s p h = h
  all_so (x ∷ xs) k inside s p h = all_so xs k inside (declare_one s x k inside) p.1 (record { levels = named_so x.word (declaration x k inside) s.levels p.0 h.levels; kept = h.kept })

  one_so : (s : Scopes) (e : Event) → OfEvent s e → Holds s → Holds (after_one s e)
  one_so s (Open f) p h = record { levels = (tt, h.levels); kept = h.kept }
  one_so s Close p h = record { levels = below_so s.levels h.levels; kept = h.kept }
  one_so s (Keep span) p h = record { levels = below_so s.levels h.levels; kept = put_so span.start (names_of_top s.levels) s.kept h.kept (top_so s.levels h.levels) }
  one_so s (Import x) p h = record { levels = joined_so _ s.levels h.levels; kept = h.kept }
  one_so s (Receive ip x names) p h = record { levels = joined_so _ s.levels h.levels; kept = h.kept }
  one_so s (Array span of) p h = record { levels = h.levels; kept = h.kept }
  one_so s (Declare names k inside) p h = all_so names k (inside_of s inside) s p h
  one_so s (Use x n steps) p h = record { levels = h.levels; kept = h.kept }
  one_so s (By role) p h = h
  one_so s (Init modvar body) p h = h
  one_so s (States at states initial transitions) p h = h

  after_so : (s : Scopes) (es : Events) → ((e : Event) → IsOne e es → (t : Scopes) → OfEvent t e) → Holds s → Holds (after s es)
  after_so s [] p h = h
  after_so s (e ∷ es) p h = after_so (after_one s e) es (λ f o. p f (inr o)) (one_so s e (p e (inl refl) s) h)

  -- ---- what a name means

  level_so : (kept : List (ℕ × Scope)) (w : Word) (l : Level) (e : Declared) → AllNames l.names → AllNames (member_names kept l.within) → in_level kept w l ≡ Some e → P e
  level_so kept w l e h k f = elim (earliest_one (in_names w l.names) (in_names w (member_names kept l.within)) e f) [
    | inl g ↦ in_names_so w l.names e h g
    | inr g ↦ in_names_so w (member_names kept l.within) e k g
  ]

  alone_so : (o : Option Declared) (e : Declared) → alone o ≡ Some e → o ≡ Some e
  alone_so None e f = absurd (cc)
  alone_so (Some x) e f = by (is_of_channel x.denotes) f
    where
      by : (b : Bool) → (if b then None else Some x) ≡ Some e → Some x ≡ Some e
      by true g = absurd (cc)
      by false g = g

  -- what it means is what one of the open scopes declares it as
  means_so : (kept : List (ℕ × Scope)) (w : Word) (outside : Bool) (levels : List Level) (e : Declared) → Each (λ (l : Level). (x : Declared) → in_level kept w l ≡ Some x → P x) levels → meaning_of kept w outside levels ≡ Some e → P e
  means_so kept w outside [] e h f = absurd (cc)
  means_so kept w outside (l ∷ outer) e h f = by (λ g. means_so kept w (outside || is_body l.form) outer e h.1 g) (alone (in_level kept w l)) refl f
    where
      seen_so : (x : Declared) (b : Bool) → (if b then None else Some x) ≡ Some e → x ≡ e
      seen_so x true g = absurd (cc)
      seen_so x false g = cc

      by : (meaning_of kept w (outside || is_body l.form) outer ≡ Some e → P e) → (o : Option Declared) → alone (in_level kept w l) ≡ o → hiding outside o (meaning_of kept w (outside || is_body l.form) outer) ≡ Some e → P e
      by more None g f = more f
      by more (Some x) g f = subst P (seen_so x (outside && is_private x.denotes) f) (h.0 x (alone_so (in_level kept w l) x g))

  meaning_so : (s : Scopes) (w : Word) (e : Declared) → Holds s → meaning s w ≡ Some e → P e
  meaning_so s w e h f =
      means_so s.kept w false s.levels e (each_other (λ (l : Level). AllNames l.names) (λ (l : Level). (x : Declared) → in_level s.kept w l ≡ Some x → P x) (λ l k x g. level_so s.kept w l x k (members_so l.within s.kept h.kept) g) s.levels h.levels) f

-- ---- what is found is declared

-- it is what one of these names is declared as
abbrev pub IsDeclared : List Entry → Declared → Type 0
IsDeclared ds e = (y : Name) × (IsOne (e.denotes, y) ds × (e.at ≡ y.span))

pub one_front : {A : Type 0} (x : A) (xs ys : List A) → IsOne x xs → IsOne x (xs ++ ys)
one_front x [] ys h = absurd h
one_front x (y ∷ xs) ys (inl e) = inl e
one_front x (y ∷ xs) ys (inr h) = inr (one_front x xs ys h)

pub one_back : {A : Type 0} (x : A) (xs ys : List A) → IsOne x ys → IsOne x (xs ++ ys)
one_back x [] ys h = h
one_back x (y ∷ xs) ys h = inr (one_back x xs ys h)

-- what an event declares all of them declare
declared_among : (es : Events) (e : Event) → IsOne e es → (z : Entry) → IsOne z (declares_at e) → IsOne z (declares_in es)
declared_among [] e o z h = absurd o
declared_among (f ∷ es) e (inl is) z h = one_front z (declares_at f) (declares_in es) (subst (λ (x : Event). IsOne z (declares_at x)) is h)
declared_among (f ∷ es) e (inr o) z h = one_back z (declares_at f) (declares_in es) (declared_among es e o z h)

events_declare : (es : Events) (e : Event) → IsOne e es → (s : Scopes) → OfEvent (IsDeclared (declares_in es)) s e
events_declare es (Declare names k inside) o s = each names (λ z h. declared_among es (Declare names k inside) o z h)
  where
    each : (xs : List Name) → ((z : Entry) → IsOne z (map (λ (x : Name). (k, x)) xs) → IsOne z (declares_in es)) → Each (λ (x : Name). IsDeclared (declares_in es) (declaration x k (inside_of s inside))) xs
    each [] within = tt
    each (x ∷ xs) within = ((x, (within (k, x) (inl refl), refl)), each xs (λ z h. within z (inr h)))
events_declare es (Open f) o s = tt
events_declare es Close o s = tt
events_declare es (Keep span) o s = tt
events_declare es (Import x) o s = tt
events_declare es (Receive ip x names) o s = tt
events_declare es (Array span of) o s = tt
events_declare es (Use x n steps) o s = tt
events_declare es (By role) o s = tt
events_declare es (Init modvar body) o s = tt
events_declare es (States at states initial transitions) o s = tt

-- what a name means was declared before
pub name_found : (before : Events) (w : Word) (e : Declared) → meaning (after start before) w ≡ Some e → IsDeclared (declares_in before) e
name_found before w e f =
    meaning_so (IsDeclared (declares_in before)) (after start before) w e (after_so (IsDeclared (declares_in before)) start before (events_declare before) (record { levels = tt; kept = tt })) f
