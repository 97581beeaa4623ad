-- What is in sight in the open scopes: what holds of each name there, and of each name that is kept for a header that is known there.
use Rattle.std.proofs.Common.{◌≡◌, ◌∙◌, ℕ, Bool, true, false, nat_eq, if◌then◌else◌, List, [], ◌∷◌, Some, None, refl, ap, sym, subst, cond, ◌⊎◌, inl, inr}
use Rattle.std.specs.Map.{lookup}
use Rattle.std.specs.Option.{unwrap_or}
use Rattle.std.specs.List.{AllByRecursion}
use Rattle.std.proofs.lemmas.Bool.Decides.{Decides-eqb}
use Rattle.estelle_tree.specs.declared.tree.name.Name.{Name}
use Rattle.scope_rules.specs.declared.declaration.Denotes.{Denotes}
use Rattle.scope_rules.specs.declared.declaration.Denotes.TheVariants as d
use Rattle.scope_rules.specs.declared.declaration.Members.{Members}
use Rattle.scope_rules.specs.declared.declaration.Members.TheVariants as members
use Rattle.scope_rules.specs.declared.declaration.Declared.{Declared}
use Rattle.scope_rules.specs.declared.event.ScopeForm.{ScopeForm}
use Rattle.scope_rules.specs.declared.event.Event.{Event}
use Rattle.scope_rules.specs.declared.event.Event.TheVariants.{Open, Close, Keep, Import, Receive, Array, Declare, Use, By, Init, States}
use Rattle.scope_rules.specs.TypeEvents.{Events}
use Rattle.scope_rules.specs.Visible.{Word, Scope, Level, Scopes, kept_at, member_names, in_level, is_body, meaning, inside_of}
use Rattle.scope_rules.specs.Scopes.{after, after_one, declaration, innermost, declare_level, declare_one, declare_all, put, below}
use Rattle.accepted_states.proofs.Lists.{Each, each_other}
use Rattle.trace_forms.proofs.TypesFound.{AllNames, declared_so, level_so, means_so}

-- ---- names of open scopes

-- P : what holds of a word and what it is declared as, in a scope of a form; W : of a scope's further members
module _ (P : ScopeForm → Word → Declared → Type 0) (W : Members → Type 0) where
  abbrev pub LevelIs : Level → Type 0
  LevelIs l = AllNames (P l.form) l.names × W l.within

  abbrev pub LevelsAre : List Level → Type 0
  LevelsAre = Each LevelIs

  -- an event declares what this holds of, and brings no kept names
  abbrev pub Declares : Scopes → Event → Type 0
  Declares s (Declare names k inside) = (f : ScopeForm) → Each (λ (x : Name). P f x.word (declaration x k (inside_of s inside))) names
  Declares s (Import x) = ⊥
  Declares s (Receive ip x names) = ⊥
  Declares s e = Unit {0}

  pub below_are : (ls : List Level) → LevelsAre ls → LevelsAre (below ls)
  below_are [] h = tt
  below_are (l ∷ ls) h = h.1

  -- one more name in the innermost scope
  pub named_are : (w : Word) (e : Declared) (l : Level) (ls : List Level) → P l.form w e → LevelsAre (l ∷ ls) → LevelsAre (declare_level w e l ∷ ls)
  named_are w e l ls k h = ((declared_so (P l.form) w e l.names h.0.0 k, h.0.1), h.1)

  any_are : (w : Word) (e : Declared) (ls : List Level) → ((f : ScopeForm) → P f w e) → LevelsAre ls → LevelsAre (innermost (declare_level w e) ls)
  any_are w e [] k h = tt
  any_are w e (l ∷ ls) k h = named_are w e l ls (k l.form) h

  all_are : (xs : List Name) (k : Denotes) (inside : Members) (s : Scopes) → ((f : ScopeForm) → Each (λ (x : Name). P f x.word (declaration x k inside)) xs) → LevelsAre s.levels → LevelsAre (declare_all s xs k inside).levels
  all_are [] k inside s p h = h
  all_are (x ∷ xs) k inside s p h = all_are xs k inside (declare_one s x k inside) (λ f. (p f).1) (any_are x.word (declaration x k inside) s.levels (λ f. (p f).0) h)

  -- behind such an event the open scopes are so again
  pub one_are : W members.Nothing → (s : Scopes) (e : Event) → Declares s e → LevelsAre s.levels → LevelsAre (after_one s e).levels
  one_are nowhere s (Open f) p h = ((tt, nowhere), h)
  one_are nowhere s Close p h = below_are s.levels h
  one_are nowhere s (Keep span) p h = below_are s.levels h
  one_are nowhere s (Import x) p h = absurd p
  one_are nowhere s (Receive ip x names) p h = absurd p
  one_are nowhere s (Array span of) p h = h
  one_are nowhere s (Declare names k inside) p h = all_are names k (inside_of s inside) s p h
  one_are nowhere s (Use x n steps) p h = h
  one_are nowhere s (By role) p h = h
  one_are nowhere s (Init modvar body) p h = h
  one_are nowhere s (States at states initial transitions) p h = h

-- ---- names that are kept

-- what follows from what holds of each name holds of each
pub names_stay : (A B : Word → Declared → Type 0) → ((w : Word) (e : Declared) → A w e → B w e) → (names : Scope) → AllNames A names → AllNames B names
names_stay A B f = each_other (λ (e : Word × Declared). A e.0 e.1) (λ (e : Word × Declared). B e.0 e.1) (λ e h. f e.0 e.1 h)

-- this holds, and it is no header
abbrev pub NoHeader : (Word → Declared → Type 0) → Word → Declared → Type 0
NoHeader P w e = P w e × (e.denotes ≡ d.Header → ⊥)

-- past : places for which no more names are kept
module _ (past : ℕ → Type 0) where
  -- where it keeps names, it does so for another place
  abbrev pub KeepsAway : Event → Type 0
  KeepsAway (Keep span) = (p : ℕ) → past p → nat_eq p span.start ≡ false
  KeepsAway e = Unit {0}

  put_away : (p at : ℕ) (names : Scope) (kept : List (ℕ × Scope)) → nat_eq p at ≡ false → kept_at (put at names kept) p ≡ kept_at kept p
  put_away p at names [] h = ap (λ b. unwrap_or (cond b (Some names) None) []) h
  put_away p at names (x ∷ xs) h = by (put_away p at names xs h) (nat_eq at x.0) refl
    where
      same : (b : Bool) → kept_at (put at names xs) p ≡ kept_at xs p → unwrap_or (cond b (Some x.1) (lookup (nat_eq p) (put at names xs))) [] ≡ unwrap_or (cond b (Some x.1) (lookup (nat_eq p) xs)) []
      same true more = refl
      same false more = more

      other : nat_eq at x.0 ≡ true → nat_eq p x.0 ≡ false
      other e = subst (λ q. nat_eq p q ≡ false) ((Decides-eqb at x.0).0 e) h

      by : kept_at (put at names xs) p ≡ kept_at xs p → (b : Bool) → nat_eq at x.0 ≡ b → kept_at (if b then (x.0, names) ∷ xs else x ∷ put at names xs) p ≡ kept_at (x ∷ xs) p
      by more true e = ap (λ b. unwrap_or (cond b (Some names) (lookup (nat_eq p) xs)) []) (other e) ∙ sym (ap (λ b. unwrap_or (cond b (Some x.1) (lookup (nat_eq p) xs)) []) (other e))
      by more false e = same (nat_eq p x.0) more

  declared_keeps : (s : Scopes) (xs : List Name) (k : Denotes) (inside : Members) → (declare_all s xs k inside).kept ≡ s.kept
  declared_keeps s [] k inside = refl
  declared_keeps s (x ∷ xs) k inside = declared_keeps (declare_one s x k inside) xs k inside

  pub one_kept : (s : Scopes) (e : Event) → KeepsAway e → (p : ℕ) → past p → kept_at (after_one s e).kept p ≡ kept_at s.kept p
  one_kept s (Keep span) h p e = put_away p span.start _ s.kept (h p e)
  one_kept s (Declare names k inside) h p e = ap (λ ks. kept_at ks p) (declared_keeps s names k (inside_of s inside))
  one_kept s (Open f) h p e = refl
  one_kept s Close h p e = refl
  one_kept s (Import x) h p e = refl
  one_kept s (Receive ip x names) h p e = refl
  one_kept s (Array span of) h p e = refl
  one_kept s (Use x n steps) h p e = refl
  one_kept s (By role) h p e = refl
  one_kept s (Init modvar body) h p e = refl
  one_kept s (States at states initial transitions) h p e = refl

  -- for such a place the same names are kept behind these events
  pub after_kept : (s : Scopes) (es : Events) → AllByRecursion KeepsAway es → (p : ℕ) → past p → kept_at (after s es).kept p ≡ kept_at s.kept p
  after_kept s [] h p e = refl
  after_kept s (v ∷ es) h p e = after_kept (after_one s v) es h.1 p e ∙ one_kept s v h.0 p e

  -- ---- what is in sight

  -- pending : places of headers that are not closed yet
  module _ (pending : ℕ → Type 0) (P : Word → Declared → Type 0) (kept : List (ℕ × Scope)) where
    -- of each name that is kept for it the same holds, and none is a header
    abbrev pub IsSound : ℕ → Type 0
    IsSound p = past p × AllNames (NoHeader P) (kept_at kept p)

    -- members are those that are kept for such a place, or none
    abbrev pub AreSound : Members → Type 0
    AreSound members.Nothing = Unit {0}
    AreSound (members.KeptAt p) = IsSound p
    AreSound members.AtFault = Unit {0}

    -- a header that is closed brings what is kept for it
    abbrev pub BringsSound : Declared → Type 0
    BringsSound e = e.denotes ≡ d.Header → (p : ℕ) × ((e.inside ≡ members.KeptAt p) × (pending p ⊎ IsSound p))

    abbrev pub IsSeen : Word → Declared → Type 0
    IsSeen w e = P w e × BringsSound e

    -- headers are declared in bodies alone
    abbrev pub IsSeenIn : ScopeForm → Word → Declared → Type 0
    IsSeenIn f w e = IsSeen w e × (is_body f ≡ false → e.denotes ≡ d.Header → ⊥)

    -- this holds of all open scopes
    abbrev pub InSight : List Level → Type 0
    InSight = LevelsAre IsSeenIn AreSound

    kept_seen : (w : Word) (e : Declared) → NoHeader P w e → IsSeen w e
    kept_seen w e h = (h.0, λ is. absurd (h.1 is))

    members_sound : (m : Members) → AreSound m → AllNames (NoHeader P) (member_names kept m)
    members_sound members.Nothing h = tt
    members_sound (members.KeptAt p) h = h.1
    members_sound members.AtFault h = tt

    level_seen : (w : Word) (l : Level) → LevelIs IsSeenIn AreSound l → (e : Declared) → in_level kept w l ≡ Some e → IsSeen w e
    level_seen w l h e f =
        level_so IsSeen kept w l e (names_stay (IsSeenIn l.form) IsSeen (λ v x k. k.0) l.names h.0)
        (names_stay (NoHeader P) IsSeen kept_seen (member_names kept l.within) (members_sound l.within h.1)) f

  -- what a name means is in sight
  pub meaning_seen : (pending : ℕ → Type 0) (P : Word → Declared → Type 0) (s : Scopes) (w : Word) (e : Declared) → InSight pending P s.kept s.levels → meaning s w ≡ Some e → IsSeen pending P s.kept w e
  meaning_seen pending P s w e h f =
      means_so (IsSeen pending P s.kept) s.kept w false s.levels e
      (each_other (LevelIs (IsSeenIn pending P s.kept) (AreSound pending P s.kept)) (λ (l : Level). (x : Declared) → in_level s.kept w l ≡ Some x → IsSeen pending P s.kept w x) (level_seen pending P s.kept w) s.levels h) f

-- ---- what stays in sight

-- past, pending, P, kept : before; the others : later, where the same names are kept for what is past, and what was pending is sound or still pending
module _ (past later : ℕ → Type 0) (pending left : ℕ → Type 0) (P Q : Word → Declared → Type 0) (kept after : List (ℕ × Scope))
    (on : (p : ℕ) → past p → later p) (turn : (p : ℕ) → pending p → left p ⊎ IsSound later left Q after p) (more : (w : Word) (e : Declared) → P w e → Q w e) (same : (p : ℕ) → past p → kept_at after p ≡ kept_at kept p) where
  sound_stays : (p : ℕ) → IsSound past pending P kept p → IsSound later left Q after p
  sound_stays p h = (
    on p h.0,
    subst (AllNames (NoHeader Q)) (sym (same p h.0)) (names_stay (NoHeader P) (NoHeader Q) (λ w e k. (more w e k.0, k.1)) (kept_at kept p) h.1),
  )

  members_stay : (m : Members) → AreSound past pending P kept m → AreSound later left Q after m
  members_stay members.Nothing h = tt
  members_stay (members.KeptAt p) h = sound_stays p h
  members_stay members.AtFault h = tt

  turned : (p : ℕ) → pending p ⊎ IsSound past pending P kept p → left p ⊎ IsSound later left Q after p
  turned p (inl h) = turn p h
  turned p (inr h) = inr (sound_stays p h)

  seen_stays : (f : ScopeForm) (w : Word) (e : Declared) → IsSeenIn past pending P kept f w e → IsSeenIn later left Q after f w e
  seen_stays f w e h = ((more w e h.0.0, λ is. let b = h.0.1 is in (b.0, (b.1.0, turned b.0 b.1.1))), h.1)

  -- all stays in sight
  pub sight_stays : (levels : List Level) → InSight past pending P kept levels → InSight later left Q after levels
  sight_stays [] h = tt
  sight_stays (l ∷ ls) h = ((names_stay (IsSeenIn past pending P kept l.form) (IsSeenIn later left Q after l.form) (seen_stays l.form) l.names h.0.0, members_stay l.within h.0.1), sight_stays ls h.1)
