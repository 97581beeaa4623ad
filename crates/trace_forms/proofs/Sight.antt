-- What is known of the names in sight at a place of the text, and which events keep it so.
use Rattle.std.proofs.Common.{◌≡◌, ◌∙◌, ℕ, ◌+◌, ◌≤◌, Bool, true, false, nat_eq, if◌then◌else◌, List, [], ◌∷◌, ◌++◌, Option, Some, None, refl, ap, sym, subst, arith, ◌⊎◌, inl, inr, cond}
use Rattle.std.specs.Option.{unwrap_or}
use Rattle.std.specs.Map.{lookup}
use Rattle.std.specs.List.{AllByRecursion}
use Rattle.std.proofs.lemmas.Bool.Decides.{Decides-eqb}
use Rattle.estelle_tree.specs.declared.names.Use.{Use as Used}
use Rattle.estelle_tree.specs.declared.tree.name.Name.{Name}
use Rattle.estelle_tree.specs.Input.{Input}
use Rattle.estelle_tree.specs.Types.{IsName}
use Rattle.scope_rules.specs.declared.declaration.Members.{Members}
use Rattle.scope_rules.specs.declared.declaration.Members.TheVariants as members
use Rattle.scope_rules.specs.declared.declaration.Declared.{Declared}
use Rattle.scope_rules.specs.declared.declaration.Denotes.{Denotes}
use Rattle.scope_rules.specs.declared.declaration.Denotes.TheVariants as d
use Rattle.scope_rules.specs.declared.declaration.Need.TheVariants as need
use Rattle.scope_rules.specs.declared.event.ScopeForm.{ScopeForm}
use Rattle.scope_rules.specs.declared.event.Event.{Event}
use Rattle.scope_rules.specs.declared.event.Event.TheVariants.{Open, Close, Keep, Import, Receive, Declare, Use}
use Rattle.scope_rules.specs.Kinds.{may_be}
use Rattle.scope_rules.specs.TypeEvents.{Events}
use Rattle.scope_rules.specs.Visible.{Scope, Level, Scopes, kept_at, inside_of, meaning, reached, inside_named}
use Rattle.scope_rules.specs.Scopes.{after, after_one, declaration, innermost, join_level, below, put}
use Rattle.scope_rules.specs.NameRules.{IsOne}
use Rattle.accepted_states.proofs.Lists.{Each, one_if}
use Rattle.accepted_states.proofs.Uses.{Say, Says, after-append}
use Rattle.accepted_states.proofs.Scopes.{Stands, Steady, opened}
use Rattle.accepted_states.proofs.Fine.{among, Less, less_same, less_name}
use Rattle.accepted_states.proofs.Fit.{starts}
use Rattle.accepted_states.proofs.Bodies.{nowhere}
use Rattle.trace_forms.proofs.InSight.{Declares, one_are, KeepsAway, one_kept, after_kept, AreSound, IsSeenIn, InSight, meaning_seen, sight_stays}
use Rattle.trace_forms.proofs.Keeps.{KeepsHere, AllKeep}
use Rattle.trace_forms.proofs.Held.{Known}
use Rattle.trace_forms.proofs.Needed.{NameKnown, known_more, EventKnown, UsesKnown, found_known}

-- ---- places of the text

-- no token from here on begins there
abbrev pub Past : Input → ℕ → Type 0
Past i p = among (starts (nat_eq p)) i ≡ 0

-- the tokens from here on end somewhere, and no two of them begin at one place
pub record Text (i : Input) : Type 0 where
  pub ends : among nowhere i ≡ 0
  pub once : (p : ℕ) → among (starts (nat_eq p)) i ≤ 1

pub text_later : {i j : Input} → Less i j → Text i → Text j
text_later {i} {j} l h = record {
  ends = let a = l.most nowhere in let b = h.ends in omega (arith, a, b);
  once = λ p. let a = l.most (starts (nat_eq p)) in let b = h.once p in omega (arith, a, b);
}

-- what is past stays so
pub past_later : (i j : Input) → Less i j → (p : ℕ) → Past i p → Past j p
past_later i j l p h = let a = l.most (starts (nat_eq p)) in omega (arith, a, h)

-- behind a name its place is past
pub name_past : {x : Name} {i j : Input} → IsName x i j → Text i → Past j x.span.start
name_past {x} {i} {j} h t =
    let p = x.span.start in
    let a = less_name h (starts (nat_eq p)) in
    let b = ap one_if ((Decides-eqb p p).1 refl) in
    let c = t.once p in
    omega (arith, a, b, c)

-- a name ends somewhere
pub name_ends : {x : Name} {i j : Input} → IsName x i j → Text i → nat_eq x.span.end 0 ≡ false
name_ends {x} {i} {j} h t = by (nowhere x.span) (less_name h nowhere)
  where
    by : (b : Bool) → one_if b + among nowhere j ≤ among nowhere i → b ≡ false
    by true l = let e = t.ends in absurd (omega (arith, l, e))
    by false l = refl

-- what keeps names for tokens from here on keeps none for what is past
away_one : (i : Input) (e : Event) → KeepsHere i e → KeepsAway (Past i) e
away_one i (Keep span) h = λ p e. by p e (nat_eq p span.start) refl
  where
    by : (p : ℕ) → Past i p → (b : Bool) → nat_eq p span.start ≡ b → b ≡ false
    by p e true f = absurd (let a = ap (λ q. among (starts (nat_eq q)) i) ((Decides-eqb p span.start).0 f) in omega (arith, a, e, h))
    by p e false f = refl
away_one i _ h = tt

pub keep_away : (i : Input) (es : Events) → AllKeep i es → AllByRecursion (KeepsAway (Past i)) es
keep_away i [] h = tt
keep_away i (e ∷ es) h = (away_one i e h.0, keep_away i es h.1)

-- what was kept for a place last
pub put_here : (at : ℕ) (names : Scope) (kept : List (ℕ × Scope)) → kept_at (put at names kept) at ≡ names
put_here at names [] = ap (λ b. unwrap_or (cond b (Some names) None) []) ((Decides-eqb at at).1 refl)
put_here at names (x ∷ xs) = by (put_here at names xs) (nat_eq at x.0) refl
  where
    by : kept_at (put at names xs) at ≡ names → (b : Bool) → nat_eq at x.0 ≡ b → kept_at (if b then (x.0, names) ∷ xs else x ∷ put at names xs) at ≡ names
    by more true e = ap (λ b. unwrap_or (cond b (Some names) (lookup (nat_eq at) xs)) []) e
    by more false e = ap (λ b. unwrap_or (cond b (Some x.1) (lookup (nat_eq at) (put at names xs))) []) e ∙ more

-- ---- what is known

-- all of the one is among the other
abbrev pub Within : Known → Known → Type 0
Within K L = (e : Denotes × ℕ) → IsOne e K → IsOne e L

-- what an event declares is known, and no header; it brings no names that are kept
abbrev pub Brings : Known → Event → Type 0
Brings K (Declare names k inside) = (k ≡ d.Header → ⊥) × AllByRecursion (λ (x : Name). NameKnown K x.word (declaration x k members.Nothing)) names
Brings K (Import x) = ⊥
Brings K (Receive ip x names) = ⊥
Brings K e = Unit {0}

abbrev pub AllBring : Known → Events → Type 0
AllBring K = AllByRecursion (Brings K)

module _ (K L : Known) (more : Within K L) where
  names_more : (k : Denotes) (xs : List Name) → AllByRecursion (λ (x : Name). NameKnown K x.word (declaration x k members.Nothing)) xs → AllByRecursion (λ (x : Name). NameKnown L x.word (declaration x k members.Nothing)) xs
  names_more k [] h = tt
  names_more k (x ∷ xs) h = (known_more K L more x.word (declaration x k members.Nothing) h.0, names_more k xs h.1)

  bring_one : (e : Event) → Brings K e → Brings L e
  bring_one (Declare names k inside) h = (h.0, names_more k names h.1)
  bring_one (Import x) h = absurd h
  bring_one (Receive ip x names) h = absurd h
  bring_one _ h = tt

  pub bring_more : (es : Events) → AllBring K es → AllBring L es
  bring_more [] h = tt
  bring_more (e ∷ es) h = (bring_one e h.0, bring_more es h.1)

-- ---- what is in sight

-- so much is known of the names in sight at a place, where these headers are not closed yet
pub record Sight (i : Input) (pending : ℕ → Type 0) (K : Known) (s : Scopes) : Type 0 where
  pub text : Text i
  pub levels : InSight (Past i) pending (NameKnown K) s.kept s.levels

-- no header is open
abbrev pub closed : ℕ → Type 0
closed p = ⊥

-- further on more may be known, and fewer headers closed
pub sight_more : {i j : Input} {K : Known} {s : Scopes} (pending left : ℕ → Type 0) (L : Known) → ((p : ℕ) → pending p → left p) → Less i j → Within K L → Sight i pending K s → Sight j left L s
sight_more {i} {j} {K} {s} pending left L turn l more h = record {
  text = text_later l h.text;
  levels = sight_stays (Past i) (Past j) pending left (NameKnown K) (NameKnown L) s.kept s.kept (past_later i j l) (λ p e. inl (turn p e)) (known_more K L more) (λ p e. refl) s.levels h.levels;
}

-- with more known
pub sight_known : {i : Input} {K : Known} {s : Scopes} (pending : ℕ → Type 0) (L : Known) → Within K L → Sight i pending K s → Sight i pending L s
sight_known {i} pending L more h = sight_more pending pending L (λ p e. e) (less_same {i = i} refl) more h

-- further on in the text
pub sight_later : {i j : Input} {K : Known} {s : Scopes} → Less i j → Sight i closed K s → Sight j closed K s
sight_later {i} {j} {K} l h = sight_more closed closed K (λ p e. e) l (λ e o. o) h

module _ (i : Input) (pending : ℕ → Type 0) (K : Known) where
  each_seen : (kept : List (ℕ × Scope)) (f : ScopeForm) (k : Denotes) (inside : Members) → (k ≡ d.Header → ⊥) → (xs : List Name) → AllByRecursion (λ (x : Name). NameKnown K x.word (declaration x k members.Nothing)) xs
      → Each (λ (x : Name). IsSeenIn (Past i) pending (NameKnown K) kept f x.word (declaration x k inside)) xs
  each_seen kept f k inside other [] h = tt
  each_seen kept f k inside other (x ∷ xs) h = (((h.0, λ is. absurd (other is)), λ e is. other is), each_seen kept f k inside other xs h.1)

  declares : (s : Scopes) (e : Event) → Brings K e → Declares (IsSeenIn (Past i) pending (NameKnown K) s.kept) (AreSound (Past i) pending (NameKnown K) s.kept) s e
  declares s (Declare names k inside) h = λ f. each_seen s.kept f k (inside_of s inside) h.0 names h.1
  declares s (Import x) h = absurd h
  declares s (Receive ip x names) h = absurd h
  declares s _ h = tt

  -- for what is past the same is kept behind these events, and this holds of the scopes that are open there
  pub sight_behind : {j : Input} {s : Scopes} (es : Events) (levels : List Level) → AllKeep i es → Less i j → (after s es).levels ≡ levels → InSight (Past i) pending (NameKnown K) s.kept levels → Sight i pending K s → Sight j pending K (after s es)
  sight_behind {j} {s} es levels k l is now h =
      let on = past_later i j l in
      let same = after_kept (Past i) s es (keep_away i es k) in
      record {
        text = text_later l h.text;
        levels = subst (InSight (Past j) pending (NameKnown K) (after s es).kept) (sym is) (sight_stays (Past i) (Past j) pending pending (NameKnown K) (NameKnown K) s.kept (after s es).kept on (λ p e. inl e) (λ w e h. h) same levels now);
      }

  -- an event that declares what is known leaves what is in sight known
  pub sight_one : (s : Scopes) (e : Event) → Brings K e → KeepsAway (Past i) e → Sight i pending K s → Sight i pending K (after_one s e)
  sight_one s e b k h =
      let now = (after_one s e).kept in
      record {
        text = h.text;
        levels = sight_stays (Past i) (Past i) pending pending (NameKnown K) (NameKnown K) s.kept now (λ p e. e) (λ p e. inl e) (λ w e h. h) (one_kept (Past i) s e k) (after_one s e).levels
            (one_are (IsSeenIn (Past i) pending (NameKnown K) s.kept) (AreSound (Past i) pending (NameKnown K) s.kept) tt s e (declares s e b) h.levels);
      }

  event_known : (names : List Used) (s : Scopes) (e : Event) → Sight i pending K s → Says names s e → EventKnown names K e
  event_known names s (Use x n steps) h f = found_known names (Past i) pending K s x n h.levels f
  event_known names s _ h f = tt

  -- such events use what is known
  pub read : (names : List Used) (s : Scopes) (es : Events) → AllBring K es → AllByRecursion (KeepsAway (Past i)) es → Sight i pending K s → Say names s es → UsesKnown names K es × Sight i pending K (after s es)
  read names s [] b k h say = (tt, h)
  read names s (e ∷ es) b k h say =
      let more = read names (after_one s e) es b.1 k.1 (sight_one s e b.0 k.0 h) say.1 in
      ((event_known names s e h say.0, more.0), more.1)

-- ---- what a header brings

needs_header : (k : Denotes) → may_be need.Header k ≡ true → k ≡ d.Header
needs_header d.Header h = refl
needs_header d.Constant h = absurd (cc)
needs_header d.Type h = absurd (cc)
needs_header d.Variable h = absurd (cc)
needs_header d.Exported h = absurd (cc)
needs_header d.Field h = absurd (cc)
needs_header d.Procedure h = absurd (cc)
needs_header d.Function h = absurd (cc)
needs_header d.RequiredFunction h = absurd (cc)
needs_header d.Channel h = absurd (cc)
needs_header d.Role h = absurd (cc)
needs_header d.Interaction h = absurd (cc)
needs_header d.Body h = absurd (cc)
needs_header d.ModuleVariable h = absurd (cc)
needs_header d.Ip h = absurd (cc)
needs_header d.State h = absurd (cc)
needs_header d.StateSet h = absurd (cc)

module _ (i : Input) (K : Known) (s : Scopes) (h : Sight i closed K s) where
  abbrev SoundHere : Members → Type 0
  SoundHere = AreSound (Past i) closed (NameKnown K) s.kept

  imported_sound : (x : Name) → SoundHere (inside_named s x need.Header)
  imported_sound x = by (meaning s x.word) refl
    where
      brought : (e : Declared) (p : ℕ) → e.inside ≡ members.KeptAt p → closed p ⊎ SoundHere (members.KeptAt p) → SoundHere e.inside
      brought e p is (inl f) = absurd f
      brought e p is (inr f) = subst SoundHere (sym is) f

      fit : (e : Declared) → meaning s x.word ≡ Some e → (b : Bool) → may_be need.Header e.denotes ≡ b → SoundHere (if b then e.inside else members.AtFault)
      fit e is true f = let b = (meaning_seen (Past i) closed (NameKnown K) s x.word e h.levels is).1 (needs_header e.denotes f) in brought e b.0 b.1.0 b.1.1
      fit e is false f = tt

      by : (o : Option Declared) → meaning s x.word ≡ o → SoundHere (reached need.Header o)
      by None is = tt
      by (Some e) is = fit e is (may_be need.Header e.denotes) refl

  joined : (m : Members) → SoundHere m → (ls : List Level) → InSight (Past i) closed (NameKnown K) s.kept ls → InSight (Past i) closed (NameKnown K) s.kept (innermost (join_level m) ls)
  joined m f [] g = tt
  joined m f (l ∷ ls) g = ((g.0.0, f), g.1)

  -- the names of a header come into sight
  pub sight_import : (x : Name) → Sight i closed K (after_one s (Import x))
  sight_import x = record { text = h.text; levels = joined (inside_named s x need.Header) (imported_sound x) s.levels h.levels }

-- ---- scopes that close again

-- behind a scope the same scopes are open as before it
pub levels_closed : (ys zs : List Name) (f g : ScopeForm) (outer : List Level) (s : Scopes) (es : Events) → Steady zs es → Stands ys f outer s → (after s (Open g ∷ (es ++ Close ∷ []))).levels ≡ s.levels
levels_closed ys zs f g outer s es h st =
    ap (λ (t : Scopes). t.levels) (after-append (after_one s (Open g)) es (Close ∷ []))
    ∙ ap (λ ls. below ls) (h g s.levels (after_one s (Open g)) (opened ys zs f g outer s st)).levels
