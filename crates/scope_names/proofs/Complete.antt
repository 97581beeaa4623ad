-- Where no rule on names is broken, each name in use has the name in its declaration: nothing that is brought is at fault.
use Rattle.std.proofs.Common.{◌≡◌, ◌∙◌, ℕ, ◌⊎◌, inl, inr, Bool, true, false, nat_eq, nat_lt, ◌||◌, ◌&&◌, if◌then◌else◌, List, [], ◌∷◌, ◌++◌, Option, Some, None, refl, ap, sym, subst, cond}
use Rattle.std.specs.Map.{lookup}
use Rattle.std.specs.Option.{unwrap_or}
use Rattle.std.specs.List.{flat_map, AllByRecursion}
use Rattle.std.specs.Str.{bytes_eq}
use Rattle.estelle_tree.specs.declared.span.Span.{Span}
use Rattle.estelle_tree.specs.declared.names.Use.{Use as Used}
use Rattle.estelle_tree.specs.declared.tree.name.Name.{Name}
use Rattle.estelle_tree.specs.declared.tree.specification.Spec.{Spec}
use Rattle.scope_rules.specs.declared.declaration.Denotes.{Denotes}
use Rattle.scope_rules.specs.declared.declaration.Need.{Need}
use Rattle.scope_rules.specs.declared.declaration.Inside.{Inside}
use Rattle.scope_rules.specs.declared.declaration.Inside.TheVariants.{Nothing, At, Brought}
use Rattle.scope_rules.specs.declared.declaration.Members.{Members}
use Rattle.scope_rules.specs.declared.declaration.Members.TheVariants as members
use Rattle.scope_rules.specs.declared.declaration.Declared.{Declared}
use Rattle.scope_rules.specs.declared.event.Step.{Step}
use Rattle.scope_rules.specs.declared.event.Step.TheVariants as step
use Rattle.scope_rules.specs.declared.event.Event.{Event}
use Rattle.scope_rules.specs.declared.event.Event.TheVariants.{Open, Close, Keep, Import, Receive, Array, Declare, Use, By, Init, States}
use Rattle.scope_rules.specs.declared.refusal.Breach.{Breach}
use Rattle.scope_rules.specs.Least.{breach}
use Rattle.scope_rules.specs.Kinds.{may_be, is_private, is_of_channel, is_noted}
use Rattle.scope_rules.specs.TypeEvents.{Events}
use Rattle.scope_rules.specs.SpecificationEvents.{events}
use Rattle.scope_rules.specs.Visible.{Word, Scope, Level, Scopes, kept_at, member_names, in_names, earlier, earliest, in_level, is_body, seen, hiding, alone, meaning_of, meaning, reached, member, brought_at, brought_by, inside_named, inside_of}
use Rattle.scope_rules.specs.Scopes.{start, put, declared, declaration, innermost, declare_level, declare_one, declare_all, below, names_of_top, join_level, after_one, Sought, sought_name, sought_role, sought_step, after_step, sought_steps, sought}
use Rattle.scope_rules.specs.NameRules.{IsOne, Somewhere, Broken, Breaks, NameRuleBroken, used, used_at, names_from, names_of}
use Rattle.scope_rules.specs.NamesInUse.{step_names, event_names, names_in_use, HasUse, IsComplete}
use Rattle.scope_names.proofs.Lists.{used-append}

-- ---- what is found at a place of a map

all_put : {A : Type 0} (P : A → Type 0) (at : ℕ) (v : A) (es : List (ℕ × A)) → P v → AllByRecursion (λ (e : ℕ × A). P e.1) es → AllByRecursion (λ (e : ℕ × A). P e.1) (put at v es)
all_put P at v [] p h = (p, tt)
all_put {A} P at v (e ∷ es) p h = by (all_put P at v es p h.1) (nat_eq at e.0)
  where
    by : AllByRecursion (λ (e : ℕ × A). P e.1) (put at v es) → (b : Bool) → AllByRecursion (λ (e : ℕ × A). P e.1) (if b then (e.0, v) ∷ es else e ∷ put at v es)
    by more true = (p, h.1)
    by more false = (h.0, more)

all_looked_up : {A : Type 0} (P : A → Type 0) (at : ℕ) (other : A) (es : List (ℕ × A)) → P other → AllByRecursion (λ (e : ℕ × A). P e.1) es → P (unwrap_or (lookup (nat_eq at) es) other)
all_looked_up P at other [] p h = p
all_looked_up P at other (e ∷ es) p h = by (all_looked_up P at other es p h.1) (nat_eq at e.0)
  where
    by : P (unwrap_or (lookup (nat_eq at) es) other) → (b : Bool) → P (unwrap_or (cond b (Some e.1) (lookup (nat_eq at) es)) other)
    by more true = h.0
    by more false = more

-- ---- nothing that is declared or noted is at fault

abbrev IsGiven : Members → Type 0
IsGiven m = m ≡ members.AtFault → ⊥

abbrev AreGiven : Scope → Type 0
AreGiven = AllByRecursion (λ (e : Word × Declared). IsGiven e.1.inside)

record IsSure (s : Scopes) : Type 0 where
  pub levels : AllByRecursion (λ (l : Level). AreGiven l.names) s.levels
  pub kept : AllByRecursion (λ (e : ℕ × Scope). AreGiven e.1) s.kept
  pub brought : AllByRecursion (λ (e : ℕ × Members). IsGiven e.1) s.brought

nothing_given : IsGiven members.Nothing
nothing_given e = cc

kept_given : (at : ℕ) → IsGiven (members.KeptAt at)
kept_given at e = cc

found_given : (w : Word) (names : Scope) (d : Declared) → AreGiven names → in_names w names ≡ Some d → IsGiven d.inside
found_given w [] d h f = absurd (cc)
found_given w (e ∷ es) d h f = by (λ g. found_given w es d h.1 g) (bytes_eq w e.0) f
  where
    by : (in_names w es ≡ Some d → IsGiven d.inside) → (b : Bool) → cond b (Some e.1) (in_names w es) ≡ Some d → IsGiven d.inside
    by more true g = let same : e.1 ≡ d = cc in subst (λ (x : Declared). IsGiven x.inside) same h.0
    by more false g = more g

members_given : (kept : List (ℕ × Scope)) (m : Members) → AllByRecursion (λ (e : ℕ × Scope). AreGiven e.1) kept → AreGiven (member_names kept m)
members_given kept members.Nothing h = tt
members_given kept (members.KeptAt at) h = all_looked_up AreGiven at [] kept tt h
members_given kept members.AtFault h = tt

earliest_given : (a b : Option Declared) (d : Declared) → ((x : Declared) → a ≡ Some x → IsGiven x.inside) → ((x : Declared) → b ≡ Some x → IsGiven x.inside) → earliest a b ≡ Some d → IsGiven d.inside
earliest_given None b d p q f = q d f
earliest_given (Some x) None d p q f = p d f
earliest_given (Some x) (Some y) d p q f = by (nat_lt y.at.start x.at.start) f
  where
    by : (t : Bool) → Some (if t then y else x) ≡ Some d → IsGiven d.inside
    by true g = q d g
    by false g = p d g

level_given : (kept : List (ℕ × Scope)) (w : Word) (l : Level) (d : Declared) → AllByRecursion (λ (e : ℕ × Scope). AreGiven e.1) kept → AreGiven l.names → in_level kept w l ≡ Some d → IsGiven d.inside
level_given kept w l d h k f =
    earliest_given (in_names w l.names) (in_names w (member_names kept l.within)) d (λ x g. found_given w l.names x k g) (λ x g. found_given w (member_names kept l.within) x (members_given kept l.within h) g) f

meaning_given : (kept : List (ℕ × Scope)) (w : Word) (outside : Bool) (levels : List Level) (d : Declared) → AllByRecursion (λ (e : ℕ × Scope). AreGiven e.1) kept → AllByRecursion (λ (l : Level). AreGiven l.names) levels → meaning_of kept w outside levels ≡ Some d → IsGiven d.inside
meaning_given kept w outside [] d h k f = absurd (cc)
meaning_given kept w outside (l ∷ outer) d h k f = by (λ g. meaning_given kept w (outside || is_body l.form) outer d h k.1 g) (in_level kept w l) refl f
  where
    here : (x : Declared) → in_level kept w l ≡ Some x → (b : Bool) → (if b then None else Some x) ≡ Some d → IsGiven d.inside
    here x is true g = absurd (cc)
    here x is false g = let same : x ≡ d = cc in subst (λ (y : Declared). IsGiven y.inside) same (level_given kept w l x h k.0 is)

    found : (meaning_of kept w (outside || is_body l.form) outer ≡ Some d → IsGiven d.inside) → (x : Declared) → in_level kept w l ≡ Some x → (b : Bool) → hiding outside (if b then None else Some x) (meaning_of kept w (outside || is_body l.form) outer) ≡ Some d → IsGiven d.inside
    found more x is true g = more g
    found more x is false g = here x is (outside && is_private x.denotes) g

    by : (meaning_of kept w (outside || is_body l.form) outer ≡ Some d → IsGiven d.inside) → (o : Option Declared) → in_level kept w l ≡ o → hiding outside (alone o) (meaning_of kept w (outside || is_body l.form) outer) ≡ Some d → IsGiven d.inside
    by more None is g = more g
    by more (Some x) is g = found more x is (is_of_channel x.denotes) g

-- ---- what one event leaves so

below_given : (ls : List Level) → AllByRecursion (λ (l : Level). AreGiven l.names) ls → AllByRecursion (λ (l : Level). AreGiven l.names) (below ls)
below_given [] h = tt
below_given (l ∷ ls) h = h.1

top_given : (ls : List Level) → AllByRecursion (λ (l : Level). AreGiven l.names) ls → AreGiven (names_of_top ls)
top_given [] h = tt
top_given (l ∷ ls) h = h.0

joined_given : (m : Members) (ls : List Level) → AllByRecursion (λ (l : Level). AreGiven l.names) ls → AllByRecursion (λ (l : Level). AreGiven l.names) (innermost (join_level m) ls)
joined_given m [] h = tt
joined_given m (l ∷ ls) h = h

earlier_given : (d e : Declared) → IsGiven d.inside → IsGiven e.inside → IsGiven (earlier d e).inside
earlier_given d e h k = by (nat_lt e.at.start d.at.start)
  where
    by : (b : Bool) → IsGiven (if b then e else d).inside
    by true = k
    by false = h

declared_given : (w : Word) (d : Declared) (names : Scope) → IsGiven d.inside → AreGiven names → AreGiven (declared w d names)
declared_given w d [] k h = (k, tt)
declared_given w d (e ∷ es) k h = by (declared_given w d es k h.1) (bytes_eq w e.0)
  where
    by : AreGiven (declared w d es) → (b : Bool) → AreGiven (if b then (e.0, earlier e.1 d) ∷ es else e ∷ declared w d es)
    by more true = (earlier_given e.1 d h.0 k, h.1)
    by more false = (h.0, more)

level_declared : (w : Word) (d : Declared) (ls : List Level) → IsGiven d.inside → AllByRecursion (λ (l : Level). AreGiven l.names) ls → AllByRecursion (λ (l : Level). AreGiven l.names) (innermost (declare_level w d) ls)
level_declared w d [] k h = tt
level_declared w d (l ∷ ls) k h = (declared_given w d l.names k h.0, h.1)

all_declared : (s : Scopes) (xs : List Name) (k : Denotes) (m : Members) → IsGiven m → IsSure s → IsSure (declare_all s xs k m)
all_declared s [] k m g h = h
all_declared s (x ∷ xs) k m g h = all_declared (declare_one s x k m) xs k m g (record { levels = level_declared x.word (declaration x k m) s.levels g h.levels; kept = h.kept; brought = h.brought })

brought_given : (s : Scopes) (at : ℕ) → IsSure s → IsGiven (brought_at s at)
brought_given s at h = all_looked_up IsGiven at members.Nothing s.brought nothing_given h.brought

inside_given : (s : Scopes) (i : Inside) → IsSure s → IsGiven (inside_of s i)
inside_given s Nothing h = nothing_given
inside_given s (At span) h = kept_given span.start
inside_given s (Brought span) h = brought_given s span.start h

-- ---- names that mean what their places need

-- a name means something, and what its place needs
abbrev Means : Need → Option Declared → Type 0
Means n o = (d : Declared) × ((o ≡ Some d) × (may_be n d.denotes ≡ true))

reached_is : (n : Need) (o : Option Declared) (d : Declared) → o ≡ Some d → may_be n d.denotes ≡ true → reached n o ≡ d.inside
reached_is n o d e f = ap (reached n) e ∙ ap (λ b. if b then d.inside else members.AtFault) f

reached_given : (s : Scopes) (x : Name) (n : Need) → IsSure s → Means n (meaning s x.word) → IsGiven (inside_named s x n)
reached_given s x n h w = subst IsGiven (sym (reached_is n (meaning s x.word) w.0 w.1.0 w.1.1)) (meaning_given s.kept x.word false s.levels w.0 h.kept h.levels w.1.0)

-- none of what is sought breaks a rule
abbrev IsFine : Sought → Type 0
IsFine x = Means x.need x.found

fine_one : (s : Scopes) (e : Event) → ((b : Breach) → Broken b s e → ⊥) → (x : Sought) → IsOne x (sought s e) → IsFine x
fine_one s e kept x one = by x.found refl
  where
    fit : (d : Declared) → x.found ≡ Some d → (b : Bool) → may_be x.need d.denotes ≡ b → Means x.need x.found
    fit d is true f = (d, (is, f))
    fit d is false f = absurd (kept (breach 3 x.name.span) (inr (inr (inl (refl, (x, d, (one, is, f, refl)))))))

    by : (o : Option Declared) → x.found ≡ o → Means x.need x.found
    by None is = absurd (kept (breach 2 x.name.span) (inr (inl (refl, (x, (one, is, refl))))))
    by (Some d) is = fit d is (may_be x.need d.denotes) refl

one_left : {A : Type 0} (x : A) (xs ys : List A) → IsOne x xs → IsOne x (xs ++ ys)
one_left x [] ys h = absurd h
one_left x (y ∷ xs) ys (inl e) = inl e
one_left x (y ∷ xs) ys (inr h) = inr (one_left x xs ys h)

one_right : {A : Type 0} (x : A) (xs ys : List A) → IsOne x ys → IsOne x (xs ++ ys)
one_right x [] ys h = h
one_right x (y ∷ xs) ys h = inr (one_right x xs ys h)

one_of_both : {A : Type 0} (x : A) (xs ys : List A) → IsOne x (xs ++ ys) → IsOne x xs ⊎ IsOne x ys
one_of_both x [] ys h = inr h
one_of_both x (y ∷ xs) ys (inl e) = inl (inl e)
one_of_both x (y ∷ xs) ys (inr h) = elim (one_of_both x xs ys h) [ inl a ↦ inl (inr a) | inr b ↦ inr b ]

has_left : (us vs : List Used) (y : Name) → HasUse us y → HasUse (us ++ vs) y
has_left us vs y h = (h.0, (one_left h.0 us vs h.1.0, h.1.1))

has_right : (us vs : List Used) (y : Name) → HasUse vs y → HasUse (us ++ vs) y
has_right us vs y h = (h.0, (one_right h.0 us vs h.1.0, h.1.1))

-- a name that means something has its use
use_there : (x : Name) (o : Option Declared) (d : Declared) → o ≡ Some d → HasUse (used_at x o) x
use_there x o d is = subst (λ o. HasUse (used_at x o) x) (sym is) (record { at = x.span; decl = d.at }, (inl refl, refl))

-- ---- the steps behind a name

Covers : Scopes → Members → List Step → Type 0
Covers s m ts = (y : Name) → IsOne y (flat_map step_names ts) → HasUse (flat_map used (sought_steps s m ts)) y

member_given : (s : Scopes) (m : Members) (x : Name) (n : Need) → IsSure s → Means n (member s m x.word) → IsGiven (reached n (member s m x.word))
member_given s m x n h w = subst IsGiven (sym (reached_is n (member s m x.word) w.0 w.1.0 w.1.1)) (found_given x.word (member_names s.kept m) w.0 (members_given s.kept m h.kept) w.1.0)

by_given : (s : Scopes) (m : Members) → IsSure s → IsGiven m → IsGiven (brought_by s m)
by_given s members.Nothing h g = nothing_given
by_given s (members.KeptAt at) h g = brought_given s at h
by_given s members.AtFault h g = g

step_found : (s : Scopes) (m : Members) (t : Step) (ts : List Step) → IsSure s → IsGiven m → ((x : Sought) → IsOne x (sought_step s m t ++ sought_steps s (after_step s m t) ts) → IsFine x)
    → (IsGiven (after_step s m t) → ((x : Sought) → IsOne x (sought_steps s (after_step s m t) ts) → IsFine x) → Covers s (after_step s m t) ts)
    → (y : Name) → IsOne y (step_names t ++ flat_map step_names ts) → HasUse (flat_map used (sought_step s m t ++ sought_steps s (after_step s m t) ts)) y
unfolding Covers
step_found s m step.Index ts h g fine more y one = more (by_given s m h g) fine y one
step_found s m (step.Member x n) ts h g fine more y one =
    let w = fine (sought_name x n (member s m x.word)) (inl refl) in
    let rest = flat_map used (sought_steps s (reached n (member s m x.word)) ts) in
    elim one [
      | inl e ↦ has_left (used_at x (member s m x.word)) rest y (subst (λ z. HasUse (used_at x (member s m x.word)) z) (sym e) (use_there x (member s m x.word) w.0 w.1.0))
      | inr o ↦ has_right (used_at x (member s m x.word)) rest y (more (member_given s m x n h w) (λ z p. fine z (inr p)) y o)
    ]
step_found s m (step.Role x) ts h g fine more y one =
    let first = sought_role x (member s m x.word) in
    let rest = sought_steps s members.Nothing ts in
    subst (λ us. HasUse us y) (sym (used-append first rest))
    (has_right (flat_map used first) (flat_map used rest) y (more nothing_given (λ z p. fine z (one_right z first rest p)) y one))

steps_found : (s : Scopes) (m : Members) (ts : List Step) → IsSure s → IsGiven m → ((x : Sought) → IsOne x (sought_steps s m ts) → IsFine x) → Covers s m ts
unfolding Covers
steps_found s m [] h g fine y one = absurd one
steps_found s members.AtFault (t ∷ ts) h g fine y one = absurd (g refl)
steps_found s members.Nothing (t ∷ ts) h g fine y one = step_found s members.Nothing t ts h g fine (λ k f. steps_found s (after_step s members.Nothing t) ts h k f) y one
steps_found s (members.KeptAt at) (t ∷ ts) h g fine y one = step_found s (members.KeptAt at) t ts h g fine (λ k f. steps_found s (after_step s (members.KeptAt at) t) ts h k f) y one

-- ---- events

use_fine : (s : Scopes) (x : Name) (n : Need) (steps : List Step) → ((b : Breach) → Broken b s (Use x n steps) → ⊥) → Means n (meaning s x.word)
use_fine s x n steps kept = fine_one s (Use x n steps) kept (sought_name x n (meaning s x.word)) (inl refl)

event_found : (s : Scopes) (e : Event) → IsSure s → ((b : Breach) → Broken b s e → ⊥) → (y : Name) → IsOne y (event_names e) → HasUse (flat_map used (sought s e)) y
unfolding Covers
event_found s (Use x n steps) h kept y one =
    let w = use_fine s x n steps kept in
    let rest = flat_map used (sought_steps s (inside_named s x n) steps) in
    elim one [
      | inl e ↦ has_left (used_at x (meaning s x.word)) rest y (subst (λ z. HasUse (used_at x (meaning s x.word)) z) (sym e) (use_there x (meaning s x.word) w.0 w.1.0))
      | inr o ↦ has_right (used_at x (meaning s x.word)) rest y (steps_found s (inside_named s x n) steps h (reached_given s x n h w) (λ z p. fine_one s (Use x n steps) kept z (inr p)) y o)
    ]
event_found s (Open f) h kept y one = absurd one
event_found s Close h kept y one = absurd one
event_found s (Keep span) h kept y one = absurd one
event_found s (Import x) h kept y one = absurd one
event_found s (Receive ip x names) h kept y one = absurd one
event_found s (Array span components) h kept y one = absurd one
event_found s (Declare names k inside) h kept y one = absurd one
event_found s (By role) h kept y one = absurd one
event_found s (Init modvar body) h kept y one = absurd one
event_found s (States at states initial transitions) h kept y one = absurd one

event_sure : (s : Scopes) (e : Event) → IsSure s → ((b : Breach) → Broken b s e → ⊥) → IsSure (after_one s e)
event_sure s (Open f) h kept = record { levels = (tt, h.levels); kept = h.kept; brought = h.brought }
event_sure s Close h kept = record { levels = below_given s.levels h.levels; kept = h.kept; brought = h.brought }
event_sure s (Keep span) h kept = record { levels = below_given s.levels h.levels; kept = all_put AreGiven span.start (names_of_top s.levels) s.kept (top_given s.levels h.levels) h.kept; brought = h.brought }
event_sure s (Import x) h kept = record { levels = joined_given _ s.levels h.levels; kept = h.kept; brought = h.brought }
event_sure s (Receive ip x names) h kept = record { levels = joined_given _ s.levels h.levels; kept = h.kept; brought = h.brought }
event_sure s (Array span components) h kept = record { levels = h.levels; kept = h.kept; brought = all_put IsGiven span.start (inside_of s components) s.brought (inside_given s components h) h.brought }
event_sure s (Declare names k inside) h kept = all_declared s names k (inside_of s inside) (inside_given s inside h) h
event_sure s (Use x n steps) h kept = record { levels = h.levels; kept = h.kept; brought = noted (is_noted n) }
  where
    noted : (b : Bool) → AllByRecursion (λ (e : ℕ × Members). IsGiven e.1) (if b then put x.span.start (inside_named s x n) s.brought else s.brought)
    noted true = all_put IsGiven x.span.start (inside_named s x n) s.brought (reached_given s x n h (use_fine s x n steps kept)) h.brought
    noted false = h.brought
event_sure s (By role) h kept = h
event_sure s (Init modvar body) h kept = h
event_sure s (States at states initial transitions) h kept = h

events_found : (s : Scopes) (es : Events) → IsSure s → ((b : Breach) → Somewhere (Broken b) s es → ⊥) → (y : Name) → IsOne y (flat_map event_names es) → HasUse (names_from s es) y
events_found s [] h kept y one = absurd one
events_found s (e ∷ es) h kept y one = elim (one_of_both y (event_names e) (flat_map event_names es) one) [
  | inl o ↦ has_left (flat_map used (sought s e)) (names_from (after_one s e) es) y (event_found s e h here y o)
  | inr o ↦ has_right (flat_map used (sought s e)) (names_from (after_one s e) es) y (events_found (after_one s e) es (event_sure s e h here) there y o)
]
  where
    here : (b : Breach) → Broken b s e → ⊥
    here b k = kept b (record { before = []; event = e; rest = es; here = refl; holds = k })

    there : (b : Breach) → Somewhere (Broken b) (after_one s e) es → ⊥
    there b n = kept b (record { before = e ∷ n.before; event = n.event; rest = n.rest; here = ap (λ l. e ∷ l) n.here; holds = n.holds })

-- where no rule on names is broken, each name in use has its use
pub names_complete : (spec : Spec) → ((b : Breach) → NameRuleBroken spec b → ⊥) → IsComplete spec (names_of spec)
names_complete spec kept = events_found start (events spec) (record { levels = tt; kept = tt; brought = tt }) kept
