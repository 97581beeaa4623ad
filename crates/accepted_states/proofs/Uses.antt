-- What the names in use mean, where no rule on names is broken and they all stand at places of their own.
use Rattle.std.proofs.Common.{◌≡◌, ◌∙◌, ℕ, ◌+◌, ◌≤◌, Bool, true, false, nat_eq, if◌then◌else◌, inl, inr, List, [], ◌∷◌, ◌++◌, Option, Some, None, refl, ap, sym, subst, arith, append_assoc}
use Rattle.std.specs.List.{flat_map}
use Rattle.std.proofs.lemmas.Bool.Decides.{Decides-eqb}
use Rattle.estelle_tree.specs.declared.names.Use.{Use as Used}
use Rattle.estelle_tree.specs.declared.span.Span.{Span}
use Rattle.estelle_tree.specs.declared.tree.name.Name.{Name}
use Rattle.estelle_model.specs.Names.{declaration_of}
use Rattle.scope_rules.specs.declared.declaration.Members.{Members}
use Rattle.scope_rules.specs.declared.declaration.Members.TheVariants as members
use Rattle.scope_rules.specs.declared.declaration.Declared.{Declared}
use Rattle.scope_rules.specs.declared.declaration.Need.{Need}
use Rattle.scope_rules.specs.declared.declaration.Need.TheVariants as need
use Rattle.scope_rules.specs.declared.event.Step.{Step}
use Rattle.scope_rules.specs.declared.event.Step.TheVariants as step
use Rattle.scope_rules.specs.declared.event.Event.{Event}
use Rattle.scope_rules.specs.declared.event.Event.TheVariants.{Open, Close, Keep, Import, Receive, Array, Declare, Use, By, Init, States}
use Rattle.scope_rules.specs.declared.refusal.Breach.{Breach}
use Rattle.scope_rules.specs.Least.{breach}
use Rattle.scope_rules.specs.Kinds.{may_be, is_role}
use Rattle.scope_rules.specs.TypeEvents.{Events}
use Rattle.scope_rules.specs.Visible.{Scopes, meaning, member, reached}
use Rattle.scope_rules.specs.Scopes.{start, after, after_one, sought_name, sought_role, sought_step, sought_steps, after_step, sought}
use Rattle.scope_rules.specs.NameRules.{Broken, Breaks, used_at, used, names_from}
use Rattle.accepted_states.proofs.Lists.{Each, each_append, each_front, each_back, flat-append, count, one_if, count-append, none_counted}

-- ---- the names that events use

abbrev pub step_names : Step → List Name
step_names step.Index = []
step_names (step.Member x n) = x ∷ []
step_names (step.Role x) = x ∷ []

abbrev pub uses : Event → List Name
uses (Use x n steps) = x ∷ flat_map step_names steps
uses (By role) = role ∷ []
uses e = []

abbrev pub uses_in : Events → List Name
uses_in = flat_map uses

abbrev pub starts_at : ℕ → Name → Bool
starts_at p x = nat_eq x.span.start p

-- each name in use stands at a place of its own
abbrev pub AreUsesApart : Events → Type 0
AreUsesApart es = (p : ℕ) → count (starts_at p) (uses_in es) ≤ 1

-- ---- uses at other places

module _ (p : ℕ) where
  abbrev Other : Name → Type 0
  Other y = starts_at p y ≡ false

  abbrev OtherUse : Used → Type 0
  OtherUse u = nat_eq u.at.start p ≡ false

  used_other : (x : Name) (o : Option Declared) → Other x → Each OtherUse (used_at x o)
  used_other x None h = tt
  used_other x (Some d) h = (h, tt)

  role_other : (x : Name) (o : Option Declared) → Other x → Each OtherUse (flat_map used (sought_role x o))
  role_other x None h = tt
  role_other x (Some d) h = by (is_role d.denotes)
    where
      by : (b : Bool) → Each OtherUse (flat_map used (if b then sought_name x need.Role (Some d) ∷ [] else []))
      by true = (h, tt)
      by false = tt

  step_other : (s : Scopes) (m : Members) (t : Step) → Each Other (step_names t) → Each OtherUse (flat_map used (sought_step s m t))
  step_other s m step.Index h = tt
  step_other s m (step.Member x n) h = each_append OtherUse (used_at x (member s m x.word)) [] (used_other x (member s m x.word) h.0) tt
  step_other s m (step.Role x) h = role_other x (member s m x.word) h.0

  both : (s : Scopes) (m : Members) (t : Step) (ts : List Step) → Each Other (flat_map step_names (t ∷ ts))
      → (Each Other (flat_map step_names ts) → Each OtherUse (flat_map used (sought_steps s (after_step s m t) ts)))
      → Each OtherUse (flat_map used (sought_step s m t ++ sought_steps s (after_step s m t) ts))
  both s m t ts h more =
      let rest = sought_steps s (after_step s m t) ts in
      subst (Each OtherUse) (sym (flat-append used (sought_step s m t) rest))
      (each_append OtherUse (flat_map used (sought_step s m t)) (flat_map used rest)
      (step_other s m t (each_front Other (step_names t) (flat_map step_names ts) h))
      (more (each_back Other (step_names t) (flat_map step_names ts) h)))

  steps_other : (s : Scopes) (m : Members) (ts : List Step) → Each Other (flat_map step_names ts) → Each OtherUse (flat_map used (sought_steps s m ts))
  steps_other s m [] h = tt
  steps_other s members.AtFault (t ∷ ts) h = tt
  steps_other s members.Nothing (t ∷ ts) h = both s members.Nothing t ts h (steps_other s (after_step s members.Nothing t) ts)
  steps_other s (members.KeptAt at) (t ∷ ts) h = both s (members.KeptAt at) t ts h (steps_other s (after_step s (members.KeptAt at) t) ts)

  event_other : (s : Scopes) (e : Event) → Each Other (uses e) → Each OtherUse (flat_map used (sought s e))
  event_other s (Use x n steps) h =
      let rest = sought_steps s (reached n (meaning s x.word)) steps in
      each_append OtherUse (used_at x (meaning s x.word)) (flat_map used rest) (used_other x (meaning s x.word) h.0) (steps_other s (reached n (meaning s x.word)) steps h.1)
  event_other s (By role) h = role_other role _ h.0
  event_other s (Open f) h = tt
  event_other s Close h = tt
  event_other s (Keep span) h = tt
  event_other s (Import x) h = tt
  event_other s (Receive ip x names) h = tt
  event_other s (Array span of) h = tt
  event_other s (Declare names k inside) h = tt
  event_other s (Init modvar body) h = tt
  event_other s (States at declared initial transitions) h = tt

  events_other : (s : Scopes) (es : Events) → Each Other (uses_in es) → Each OtherUse (names_from s es)
  events_other s [] h = tt
  events_other s (e ∷ es) h =
      each_append OtherUse (flat_map used (sought s e)) (names_from (after_one s e) es)
      (event_other s e (each_front Other (uses e) (uses_in es) h))
      (events_other (after_one s e) es (each_back Other (uses e) (uses_in es) h))

passed : (x : Name) (us vs : List Used) → Each (OtherUse x.span.start) us → declaration_of (us ++ vs) x ≡ declaration_of vs x
passed x [] vs h = refl
passed x (u ∷ us) vs h = ap (λ b. if b then Some u.decl else declaration_of (us ++ vs) x) h.0 ∙ passed x us vs h.1

-- ---- events one after another

pub after-append : (s : Scopes) (es fs : Events) → after s (es ++ fs) ≡ after (after s es) fs
after-append s [] fs = refl
after-append s (e ∷ es) fs = after-append (after_one s e) es fs

names-append : (s : Scopes) (es fs : Events) → names_from s (es ++ fs) ≡ names_from s es ++ names_from (after s es) fs
names-append s [] fs = refl
names-append s (e ∷ es) fs = ap (λ us. flat_map used (sought s e) ++ us) (names-append (after_one s e) es fs) ∙ sym (append_assoc (flat_map used (sought s e)) (names_from (after_one s e) es) (names_from (after (after_one s e) es) fs))

-- ---- what events say, where they break no rule

-- a name in use means a declaration of the kind that is needed, and it is the one that is known for it
pub record Found (names : List Used) (s : Scopes) (x : Name) (n : Need) : Type 0 where
  pub found : Declared
  pub means : meaning s x.word ≡ Some found
  pub fits : may_be n found.denotes ≡ true
  pub known : declaration_of names x ≡ Some found.at

module _ (names : List Used) where
  abbrev pub Says : Scopes → Event → Type 0
  Says s (Use x n steps) = Found names s x n
  Says s (States at declared initial transitions) = initial ≡ false → declared ≡ false
  Says s e = Unit {0}

  abbrev pub Say : Scopes → Events → Type 0
  Say s [] = Unit {0}
  Say s (e ∷ es) = Says s e × Say (after_one s e) es

  pub say_front : (s : Scopes) (es fs : Events) → Say s (es ++ fs) → Say s es
  say_front s [] fs h = tt
  say_front s (e ∷ es) fs h = (h.0, say_front (after_one s e) es fs h.1)

  pub say_back : (s : Scopes) (es fs : Events) → Say s (es ++ fs) → Say (after s es) fs
  say_back s [] fs h = h
  say_back s (e ∷ es) fs h = say_back (after_one s e) es fs h.1

abbrev BreakNone : Events → Type 0
BreakNone es = (b : Breach) → Breaks es b → ⊥

pub eq_self : (n : ℕ) → nat_eq n n ≡ true
eq_self n = (Decides-eqb n n).1 refl

-- the declaration that is known for a name is the one of its use
known_there : (s : Scopes) (before : Events) (x : Name) (n : Need) (d : Declared) (more : List Used) → Each (OtherUse x.span.start) (names_from s before) → declaration_of (names_from s before ++ (record { at = x.span; decl = d.at } ∷ more)) x ≡ Some d.at
known_there s before x n d more h =
    passed x (names_from s before) (record { at = x.span; decl = d.at } ∷ more) h
    ∙ ap (λ b. if b then Some d.at else declaration_of more x) (eq_self x.span.start)

module _ (all : Events) (kept : BreakNone all) (apart : AreUsesApart all) where
  broken : (before : Events) (e : Event) (rest : Events) (b : Breach) → all ≡ before ++ e ∷ rest → Broken b (after start before) e → ⊥
  broken before e rest b here h = kept b (record { before = before; event = e; rest = rest; here = here; holds = h })

  others : (before : Events) (x : Name) (n : Need) (steps : List Step) (rest : Events) → all ≡ before ++ Use x n steps ∷ rest → Each (Other x.span.start) (uses_in before)
  others before x n steps rest here =
      let p = x.span.start in
      let most = apart p in
      let e = ap (λ es. count (starts_at p) (uses_in es)) here ∙ ap (count (starts_at p)) (flat-append uses before (Use x n steps ∷ rest)) ∙ count-append (starts_at p) (uses_in before) (uses_in (Use x n steps ∷ rest)) in
      let one : count (starts_at p) (uses_in (Use x n steps ∷ rest)) ≡ 1 + count (starts_at p) (flat_map step_names steps ++ uses_in rest) = ap (λ b. one_if b + count (starts_at p) (flat_map step_names steps ++ uses_in rest)) (eq_self p) in
      none_counted (starts_at p) (uses_in before) (omega (arith, most, e, one))

  pub use_found : (before : Events) (x : Name) (n : Need) (steps : List Step) (rest : Events) → all ≡ before ++ Use x n steps ∷ rest → Found (names_from start all) (after start before) x n
  use_found before x n steps rest here = by (meaning s x.word) refl
    where
      s : Scopes
      s = after start before

      known : (d : Declared) → meaning s x.word ≡ Some d → declaration_of (names_from start all) x ≡ Some d.at
      known d e =
          let behind = names_from (after_one s (Use x n steps)) rest in
          let more = flat_map used (sought_steps s (reached n (meaning s x.word)) steps) ++ behind in
          ap (λ es. declaration_of (names_from start es) x) here
          ∙ ap (λ us. declaration_of us x) (names-append start before (Use x n steps ∷ rest))
          ∙ ap (λ o. declaration_of (names_from start before ++ ((used_at x o ++ flat_map used (sought_steps s (reached n (meaning s x.word)) steps)) ++ behind)) x) e
          ∙ known_there start before x n d more (events_other x.span.start start before (others before x n steps rest here))

      by : (o : Option Declared) → meaning s x.word ≡ o → Found (names_from start all) s x n
      by None e = absurd (broken before (Use x n steps) rest (breach 2 x.span) here (inr (inl (refl, (sought_name x n (meaning s x.word), (inl refl, e, refl))))))
      by (Some d) e = record {
        found = d;
        means = e;
        fits = fit (may_be n d.denotes) refl;
        known = known d e;
      }
        where
          fit : (b : Bool) → may_be n d.denotes ≡ b → b ≡ true
          fit true f = refl
          fit false f = absurd (broken before (Use x n steps) rest (breach 3 x.span) here (inr (inr (inl (refl, (sought_name x n (meaning s x.word), d, (inl refl, e, f, refl)))))))

  states_said : (before : Events) (at : Span) (declared initial transitions : Bool) (rest : Events) → all ≡ before ++ States at declared initial transitions ∷ rest → initial ≡ false → declared ≡ false
  states_said before at true initial transitions rest here e = absurd (broken before (States at true initial transitions) rest (breach 4 at) here (inr (inr (inr (inl (refl, (inl (refl, e), refl)))))))
  states_said before at false initial transitions rest here e = refl

  said_at : (before : Events) (e : Event) (rest : Events) → all ≡ before ++ e ∷ rest → Says (names_from start all) (after start before) e
  said_at before (Use x n steps) rest here = use_found before x n steps rest here
  said_at before (States at declared initial transitions) rest here = states_said before at declared initial transitions rest here
  said_at before (By role) rest here = tt
  said_at before (Open f) rest here = tt
  said_at before Close rest here = tt
  said_at before (Keep span) rest here = tt
  said_at before (Import x) rest here = tt
  said_at before (Receive ip x names) rest here = tt
  said_at before (Array span of) rest here = tt
  said_at before (Declare names k inside) rest here = tt
  said_at before (Init modvar body) rest here = tt

  say_from : (before es : Events) → all ≡ before ++ es → Say (names_from start all) (after start before) es
  say_from before [] here = tt
  say_from before (e ∷ es) here = (
    said_at before e es here,
    subst (λ s. Say (names_from start all) s es) (after-append start before (e ∷ []))
        (say_from (before ++ e ∷ []) es (here ∙ sym (append_assoc before (e ∷ []) es))),
  )

  -- all events say so
  pub all_say : Say (names_from start all) start all
  all_say = say_from [] all refl
