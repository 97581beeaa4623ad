-- Which declarations of states the open scopes hold: in a body those of its own states, and nowhere else any.
use Rattle.std.proofs.Common.{◌≡◌, ◌∙◌, ℕ, Bool, true, false, nat_eq, nat_lt, if◌then◌else◌, List, [], ◌∷◌, ◌++◌, Option, Some, None, ◌⊎◌, inl, inr, refl, ap, sym, subst}
use Rattle.std.specs.Prelude.{cond}
use Rattle.std.specs.Option.{option_or, unwrap_or}
use Rattle.std.specs.Map.{lookup}
use Rattle.std.specs.Str.{bytes_eq}
use Rattle.estelle_tree.specs.declared.span.Span.{Span}
use Rattle.estelle_tree.specs.declared.tree.name.Name.{Name}
use Rattle.scope_rules.specs.declared.declaration.Denotes.{Denotes}
use Rattle.scope_rules.specs.declared.declaration.Denotes.TheVariants as d
use Rattle.scope_rules.specs.declared.declaration.Need.{Need}
use Rattle.scope_rules.specs.declared.declaration.Need.TheVariants as need
use Rattle.scope_rules.specs.declared.declaration.Inside.{Inside}
use Rattle.scope_rules.specs.declared.declaration.Members.{Members}
use Rattle.scope_rules.specs.declared.declaration.Members.TheVariants as members
use Rattle.scope_rules.specs.declared.declaration.Declared.{Declared}
use Rattle.scope_rules.specs.declared.event.ScopeForm.{ScopeForm}
use Rattle.scope_rules.specs.declared.event.ScopeForm.TheVariants as form
use Rattle.scope_rules.specs.declared.event.Step.{Step}
use Rattle.scope_rules.specs.declared.event.Event.{Event}
use Rattle.scope_rules.specs.declared.event.Event.TheVariants.{Open, Close, Keep, Import, Receive, Array, Declare, Use, By, Init, States}
use Rattle.scope_rules.specs.Kinds.{is_private, is_of_channel, may_be}
use Rattle.scope_rules.specs.TypeEvents.{Events}
use Rattle.scope_rules.specs.Visible.{Word, Scope, Level, Scopes, in_names, kept_at, member_names, earliest, in_level, is_body, hiding, alone, meaning_of, earlier, inside_of, inside_named, received}
use Rattle.scope_rules.specs.Scopes.{after, after_one, declared, declaration, innermost, declare_level, declare_one, declare_all, join_level, put, names_of_top, below}
use Rattle.scope_rules.specs.NameRules.{IsOne}
use Rattle.accepted_states.proofs.Lists.{Each, each_other}
use Rattle.accepted_states.proofs.Uses.{after-append}

-- ---- declarations of states

-- where it declares a state, it is one of these names
abbrev pub IsOf : List Name → Declared → Type 0
IsOf ys e = e.denotes ≡ d.State → (y : Name) × IsOne y ys × (e.at ≡ y.span)

abbrev pub AreOf : List Name → Scope → Type 0
AreOf ys = Each (λ (e : Word × Declared). IsOf ys e.1)

abbrev pub AreKept : List (ℕ × Scope) → Type 0
AreKept = Each (λ (e : ℕ × Scope). AreOf [] e.1)

of_more : (ys : List Name) (e : Declared) → IsOf [] e → IsOf ys e
of_more ys e h = λ is. absurd (h is).1

pub are_of_more : (ys : List Name) (s : Scope) → AreOf [] s → AreOf ys s
are_of_more ys s = each_other (λ (e : Word × Declared). IsOf [] e.1) (λ (e : Word × Declared). IsOf ys e.1) (λ e h. of_more ys e.1 h) s

in_scope_of : (ys : List Name) (w : Word) (s : Scope) (e : Declared) → AreOf ys s → in_names w s ≡ Some e → IsOf ys e
in_scope_of ys w [] e h f = absurd (cc)
in_scope_of ys w (x ∷ xs) e h f = by (λ g. in_scope_of ys w xs e h.1 g) (bytes_eq w x.0) refl
  where
    by : (in_names w xs ≡ Some e → IsOf ys e) → (b : Bool) → bytes_eq w x.0 ≡ b → IsOf ys e
    by more true g = let f2 : cond true (Some x.1) (in_names w xs) ≡ Some e = ap (λ b. cond b (Some x.1) (in_names w xs)) (sym g) ∙ f in let same : x.1 ≡ e = cc in subst (IsOf ys) same h.0
    by more false g = more (ap (λ b. cond b (Some x.1) (in_names w xs)) (sym g) ∙ f)

earlier_of : (ys : List Name) (e f : Declared) → IsOf ys e → IsOf ys f → IsOf ys (earlier e f)
earlier_of ys e f h k = by (nat_lt f.at.start e.at.start)
  where
    by : (b : Bool) → IsOf ys (if b then f else e)
    by true = k
    by false = h

declared_of : (ys : List Name) (w : Word) (e : Declared) (s : Scope) → AreOf ys s → IsOf ys e → AreOf ys (declared w e s)
declared_of ys w e [] h k = (k, tt)
declared_of ys w e (x ∷ xs) h k = by (declared_of ys w e xs h.1 k) (bytes_eq w x.0)
  where
    by : AreOf ys (declared w e xs) → (b : Bool) → AreOf ys (if b then (x.0, earlier x.1 e) ∷ xs else x ∷ declared w e xs)
    by more true = (earlier_of ys x.1 e h.0 k, h.1)
    by more false = (h.0, more)

kept_of : (at : ℕ) (kept : List (ℕ × Scope)) → AreKept kept → AreOf [] (kept_at kept at)
kept_of at [] h = tt
kept_of at (x ∷ xs) h = by (kept_of at xs h.1) (nat_eq at x.0)
  where
    by : AreOf [] (kept_at xs at) → (b : Bool) → AreOf [] (unwrap_or (cond b (Some x.1) (lookup (nat_eq at) xs)) [])
    by more true = h.0
    by more false = more

members_of : (m : Members) (kept : List (ℕ × Scope)) → AreKept kept → AreOf [] (member_names kept m)
members_of members.Nothing kept h = tt
members_of (members.KeptAt at) kept h = kept_of at kept h
members_of members.AtFault kept h = tt

put_of : (at : ℕ) (s : Scope) (kept : List (ℕ × Scope)) → AreKept kept → AreOf [] s → AreKept (put at s kept)
put_of at s [] h k = (k, tt)
put_of at s (x ∷ xs) h k = by (put_of at s xs h.1 k) (nat_eq at x.0)
  where
    by : AreKept (put at s xs) → (b : Bool) → AreKept (if b then (x.0, s) ∷ xs else x ∷ put at s xs)
    by more true = (k, h.1)
    by more false = (h.0, more)

-- ---- events in one scope

-- a scope is open behind others; it has its form, and states of these names alone
pub record Stands (ys : List Name) (f : ScopeForm) (outer : List Level) (s : Scopes) : Type 0 where
  pub top : Level
  pub levels : s.levels ≡ top ∷ outer
  pub form : top.form ≡ f
  pub own : AreOf ys top.names
  pub kept : AreKept s.kept

-- behind these events it stands so again
abbrev pub Steady : List Name → Events → Type 0
Steady ys es = (f : ScopeForm) (outer : List Level) (s : Scopes) → Stands ys f outer s → Stands ys f outer (after s es)

-- events that declare no state
abbrev pub Plain : Events → Type 0
Plain es = (ys : List Name) → Steady ys es

pub steady_nil : (ys : List Name) → Steady ys []
steady_nil ys f outer s h = h

pub steady_append : (ys : List Name) (es fs : Events) → Steady ys es → Steady ys fs → Steady ys (es ++ fs)
steady_append ys es fs h k f outer s st = subst (Stands ys f outer) (sym (after-append s es fs)) (k f outer (after s es) (h f outer s st))

pub steady_next : (ys : List Name) (e : Event) (es : Events) → Steady ys (e ∷ []) → Steady ys es → Steady ys (e ∷ es)
steady_next ys e es h k = steady_append ys (e ∷ []) es h k

pub plain_nil : Plain []
plain_nil ys = steady_nil ys

pub plain_append : (es fs : Events) → Plain es → Plain fs → Plain (es ++ fs)
plain_append es fs h k ys = steady_append ys es fs (h ys) (k ys)

pub plain_next : (e : Event) (es : Events) → Plain (e ∷ []) → Plain es → Plain (e ∷ es)
plain_next e es h k = plain_append (e ∷ []) es h k

pub plain_use : (x : Name) (n : Need) (steps : List Step) → Plain (Use x n steps ∷ [])
plain_use x n steps ys f outer s h = record { top = h.top; levels = h.levels; form = h.form; own = h.own; kept = h.kept }

pub plain_by : (x : Name) → Plain (By x ∷ [])
plain_by x ys f outer s h = h

pub plain_init : (x y : Name) → Plain (Init x y ∷ [])
plain_init x y ys f outer s h = h

pub plain_states : (at : Span) (a b c : Bool) → Plain (States at a b c ∷ [])
plain_states at a b c ys f outer s h = h

pub plain_array : (at : Span) (components : Inside) → Plain (Array at components ∷ [])
plain_array at components ys f outer s h = record { top = h.top; levels = h.levels; form = h.form; own = h.own; kept = h.kept }

joined : (ys : List Name) (f : ScopeForm) (outer : List Level) (s : Scopes) (m : Members) → Stands ys f outer s → Stands ys f outer (record { levels = innermost (join_level m) s.levels; kept = s.kept; brought = s.brought })
joined ys f outer s m h = record { top = join_level m h.top; levels = ap (innermost (join_level m)) h.levels; form = h.form; own = h.own; kept = h.kept }

pub plain_import : (x : Name) → Plain (Import x ∷ [])
plain_import x ys f outer s h = joined ys f outer s (inside_named s x need.Header) h

pub plain_receive : (ip x : Name) (names : Option (List Name)) → Plain (Receive ip x names ∷ [])
plain_receive ip x names ys f outer s h = joined ys f outer s (received s ip x) h

declared_one : (ys : List Name) (x : Name) (k : Denotes) (inside : Members) → IsOf ys (declaration x k inside) → (f : ScopeForm) (outer : List Level) (s : Scopes) → Stands ys f outer s → Stands ys f outer (declare_one s x k inside)
declared_one ys x k inside is f outer s h = record {
  top = declare_level x.word (declaration x k inside) h.top;
  levels = ap (innermost (declare_level x.word (declaration x k inside))) h.levels;
  form = h.form;
  own = declared_of ys x.word (declaration x k inside) h.top.names h.own is;
  kept = h.kept;
}

declared_each : (ys xs : List Name) (k : Denotes) (inside : Members) → Each (λ x. IsOf ys (declaration x k inside)) xs → (f : ScopeForm) (outer : List Level) (s : Scopes) → Stands ys f outer s → Stands ys f outer (declare_all s xs k inside)
declared_each ys [] k inside is f outer s h = h
declared_each ys (x ∷ xs) k inside is f outer s h = declared_each ys xs k inside is.1 f outer (declare_one s x k inside) (declared_one ys x k inside is.0 f outer s h)

no_state : (ys xs : List Name) (k : Denotes) (inside : Members) → (k ≡ d.State → ⊥) → Each (λ x. IsOf ys (declaration x k inside)) xs
no_state ys [] k inside h = tt
no_state ys (x ∷ xs) k inside h = (λ e. absurd (h e), no_state ys xs k inside h)

pub plain_declare : (xs : List Name) (k : Denotes) (inside : Inside) → (k ≡ d.State → ⊥) → Plain (Declare xs k inside ∷ [])
plain_declare xs k inside h ys f outer s st = declared_each ys xs k (inside_of s inside) (no_state ys xs k (inside_of s inside) h) f outer s st

-- names of states are declared, which are among the body's
pub steady_states : (ys xs : List Name) (inside : Inside) → Each (λ x. IsOne x ys) xs → Steady ys (Declare xs d.State inside ∷ [])
steady_states ys xs inside h f outer s st = declared_each ys xs d.State (inside_of s inside) (each_other (λ x. IsOne x ys) (λ x. IsOf ys (declaration x d.State (inside_of s inside))) (λ x one is. (x, one, refl)) xs h) f outer s st

-- ---- scopes in it

pub opened : (ys zs : List Name) (f g : ScopeForm) (outer : List Level) (s : Scopes) → Stands ys f outer s → Stands zs g s.levels (after_one s (Open g))
opened ys zs f g outer s h = record { top = record { form = g; names = []; within = members.Nothing }; levels = refl; form = refl; own = tt; kept = h.kept }

closed : (ys zs : List Name) (f g : ScopeForm) (outer : List Level) (s t : Scopes) → Stands ys f outer s → Stands zs g s.levels t → Stands ys f outer (after_one t Close)
closed ys zs f g outer s t h k = record { top = h.top; levels = ap (λ ls. below ls) k.levels ∙ h.levels; form = h.form; own = h.own; kept = k.kept }

pub steady_scope : (ys zs : List Name) (g : ScopeForm) (es : Events) → Steady zs es → Steady ys (Open g ∷ (es ++ Close ∷ []))
steady_scope ys zs g es h f outer s st =
    let inner = h g s.levels (after_one s (Open g)) (opened ys zs f g outer s st) in
    subst (Stands ys f outer) (sym (after-append (after_one s (Open g)) es (Close ∷ []))) (closed ys zs f g outer s (after (after_one s (Open g)) es) st inner)

pub plain_scope : (g : ScopeForm) (es : Events) → Plain es → Plain (Open g ∷ (es ++ Close ∷ []))
plain_scope g es h ys = steady_scope ys [] g es (h [])

pub plain_kept : (es : Events) (span : Span) → Plain es → Plain (Open form.Inner ∷ (es ++ Keep span ∷ []))
plain_kept es span h ys f outer s st =
    let t = after (after_one s (Open form.Inner)) es in
    let inner = h [] form.Inner s.levels (after_one s (Open form.Inner)) (opened ys [] f form.Inner outer s st) in
    subst (Stands ys f outer) (sym (after-append (after_one s (Open form.Inner)) es (Keep span ∷ [])))
    (record {
      top = st.top;
      levels = ap (λ ls. below ls) inner.levels ∙ st.levels;
      form = st.form;
      own = st.own;
      kept = put_of span.start (names_of_top t.levels) t.kept inner.kept (subst (λ ls. AreOf [] (names_of_top ls)) (sym inner.levels) inner.own);
    })

-- ---- what a name means there

-- in the scopes up to the body's, the states that are declared are of these names
abbrev pub Within : List Name → List Level → Type 0
Within ys [] = Unit {0}
Within ys (l ∷ outer) = AreOf ys l.names × (is_body l.form ≡ false → Within ys outer)

-- of two, the earliest is one
pub earliest_one : (a b : Option Declared) (e : Declared) → earliest a b ≡ Some e → (a ≡ Some e) ⊎ (b ≡ Some e)
earliest_one None b e h = inr h
earliest_one (Some d) None e h = inl h
earliest_one (Some d) (Some c) e h = by (nat_lt c.at.start d.at.start) h
  where
    by : (t : Bool) → Some (if t then c else d) ≡ Some e → (Some d ≡ Some e) ⊎ (Some c ≡ Some e)
    by true g = inr g
    by false g = inl g

level_of : (ys : List Name) (kept : List (ℕ × Scope)) (w : Word) (l : Level) (e : Declared) → AreKept kept → AreOf ys l.names → in_level kept w l ≡ Some e → IsOf ys e
level_of ys kept w l e h k f = elim (earliest_one (in_names w l.names) (in_names w (member_names kept l.within)) e f) [
  | inl g ↦ in_scope_of ys w l.names e k g
  | inr g ↦ of_more ys e (in_scope_of [] w (member_names kept l.within) e (members_of l.within kept h) g)
]

-- behind a body no state is seen
hidden : (kept : List (ℕ × Scope)) (w : Word) (levels : List Level) (e : Declared) → meaning_of kept w true levels ≡ Some e → e.denotes ≡ d.State → ⊥
hidden kept w [] e f is = cc
hidden kept w (l ∷ outer) e f is = by (λ g. hidden kept w outer e g is) (alone (in_level kept w l)) f
  where
    seen_by : (x : Declared) (b : Bool) → is_private x.denotes ≡ b → (if b then None else Some x) ≡ Some e → ⊥
    seen_by x true g h = cc
    seen_by x false g h = let same : x ≡ e = cc in let p : is_private d.State ≡ false = ap is_private (sym is) ∙ ap (λ (y : Declared). is_private y.denotes) (sym same) ∙ g in cc

    by : (meaning_of kept w true outer ≡ Some e → ⊥) → (o : Option Declared) → hiding true o (meaning_of kept w true outer) ≡ Some e → ⊥
    by more None g = more g
    by more (Some x) g = seen_by x (is_private x.denotes) refl g

pub means_own : (ys : List Name) (kept : List (ℕ × Scope)) (w : Word) (levels : List Level) (e : Declared) → AreKept kept → Within ys levels → meaning_of kept w false levels ≡ Some e → IsOf ys e
means_own ys kept w [] e h k f = absurd (cc)
means_own ys kept w (l ∷ outer) e h k f = by (λ within g. means_own ys kept w outer e h within g) (alone (in_level kept w l)) refl f
  where
    alone_by : (o : Option Declared) (x : Declared) → alone o ≡ Some x → o ≡ Some x
    alone_by None x g = absurd (cc)
    alone_by (Some y) x g = both (is_of_channel y.denotes) g
      where
        both : (b : Bool) → (if b then None else Some y) ≡ Some x → Some y ≡ Some x
        both true q = absurd (cc)
        both false q = q

    further : (Within ys outer → meaning_of kept w false outer ≡ Some e → IsOf ys e) → (b : Bool) → is_body l.form ≡ b → meaning_of kept w b outer ≡ Some e → IsOf ys e
    further more true g q = λ is. absurd (hidden kept w outer e q is)
    further more false g q = more (k.1 g) q

    by : (Within ys outer → meaning_of kept w false outer ≡ Some e → IsOf ys e) → (o : Option Declared) → alone (in_level kept w l) ≡ o → hiding false o (meaning_of kept w (is_body l.form) outer) ≡ Some e → IsOf ys e
    by more None g q = further more (is_body l.form) refl q
    by more (Some x) g q = let same : x ≡ e = cc in subst (IsOf ys) same (level_of ys kept w l x h k.0 (alone_by (in_level kept w l) x g))

-- what can stand where a state is needed is a state
pub needs_state : (k : Denotes) → may_be need.State k ≡ true → k ≡ d.State
needs_state d.State h = refl
needs_state d.Constant h = absurd (cc)
needs_state d.Type h = absurd (cc)
needs_state d.Variable h = absurd (cc)
needs_state d.Exported h = absurd (cc)
needs_state d.Field h = absurd (cc)
needs_state d.Procedure h = absurd (cc)
needs_state d.Function h = absurd (cc)
needs_state d.RequiredFunction h = absurd (cc)
needs_state d.Channel h = absurd (cc)
needs_state d.Role h = absurd (cc)
needs_state d.Interaction h = absurd (cc)
needs_state d.Header h = absurd (cc)
needs_state d.Body h = absurd (cc)
needs_state d.ModuleVariable h = absurd (cc)
needs_state d.Ip h = absurd (cc)
needs_state d.StateSet h = absurd (cc)
