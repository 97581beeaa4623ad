-- The breach that is noted is the one that is reported of all that is broken.
use Rattle.std.proofs.Common.{◌≡◌, ◌≢◌, ℕ, ◌⊎◌, inl, inr, Bool, true, false, nat_eq, ◌||◌, ◌&&◌, if◌then◌else◌, List, [], ◌∷◌, ◌++◌, Option, Some, None, ap, ◌∙◌, sym, refl, subst, arith}
use Rattle.std.specs.Prelude.{not, IsSome}
use Rattle.std.specs.Option.{is_some}
use Rattle.std.proofs.lemmas.Bool.Decides.{nat_tests}
use Rattle.estelle_tree.specs.declared.span.Span.{Span}
use Rattle.estelle_tree.specs.declared.tree.name.Name.{Name}
use Rattle.scope_rules.specs.declared.declaration.Denotes.{Denotes}
use Rattle.scope_rules.specs.declared.declaration.Need.TheVariants as need
use Rattle.scope_rules.specs.declared.declaration.Declared.{Declared}
use Rattle.scope_rules.specs.declared.event.Event.{Event}
use Rattle.scope_rules.specs.declared.event.Event.TheVariants.{Open, Close, Keep, Import, Receive, Array, Declare, Use, By, Init, States}
use Rattle.scope_rules.specs.declared.refusal.Breach.{Breach}
use Rattle.scope_rules.specs.Least.{breach, only_if, is_before, noted, IsFirst}
use Rattle.scope_rules.specs.Kinds.{may_be}
use Rattle.scope_rules.specs.TypeEvents.{Events}
use Rattle.scope_rules.specs.declared.declaration.Members.{Members}
use Rattle.scope_rules.specs.declared.declaration.Members.TheVariants as members
use Rattle.scope_rules.specs.Visible.{Scopes, Scope, Level, Word, earliest, in_scope, in_scope_of, in_level, in_names, member, member_names, is_further, inside_named, brought_by, received, inside_of}
use Rattle.scope_rules.specs.Scopes.{start, after, after_one, declare_one, Sought, sought}
use Rattle.scope_rules.specs.NameRules.{IsOne, Somewhere, later, is_listed, names_listed, SecondOf, UnlistedParameter, SecondParameter, DeclaredTwice, NotVisible, OfOtherKind, StatesAtFault, OfOtherHeader, Broken, Breaks}
use Rattle.scope_rules.proofs.First.{before_self, first_noted, first_same, first_of_none}
use Rattle.scope_names.proofs.Lists.{listed_found}
use Rattle.scope_names.proofs.Symmetry.{either, or_left, or_right, shares_common, common_shares}
use Rattle.scope_names.specs.Common.{is_among, shares, shares_level, shares_scope}
use Rattle.scope_names.specs.Noted.{twice, twices, is_second, listed_twice, listed_scope, unlisted_twice, parameter_twice, misused_as, misused, misuses, states_fault, header_fault, breach_at, least}

made : (b : Breach) (n : ℕ) (at : Span) → b.number ≡ n → b.span ≡ at → b ≡ breach n at
made b n at r s = λ i. record { number = r i; span = s i }

-- a breach that is there where something is so
first_if : (t : Bool) (n : ℕ) (at : Span) → IsFirst (λ b. (t ≡ true) × ((b.number ≡ n) × (b.span ≡ at))) (only_if t (breach n at))
first_if true n at = record {
  one = λ b e. let s : breach n at ≡ b = cc in (refl, (ap (λ x. x.number) (sym s), ap (λ x. x.span) (sym s)));
  all = λ c p. (breach n at, refl, subst (λ x. is_before x (breach n at) ≡ false) (sym (made c n at p.1.0 p.1.1)) (before_self (breach n at)));
}
first_if false n at = first_of_none (λ b. (false ≡ true) × ((b.number ≡ n) × (b.span ≡ at))) (λ b p. let e = p.0 in cc)

nothing : Breach → Type 0
nothing b = ⊥

first_nothing : IsFirst nothing None
unfolding nothing
first_nothing = first_of_none nothing (λ b n. n)

-- without what never is
first_only : (P : Breach → Type 0) (o : Option Breach) → IsFirst (λ b. nothing b ⊎ P b) o → IsFirst P o
unfolding nothing
first_only P o f = first_same (λ b. nothing b ⊎ P b) P o (λ b h. elim h [ inl n ↦ absurd n | inr p ↦ p ]) (λ b p. inr p) f

-- ---- 1: names that are declared one after another

Second : Scopes → Name → Breach → Type 0
Second s x b = (b.number ≡ 1) × ((d : Declared) × ((in_scope s x.word ≡ Some d) × (b.span ≡ later d.at x.span)))

twice_first : (s : Scopes) (x : Name) → IsFirst (Second s x) (twice (in_scope s x.word) x.span)
unfolding Second
twice_first s x = by (in_scope s x.word) refl
  where
    by : (o : Option Declared) → in_scope s x.word ≡ o → IsFirst (Second s x) (twice o x.span)
    by None e = first_of_none (Second s x) (λ b p. let w = p.1.1.0 in cc)
    by (Some d) e = record {
      one = λ b h. let m : breach 1 (later d.at x.span) ≡ b = cc in (ap (λ y. y.number) (sym m), (d, (e, ap (λ y. y.span) (sym m))));
      all = λ c p. let m : d ≡ p.1.0 = (let w = p.1.1.0 in cc) in (breach 1 (later d.at x.span), refl, subst (λ y. is_before y (breach 1 (later d.at x.span)) ≡ false) (sym (made c 1 (later d.at x.span) p.0 (subst (λ y. c.span ≡ later y.at x.span) (sym m) p.1.1.1))) (before_self (breach 1 (later d.at x.span))));
    }

Seconds : Scopes → List Name → Denotes → Members → Breach → Type 0
Seconds s xs k inside b = (b.number ≡ 1) × SecondOf s xs k inside b.span

twices_first : (P : Breach → Type 0) (first : Option Breach) (s : Scopes) (xs : List Name) (k : Denotes) (inside : Members) → IsFirst P first → IsFirst (λ b. P b ⊎ Seconds s xs k inside b) (twices first s xs k inside)
unfolding Seconds Second
twices_first P first s [] k inside f = first_same P (λ b. P b ⊎ Seconds s [] k inside b) first (λ b p. inl p) (λ b h. elim h [ inl p ↦ p | inr n ↦ absurd n.1 ]) f
twices_first P first s (x ∷ xs) k inside f =
    let one = first_noted P (Second s x) first (twice (in_scope s x.word) x.span) f (twice_first s x) in
    let rest = twices_first (λ b. P b ⊎ Second s x b) (noted first (twice (in_scope s x.word) x.span)) (declare_one s x k inside) xs k inside one in
    first_same (λ b. (P b ⊎ Second s x b) ⊎ Seconds (declare_one s x k inside) xs k inside b) (λ b. P b ⊎ Seconds s (x ∷ xs) k inside b) (twices first s (x ∷ xs) k inside)
    (λ b h. elim h [ inl q ↦ (elim q [ inl p ↦ inl p | inr w ↦ inr (w.0, inl w.1) ]) | inr w ↦ inr (w.0, inr w.1) ])
    (λ b h. elim h [ inl p ↦ inl (inl p) | inr w ↦ (elim w.1 as (λ _. (P b ⊎ Second s x b) ⊎ Seconds (declare_one s x k inside) xs k inside b) [ inl v ↦ inl (inr (w.0, v)) | inr v ↦ inr (w.0, v) ]) ])
    rest

-- ---- 1: the parameters of an interaction

both : (a b : Bool) → a ≡ true → b ≡ true → (a && b) ≡ true
both a b e f = rw (e, f) refl

left_of : (a b : Bool) → (a && b) ≡ true → a ≡ true
left_of true b e = refl
left_of false b e = e

right_of : (a b : Bool) → (a && b) ≡ true → b ≡ true
right_of true b e = e
right_of false b e = absurd cc

Listed : Scopes → Members → List Name → Breach → Type 0
Listed s parameters xs b = (b.number ≡ 1) × ((x : Name) × (IsOne x xs × IsSome (member s parameters x.word) × IsSome (in_scope s x.word) × (b.span ≡ x.span)))

One : Scopes → Members → Name → Breach → Type 0
One s parameters x b = (is_second s parameters x ≡ true) × ((b.number ≡ 1) × (b.span ≡ x.span))

listed_first : (P : Breach → Type 0) (first : Option Breach) (s : Scopes) (parameters : Members) (xs : List Name) → IsFirst P first → IsFirst (λ b. P b ⊎ Listed s parameters xs b) (listed_twice first s parameters xs)
unfolding Listed One
listed_first P first s parameters [] f = first_same P (λ b. P b ⊎ Listed s parameters [] b) first (λ b p. inl p) (λ b h. elim h [ inl p ↦ p | inr n ↦ absurd n.1.1.0 ]) f
listed_first P first s parameters (x ∷ xs) f =
    let one = first_noted P (One s parameters x) first (only_if (is_second s parameters x) (breach 1 x.span)) f (first_if (is_second s parameters x) 1 x.span) in
    let rest = listed_first (λ b. P b ⊎ One s parameters x b) (noted first (only_if (is_second s parameters x) (breach 1 x.span))) s parameters xs one in
    first_same (λ b. (P b ⊎ One s parameters x b) ⊎ Listed s parameters xs b) (λ b. P b ⊎ Listed s parameters (x ∷ xs) b) (listed_twice first s parameters (x ∷ xs))
    (λ b h. elim h [ inl q ↦ (elim q [ inl p ↦ inl p | inr w ↦ inr (w.1.0, (x, (inl refl, left_of (is_some (member s parameters x.word)) (is_some (in_scope s x.word)) w.0, right_of (is_some (member s parameters x.word)) (is_some (in_scope s x.word)) w.0, w.1.1))) ]) | inr w ↦ inr (w.0, (w.1.0, (inr w.1.1.0, w.1.1.1, w.1.1.2, w.1.1.3))) ])
    (λ b h. elim h [ inl p ↦ inl (inl p) | inr w ↦ here b w.0 w.1.0 w.1.1.0 w.1.1.1 w.1.1.2 w.1.1.3 ])
    rest
  where
    here : (b : Breach) → b.number ≡ 1 → (y : Name) → IsOne y (x ∷ xs) → IsSome (member s parameters y.word) → IsSome (in_scope s y.word) → b.span ≡ y.span → (P b ⊎ One s parameters x b) ⊎ Listed s parameters xs b
    here b n y (inl e) p q a = inl (inr (both (is_some (member s parameters x.word)) (is_some (in_scope s x.word)) (subst (λ z. is_some (member s parameters z.word) ≡ true) e p) (subst (λ z. is_some (in_scope s z.word) ≡ true) e q), (n, subst (λ z. b.span ≡ z.span) e a)))
    here b n y (inr e) p q a = inr (n, (y, (e, p, q, a)))

negated : (b : Bool) → not b ≡ true → b ≡ false
negated true e = absurd cc
negated false e = refl

-- a name among others, which is not left out
among : (w : Word) (others : Scope) (xs : List Name) → IsSome (in_names w others) → is_listed w xs ≡ false → is_among w others (listed_scope [] xs) ≡ true
among w others xs p q = rw (p, listed_found w xs, q) refl

of_others : (w : Word) (others : Scope) (xs : List Name) → is_among w others (listed_scope [] xs) ≡ true → IsSome (in_names w others)
of_others w others xs h = left_of (is_some (in_names w others)) _ h

not_listed : (w : Word) (others : Scope) (xs : List Name) → is_among w others (listed_scope [] xs) ≡ true → is_listed w xs ≡ false
not_listed w others xs h = sym (listed_found w xs) ∙ negated (is_some (in_names w (listed_scope [] xs))) (right_of (is_some (in_names w others)) _ h)

some_else : (a b : Option Declared) → IsSome (earliest a b) → IsSome a ⊎ IsSome b
some_else None b h = inr h
some_else (Some d) b h = inl refl

else_left : (a b : Option Declared) → IsSome a → IsSome (earliest a b)
else_left None b h = absurd cc
else_left (Some d) None h = refl
else_left (Some d) (Some e) h = refl

else_right : (a b : Option Declared) → IsSome b → IsSome (earliest a b)
else_right None b h = h
else_right (Some d) None h = refl
else_right (Some d) (Some e) h = refl

-- a name of these others, which is not left out, in the innermost scope
InScope : List (ℕ × Scope) → Scope → Scope → List Level → Type 0
InScope kept others without levels = (w : Word) × ((is_among w others without ≡ true) × IsSome (in_scope_of kept w levels))

scope_common : (kept : List (ℕ × Scope)) (others without : Scope) (levels : List Level) → shares_scope kept others without levels ≡ true → InScope kept others without levels
unfolding InScope
scope_common kept others without [] h = absurd cc
scope_common kept others without (l ∷ outer) h = elim (either (shares_level kept others without l) (if is_further l.form then shares_scope kept others without outer else false) h) [
  | inl p ↦ (elim (either (shares l.names others without) (shares (member_names kept l.within) others without) p) [
    | inl q ↦ (let w = shares_common l.names others without q in (w.0, (w.1.0, else_left _ _ (else_left _ (in_names w.0 (member_names kept l.within)) w.1.1))))
    | inr q ↦ (let w = shares_common (member_names kept l.within) others without q in (w.0, (w.1.0, else_left _ _ (else_right (in_names w.0 l.names) _ w.1.1))))
  ])
  | inr q ↦ further (is_further l.form) q (λ r. scope_common kept others without outer r)
]
  where
    further : (b : Bool) → (if b then shares_scope kept others without outer else false) ≡ true → (shares_scope kept others without outer ≡ true → (w : Word) × ((is_among w others without ≡ true) × IsSome (in_scope_of kept w outer))) → (w : Word) × ((is_among w others without ≡ true) × IsSome (earliest (in_level kept w l) (if b then in_scope_of kept w outer else None)))
    further true q rest = let w = rest q in (w.0, (w.1.0, else_right (in_level kept w.0 l) _ w.1.1))
    further false q rest = absurd cc

common_scope : (kept : List (ℕ × Scope)) (others without : Scope) (levels : List Level) (w : Word) → is_among w others without ≡ true → IsSome (in_scope_of kept w levels) → shares_scope kept others without levels ≡ true
common_scope kept others without [] w p q = absurd cc
common_scope kept others without (l ∷ outer) w p q = elim (some_else (in_level kept w l) (if is_further l.form then in_scope_of kept w outer else None) q) [
  | inl a ↦ or_left (shares_level kept others without l) _ (elim (some_else (in_names w l.names) (in_names w (member_names kept l.within)) a) [
    | inl b ↦ or_left (shares l.names others without) (shares (member_names kept l.within) others without) (common_shares w l.names others without p b)
    | inr b ↦ or_right (shares l.names others without) (shares (member_names kept l.within) others without) (common_shares w (member_names kept l.within) others without p b)
  ])
  | inr a ↦ or_right (shares_level kept others without l) _ (further (is_further l.form) a (λ r. common_scope kept others without outer w p r))
]
  where
    further : (b : Bool) → IsSome (if b then in_scope_of kept w outer else None) → (IsSome (in_scope_of kept w outer) → shares_scope kept others without outer ≡ true) → (if b then shares_scope kept others without outer else false) ≡ true
    further true h rest = rest h
    further false h rest = absurd cc

Unlisted : Scopes → Members → Name → List Name → Breach → Type 0
Unlisted s parameters interaction listed b = (b.number ≡ 1) × (UnlistedParameter s parameters listed × (b.span ≡ interaction.span))

unlisted_first : (s : Scopes) (parameters : Members) (interaction : Name) (listed : List Name) → IsFirst (Unlisted s parameters interaction listed) (unlisted_twice s parameters interaction (listed_scope [] listed))
unfolding Unlisted InScope
unlisted_first s parameters interaction listed =
    let others = member_names s.kept parameters in
    let without = listed_scope [] listed in
    first_same (λ b. (shares_scope s.kept others without s.levels ≡ true) × ((b.number ≡ 1) × (b.span ≡ interaction.span))) (Unlisted s parameters interaction listed) (unlisted_twice s parameters interaction (listed_scope [] listed))
    (λ b w. (w.1.0, (let n = scope_common s.kept others without s.levels w.0 in (n.0, (of_others n.0 others listed n.1.0, n.1.1, not_listed n.0 others listed n.1.0)), w.1.1)))
    (λ b w. (common_scope s.kept others without s.levels w.1.0.0 (among w.1.0.0 others listed w.1.0.1.0 w.1.0.1.2) w.1.0.1.1, (w.0, w.1.1)))
    (first_if (shares_scope s.kept others without s.levels) 1 interaction.span)

Parameter : Scopes → Members → Name → List Name → Breach → Type 0
Parameter s parameters interaction listed b = (b.number ≡ 1) × SecondParameter s parameters interaction listed b.span

parameter_first : (s : Scopes) (parameters : Members) (interaction : Name) (listed : List Name) → IsFirst (Parameter s parameters interaction listed) (parameter_twice s parameters interaction listed)
unfolding Parameter Listed Unlisted nothing
parameter_first s parameters interaction listed =
    first_same (λ b. Listed s parameters listed b ⊎ Unlisted s parameters interaction listed b) (Parameter s parameters interaction listed) (parameter_twice s parameters interaction listed)
    (λ b h. elim h [ inl w ↦ (w.0, inl w.1) | inr w ↦ (w.0, inr w.1) ])
    (λ b w. elim w.1 as (λ _. Listed s parameters listed b ⊎ Unlisted s parameters interaction listed b) [ inl v ↦ inl (w.0, v) | inr v ↦ inr (w.0, v) ])
    (first_noted (Listed s parameters listed) (Unlisted s parameters interaction listed) (listed_twice None s parameters listed) (unlisted_twice s parameters interaction (listed_scope [] listed))
    (first_only (Listed s parameters listed) (listed_twice None s parameters listed) (listed_first nothing None s parameters listed first_nothing))
    (unlisted_first s parameters interaction listed))

-- ---- 2 and 3: names in use

Unseen : List Sought → Breach → Type 0
Unseen xs b = (b.number ≡ 2) × ((x : Sought) × (IsOne x xs × (x.found ≡ None) × (b.span ≡ x.name.span)))

Other : List Sought → Breach → Type 0
Other xs b = (b.number ≡ 3) × ((x : Sought) × (d : Declared) × (IsOne x xs × (x.found ≡ Some d) × (may_be x.need d.denotes ≡ false) × (b.span ≡ x.name.span)))

Misused : Sought → Breach → Type 0
Misused x b = ((b.number ≡ 2) × ((x.found ≡ None) × (b.span ≡ x.name.span))) ⊎ ((b.number ≡ 3) × ((d : Declared) × ((x.found ≡ Some d) × (may_be x.need d.denotes ≡ false) × (b.span ≡ x.name.span))))

negates : (b : Bool) → b ≡ false → not b ≡ true
negates b e = rw e refl

misused_first : (x : Sought) → IsFirst (Misused x) (misused x)
unfolding Misused
misused_first x = by x.found refl
  where
    by : (o : Option Declared) → x.found ≡ o → IsFirst (Misused x) (misused_as x o)
    by None e = first_same (λ b. (true ≡ true) × ((b.number ≡ 2) × (b.span ≡ x.name.span))) (Misused x) (Some (breach 2 x.name.span))
        (λ b w. inl (w.1.0, (e, w.1.1)))
        (λ b h. elim h [ inl w ↦ (refl, (w.0, w.1.1)) | inr w ↦ absurd (let f = w.1.1.0 in cc) ])
        (first_if true 2 x.name.span)
    by (Some d) e = first_same (λ b. (not (may_be x.need d.denotes) ≡ true) × ((b.number ≡ 3) × (b.span ≡ x.name.span))) (Misused x) (only_if (not (may_be x.need d.denotes)) (breach 3 x.name.span))
        (λ b w. inr (w.1.0, (d, (e, negated (may_be x.need d.denotes) w.0, w.1.1))))
        (λ b h. elim h [ inl w ↦ absurd (let f = w.1.0 in cc) | inr w ↦ (let m : w.1.0 ≡ d = (let f = w.1.1.0 in cc) in (negates (may_be x.need d.denotes) (subst (λ y. may_be x.need y.denotes ≡ false) m w.1.1.1), (w.0, w.1.1.2))) ])
        (first_if (not (may_be x.need d.denotes)) 3 x.name.span)

Misuses : List Sought → Breach → Type 0
Misuses xs b = Unseen xs b ⊎ Other xs b

misuses_first : (P : Breach → Type 0) (first : Option Breach) (xs : List Sought) → IsFirst P first → IsFirst (λ b. P b ⊎ Misuses xs b) (misuses first xs)
unfolding Misuses Unseen Other Misused
misuses_first P first [] f = first_same P (λ b. P b ⊎ Misuses [] b) first (λ b p. inl p) (λ b h. elim h [ inl p ↦ p | inr n ↦ (elim n as (λ _. P b) [ inl w ↦ absurd w.1.1.0 | inr w ↦ absurd w.1.2.0 ]) ]) f
misuses_first P first (x ∷ xs) f =
    let one = first_noted P (Misused x) first (misused x) f (misused_first x) in
    let rest = misuses_first (λ b. P b ⊎ Misused x b) (noted first (misused x)) xs one in
    first_same (λ b. (P b ⊎ Misused x b) ⊎ Misuses xs b) (λ b. P b ⊎ Misuses (x ∷ xs) b) (misuses first (x ∷ xs)) to from rest
  where
    to : (b : Breach) → (P b ⊎ Misused x b) ⊎ Misuses xs b → P b ⊎ Misuses (x ∷ xs) b
    to b (inl (inl p)) = inl p
    to b (inl (inr (inl w))) = inr (inl (w.0, (x, (inl refl, w.1.0, w.1.1))))
    to b (inl (inr (inr w))) = inr (inr (w.0, (x, w.1.0, (inl refl, w.1.1.0, w.1.1.1, w.1.1.2))))
    to b (inr (inl w)) = inr (inl (w.0, (w.1.0, (inr w.1.1.0, w.1.1.1, w.1.1.2))))
    to b (inr (inr w)) = inr (inr (w.0, (w.1.0, w.1.1, (inr w.1.2.0, w.1.2.1, w.1.2.2, w.1.2.3))))

    unseen : (b : Breach) → b.number ≡ 2 → (y : Sought) → IsOne y (x ∷ xs) → y.found ≡ None → b.span ≡ y.name.span → (P b ⊎ Misused x b) ⊎ Misuses xs b
    unseen b n y (inl e) u a = inl (inr (inl (n, (subst (λ z. z.found ≡ None) e u, subst (λ z. b.span ≡ z.name.span) e a))))
    unseen b n y (inr e) u a = inr (inl (n, (y, (e, u, a))))

    other : (b : Breach) → b.number ≡ 3 → (y : Sought) (d : Declared) → IsOne y (x ∷ xs) → y.found ≡ Some d → may_be y.need d.denotes ≡ false → b.span ≡ y.name.span → (P b ⊎ Misused x b) ⊎ Misuses xs b
    other b n y d (inl e) u m a = inl (inr (inr (n, (d, (subst (λ z. z.found ≡ Some d) e u, subst (λ z. may_be z.need d.denotes ≡ false) e m, subst (λ z. b.span ≡ z.name.span) e a)))))
    other b n y d (inr e) u m a = inr (inr (n, (y, d, (e, u, m, a))))

    from : (b : Breach) → P b ⊎ Misuses (x ∷ xs) b → (P b ⊎ Misused x b) ⊎ Misuses xs b
    from b (inl p) = inl (inl p)
    from b (inr (inl w)) = unseen b w.0 w.1.0 w.1.1.0 w.1.1.1 w.1.1.2
    from b (inr (inr w)) = other b w.0 w.1.0 w.1.1 w.1.2.0 w.1.2.1 w.1.2.2 w.1.2.3

-- ---- 4 and 5

States_at : Span → Bool → Bool → Bool → Breach → Type 0
States_at at declared initial transitions b = (b.number ≡ 4) × ((((declared ≡ true) × (initial ≡ false)) ⊎ ((declared ≡ false) × ((initial ≡ true) ⊎ (transitions ≡ true)))) × (b.span ≡ at))

states_first : (at : Span) (declared initial transitions : Bool) → IsFirst (States_at at declared initial transitions) (states_fault at declared initial transitions)
unfolding States_at
states_first at true initial transitions = first_same (λ b. (not initial ≡ true) × ((b.number ≡ 4) × (b.span ≡ at))) (States_at at true initial transitions) (only_if (not initial) (breach 4 at))
    (λ b w. (w.1.0, (inl (refl, negated initial w.0), w.1.1)))
    (λ b w. (elim w.1.0 as (λ _. not initial ≡ true) [ inl v ↦ negates initial v.1 | inr v ↦ absurd (let e = v.0 in cc) ], (w.0, w.1.1)))
    (first_if (not initial) 4 at)
states_first at false initial transitions = first_same (λ b. ((initial || transitions) ≡ true) × ((b.number ≡ 4) × (b.span ≡ at))) (States_at at false initial transitions) (only_if (initial || transitions) (breach 4 at))
    (λ b w. (w.1.0, (inr (refl, either initial transitions w.0), w.1.1)))
    (λ b w. (elim w.1.0 as (λ _. (initial || transitions) ≡ true) [ inl v ↦ absurd (let e = v.0 in cc) | inr v ↦ (elim v.1 as (λ _. (initial || transitions) ≡ true) [ inl i ↦ or_left initial transitions i | inr t ↦ or_right initial transitions t ]) ], (w.0, w.1.1)))
    (first_if (initial || transitions) 4 at)

Other_header : Members → Members → Span → Breach → Type 0
Other_header x y at e = (e.number ≡ 5) × ((h : ℕ) × (k : ℕ) × ((x ≡ members.KeptAt h) × (y ≡ members.KeptAt k) × (h ≢ k) × (e.span ≡ at)))

unequal : (m n : ℕ) → not (nat_eq m n) ≡ true → m ≢ n
unequal m n h e = grind (arith, nat_tests)

unequal_test : (m n : ℕ) → m ≢ n → not (nat_eq m n) ≡ true
unequal_test m n h = grind (arith, nat_tests)

header_first : (x y : Members) (at : Span) → IsFirst (Other_header x y at) (header_fault x y at)
unfolding Other_header
header_first members.Nothing y at = first_of_none (Other_header members.Nothing y at) (λ b w. let e = w.1.2.0 in cc)
header_first members.AtFault y at = first_of_none (Other_header members.AtFault y at) (λ b w. let e = w.1.2.0 in cc)
header_first (members.KeptAt h) members.Nothing at = first_of_none (Other_header (members.KeptAt h) members.Nothing at) (λ b w. let e = w.1.2.1 in cc)
header_first (members.KeptAt h) members.AtFault at = first_of_none (Other_header (members.KeptAt h) members.AtFault at) (λ b w. let e = w.1.2.1 in cc)
header_first (members.KeptAt h) (members.KeptAt k) at = first_same (λ e. (not (nat_eq h k) ≡ true) × ((e.number ≡ 5) × (e.span ≡ at))) (Other_header (members.KeptAt h) (members.KeptAt k) at) (only_if (not (nat_eq h k)) (breach 5 at))
    (λ e w. (w.1.0, (h, k, (refl, refl, unequal h k w.0, w.1.1))))
    (λ e w. let m : w.1.0 ≡ h = (let q = w.1.2.0 in cc) in let n : w.1.1 ≡ k = (let q = w.1.2.1 in cc) in (unequal_test h k (subst (λ x. x ≢ k) m (subst (λ x. w.1.0 ≢ x) n w.1.2.2)), (w.0, w.1.2.3)))
    (first_if (not (nat_eq h k)) 5 at)

-- ---- an event

unsought : (s : Scopes) (e : Event) (b : Breach) → sought s e ≡ [] → (NotVisible b.span s e → ⊥) × (OfOtherKind b.span s e → ⊥)
unsought s e b h = (
  λ w. let i : IsOne w.0 [] = subst (IsOne w.0) h w.1.0 in i,
  λ w. let i : IsOne w.0 [] = subst (IsOne w.0) h w.2.0 in i,
)

-- an event that breaks no rule
quiet : (s : Scopes) (e : Event) → ((b : Breach) → Broken b s e → ⊥) → IsFirst (λ b. Broken b s e) None
quiet s e never = first_of_none (λ b. Broken b s e) never

none_sought : (b : Breach) (s : Scopes) (e : Event) → sought s e ≡ [] → Broken b s e → ((b.number ≡ 1) × DeclaredTwice b.span s e) ⊎ (((b.number ≡ 4) × StatesAtFault b.span s e) ⊎ ((b.number ≡ 5) × OfOtherHeader b.span s e))
none_sought b s e h (inl w) = inl w
none_sought b s e h (inr (inl w)) = absurd ((unsought s e b h).0 w.1)
none_sought b s e h (inr (inr (inl w))) = absurd ((unsought s e b h).1 w.1)
none_sought b s e h (inr (inr (inr (inl w)))) = inr (inl w)
none_sought b s e h (inr (inr (inr (inr w)))) = inr (inr w)

still : (b : Breach) (s : Scopes) (e : Event) → sought s e ≡ [] → (DeclaredTwice b.span s e → ⊥) → (StatesAtFault b.span s e → ⊥) → (OfOtherHeader b.span s e → ⊥) → Broken b s e → ⊥
still b s e h p q r w = elim (none_sought b s e h w) [ inl v ↦ p v.1 | inr v ↦ (elim v as (λ _. ⊥) [ inl u ↦ q u.1 | inr u ↦ r u.1 ]) ]

used_first : (s : Scopes) (e : Event) → ((b : Breach) → DeclaredTwice b.span s e → ⊥) → ((b : Breach) → StatesAtFault b.span s e → ⊥) → ((b : Breach) → OfOtherHeader b.span s e → ⊥) → IsFirst (λ b. Broken b s e) (misuses None (sought s e))
unfolding Misuses Unseen Other nothing
used_first s e p q r = first_same (Misuses (sought s e)) (λ b. Broken b s e) (misuses None (sought s e))
    (λ b h. elim h [ inl w ↦ inr (inl w) | inr w ↦ inr (inr (inl w)) ])
    from
    (first_only (Misuses (sought s e)) (misuses None (sought s e)) (misuses_first nothing None (sought s e) first_nothing))
  where
    from : (b : Breach) → Broken b s e → Misuses (sought s e) b
    from b (inl w) = absurd (p b w.1)
    from b (inr (inl w)) = inl w
    from b (inr (inr (inl w))) = inr w
    from b (inr (inr (inr (inl w)))) = absurd (q b w.1)
    from b (inr (inr (inr (inr w)))) = absurd (r b w.1)

pub event_first : (s : Scopes) (e : Event) → IsFirst (λ b. Broken b s e) (breach_at s e)
unfolding Seconds Parameter States_at Other_header nothing
event_first s (Open f) = quiet s (Open f) (λ b. still b s (Open f) refl (λ w. w) (λ w. w) (λ w. w))
event_first s Close = quiet s Close (λ b. still b s Close refl (λ w. w) (λ w. w) (λ w. w))
event_first s (Keep span) = quiet s (Keep span) (λ b. still b s (Keep span) refl (λ w. w) (λ w. w) (λ w. w))
event_first s (Import h) = quiet s (Import h) (λ b. still b s (Import h) refl (λ w. w) (λ w. w) (λ w. w))
event_first s (Array at components) = quiet s (Array at components) (λ b. still b s (Array at components) refl (λ w. w) (λ w. w) (λ w. w))
event_first s (Receive ip interaction listed) = first_same (Parameter s (received s ip interaction) interaction (names_listed listed)) (λ b. Broken b s (Receive ip interaction listed)) (breach_at s (Receive ip interaction listed))
    (λ b w. inl w)
    (λ b w. elim (none_sought b s (Receive ip interaction listed) refl w) [ inl v ↦ v | inr v ↦ absurd (elim v as (λ _. ⊥) [ inl u ↦ u.1 | inr u ↦ u.1 ]) ])
    (parameter_first s (received s ip interaction) interaction (names_listed listed))
event_first s (Declare names k inside) = first_same (Seconds s names k (inside_of s inside)) (λ b. Broken b s (Declare names k inside)) (breach_at s (Declare names k inside))
    (λ b w. inl w)
    (λ b w. elim (none_sought b s (Declare names k inside) refl w) [ inl v ↦ v | inr v ↦ absurd (elim v as (λ _. ⊥) [ inl u ↦ u.1 | inr u ↦ u.1 ]) ])
    (first_only (Seconds s names k (inside_of s inside)) (twices None s names k (inside_of s inside)) (twices_first nothing None s names k (inside_of s inside) first_nothing))
event_first s (Use x n steps) = used_first s (Use x n steps) (λ b w. w) (λ b w. w) (λ b w. w)
event_first s (By role) = used_first s (By role) (λ b w. w) (λ b w. w) (λ b w. w)
event_first s (Init modvar body) = first_same (Other_header (inside_named s modvar need.ModuleVariable) (brought_by s (inside_named s body need.Body)) body.span) (λ b. Broken b s (Init modvar body)) (breach_at s (Init modvar body))
    (λ b w. inr (inr (inr (inr w))))
    (λ b w. elim (none_sought b s (Init modvar body) refl w) [ inl v ↦ absurd v.1 | inr v ↦ (elim v as (λ _. Other_header (inside_named s modvar need.ModuleVariable) (brought_by s (inside_named s body need.Body)) body.span b) [ inl u ↦ absurd u.1 | inr u ↦ u ]) ])
    (header_first (inside_named s modvar need.ModuleVariable) (brought_by s (inside_named s body need.Body)) body.span)
event_first s (States at declared initial transitions) = first_same (States_at at declared initial transitions) (λ b. Broken b s (States at declared initial transitions)) (breach_at s (States at declared initial transitions))
    (λ b w. inr (inr (inr (inl w))))
    (λ b w. elim (none_sought b s (States at declared initial transitions) refl w) [ inl v ↦ absurd v.1 | inr v ↦ (elim v as (λ _. States_at at declared initial transitions b) [ inl u ↦ u | inr u ↦ absurd u.1 ]) ])
    (states_first at declared initial transitions)

-- ---- all events

From : Scopes → Events → Breach → Type 0
From s es b = Somewhere (Broken b) s es

here_or_there : (s : Scopes) (e : Event) (es : Events) (b : Breach) → Broken b s e ⊎ From (after_one s e) es b → From s (e ∷ es) b
unfolding From
here_or_there s e es b (inl h) = record { before = []; event = e; rest = es; here = refl; holds = h }
here_or_there s e es b (inr n) = record { before = e ∷ n.before; event = n.event; rest = n.rest; here = ap (λ l. e ∷ l) n.here; holds = n.holds }

split : (s : Scopes) (e : Event) (es : Events) (b : Breach) → From s (e ∷ es) b → Broken b s e ⊎ From (after_one s e) es b
unfolding From
split s e es b n = by n.before n.here n.holds
  where
    by : (before : Events) → e ∷ es ≡ before ++ n.event ∷ n.rest → Broken b (after s before) n.event → Broken b s e ⊎ Somewhere (Broken b) (after_one s e) es
    by [] h k = let m : n.event ≡ e = cc in inl (subst (λ x. Broken b s x) m k)
    by (x ∷ before) h k = let m : x ≡ e = cc in inr (record { before = before; event = n.event; rest = n.rest; here = cc; holds = subst (λ y. Broken b (after (after_one s y) before) n.event) m k })

nowhere : (s : Scopes) (b : Breach) → From s [] b → ⊥
unfolding From
nowhere s b n = by n.before n.here
  where
    by : (before : Events) → [] ≡ before ++ n.event ∷ n.rest → ⊥
    by [] h = cc
    by (x ∷ before) h = cc

least_first : (P : Breach → Type 0) (first : Option Breach) (s : Scopes) (es : Events) → IsFirst P first → IsFirst (λ c. P c ⊎ From s es c) (least first s es)
least_first P first s [] f = first_same P (λ c. P c ⊎ From s [] c) first (λ b p. inl p) (λ b h. elim h [ inl p ↦ p | inr n ↦ absurd (nowhere s b n) ]) f
least_first P first s (e ∷ es) f =
    let one = first_noted P (λ c. Broken c s e) first (breach_at s e) f (event_first s e) in
    let rest = least_first (λ c. P c ⊎ Broken c s e) (noted first (breach_at s e)) (after_one s e) es one in
    first_same (λ c. (P c ⊎ Broken c s e) ⊎ From (after_one s e) es c) (λ c. P c ⊎ From s (e ∷ es) c) (least (noted first (breach_at s e)) (after_one s e) es)
    (λ b h. elim h [ inl q ↦ (elim q [ inl p ↦ inl p | inr k ↦ inr (here_or_there s e es b (inl k)) ]) | inr n ↦ inr (here_or_there s e es b (inr n)) ])
    (λ b h. elim h [ inl p ↦ inl (inl p) | inr n ↦ (elim (split s e es b n) [ inl k ↦ inl (inr k) | inr m ↦ inr m ]) ])
    rest

-- what the scan finds is reported of all that is broken
pub scan_first : (es : Events) → IsFirst (Breaks es) (least None start es)
unfolding From
scan_first es = first_only (Breaks es) (least None start es) (least_first nothing None start es first_nothing)
